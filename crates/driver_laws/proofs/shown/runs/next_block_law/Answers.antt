use Rattle.driver_laws.proofs.shown.NextBlock.{next_blocks_show}
use Rattle.driver_laws.proofs.shown.runs.next_block_law.Goals as goal

pub returns : goal.returns
returns c = next_blocks_show
