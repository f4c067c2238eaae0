use Rattle.driver_laws.proofs.shown.Blocks.{next_blocks_stay}
use Rattle.driver_laws.proofs.shown.reach.next_block_law.Goals as goal

pub returns : goal.returns
returns c = next_blocks_stay
