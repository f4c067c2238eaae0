use Rattle.mass_text.proofs.BlockLaws.{length-content_text-le}
use Rattle.mass_text.proofs.line.content_law.Goals as goal

pub returns : goal.returns
returns c = length-content_text-le
