use Rattle.std.proofs.Common.{arith}
use Rattle.std.proofs.lemmas.Grind.{common_steps}
use Rattle.main_memory.specs.Bytes.{part}
use Rattle.main_memory.proofs.bytes.get_inside.Goals as goal

pub returns : goal.returns
unfolding part
returns c = grind (arith, common_steps)
