use Rattle.std.proofs.Common.{arith}
use Rattle.std.proofs.lemmas.Grind.{common_steps}
use borrow.Rule.Slice.PartMut.{put_mid}
use Rattle.main_memory.specs.Bytes.{with_part}
use Rattle.main_memory.proofs.bytes.put_inside.Goals as goal

pub returns : goal.returns
unfolding with_part
returns c = grind (arith, common_steps, put_mid)
