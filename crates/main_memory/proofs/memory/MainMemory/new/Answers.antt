use Rattle.std.proofs.Common.{◌≡◌, length, refl, sym, ap, ◌∙◌}
use Rattle.std.proofs.Math.ListN.{replicate}
use Rattle.main_memory.specs.Frames.{free_frames, all_frames}
use Rattle.main_memory.proofs.BitLaws.{free-ones, length-all_frames}
use Rattle.main_memory.proofs.LendLaws.{is_memory}
use Rattle.main_memory.proofs.memory.MainMemory.new.Goals as goal

every : free_frames (replicate 256 18446744073709551615) ≡ all_frames
every = free-ones _ refl

pub invariant_of-result : goal.invariant_of-result
invariant_of-result c = record { size = c.in_ok-bytes.ensures; counted = sym (ap length every ∙ length-all_frames) }

pub returns-clause-free : goal.returns-clause-free
returns-clause-free c = every

pub returns-clause-every : goal.returns-clause-every
returns-clause-every c = ap length every ∙ length-all_frames

pub returns-clause-sound : goal.returns-clause-sound
returns-clause-sound c = is_memory c.in_ok-bytes.bytes _ c.in_ok-bytes.ensures
