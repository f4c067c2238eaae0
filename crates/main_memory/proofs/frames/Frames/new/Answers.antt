use Rattle.main_memory.proofs.FillLaws.{fills_of_zeros}
use Rattle.main_memory.proofs.frames.Frames.new.Goals as goal

pub invariant_of-result : goal.invariant_of-result
invariant_of-result c =
    fills_of_zeros c.in_ok-fills.fills.items c.in_ok-bytes.bytes c.in_ok-fills.ensures.frames c.in_ok-fills.ensures.zeros c.in_ok-bytes.ensures.size c.in_ok-bytes.ensures.zeros
