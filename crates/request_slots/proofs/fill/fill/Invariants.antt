use Rattle.request_slots.proofs.FillLaws.{IsFilled}
use Rattle.request_slots.proofs.fill.fill.Given as goal

abbrev pub invariant-loop-k : goal.invariant-loop-k
invariant-loop-k l = IsFilled l.fn.memory l.memory l.buffer l.bytes l.k
