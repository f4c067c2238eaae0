use Rattle.driver_machine.proofs.ecc_repair.Flipping.{IsFlippedBelow}
use Rattle.driver_machine.proofs.ecc_repair.flip.Given as goal

abbrev pub invariant-loop-i : goal.invariant-loop-i
invariant-loop-i l = IsFlippedBelow l.fn.at l.fn.pattern l.fn.bytes l.bytes l.i l.burst
