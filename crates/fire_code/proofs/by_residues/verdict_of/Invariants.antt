-- The window clocked back so far.
use Rattle.fire_code.proofs.Clocks.{IsClocked}
use Rattle.fire_code.proofs.by_residues.verdict_of.Given as goal

abbrev pub invariant-loop-clocks : goal.invariant-loop-clocks
invariant-loop-clocks l = IsClocked l.fn.remainder l.clocks l.window
