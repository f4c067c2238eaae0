use Rattle.callers.specs.Asking.{GoesOn}
use Rattle.callers.proofs.both.drain.Given as goal

-- each event so far left it as it was
abbrev pub invariant-loop : goal.invariant-loop
invariant-loop g l = GoesOn l.fn.subsystem l.subsystem
