use Rattle.std.proofs.Common.{◌≡◌}
use Rattle.callers.specs.Asking.{MayGoOn}
use Rattle.callers.proofs.both.read_from_both.Given as goal

-- so many reads were submitted
abbrev pub invariant-loop-i : goal.invariant-loop-i
invariant-loop-i g l = record {
  may : MayGoOn l.i l.subsystem;
  outstanding : l.subsystem.outstanding ≡ l.fn.subsystem.outstanding;
}
