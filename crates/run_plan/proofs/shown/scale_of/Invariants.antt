use Rattle.std.proofs.Common.{◌≡◌, take, fold}
use Rattle.run_plan.specs.Requests.{with_reach}
use Rattle.run_plan.proofs.shown.scale_of.Given as goal

abbrev pub invariant-loop-unit : goal.invariant-loop-unit
invariant-loop-unit l = l.top ≡ fold (with_reach l.sheet) 0 (take l.unit-index l.units)
