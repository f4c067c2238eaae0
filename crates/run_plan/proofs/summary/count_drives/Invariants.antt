use Rattle.std.proofs.Common.{◌≡◌, ◌≤◌, length}
use Rattle.run_plan.specs.Units.{units_below}
use Rattle.run_plan.proofs.summary.count_drives.Given as goal

abbrev pub invariant-loop-unit : goal.invariant-loop-unit
invariant-loop-unit l = record {
  counted : l.count ≡ length (units_below l.unit l.sheet);
  few : l.count ≤ l.unit;
}
