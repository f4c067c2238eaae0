use Rattle.std.proofs.Common.{◌≡◌}
use Rattle.run_plan.specs.Units.{units_below}
use Rattle.run_plan.proofs.sheet.Sheet.units.Given as goal

abbrev pub invariant-loop-unit : goal.invariant-loop-unit
invariant-loop-unit l = l.units.items ≡ units_below l.unit l.self
