use Rattle.std.proofs.Common.{◌≡◌, map, take}
use Rattle.run_plan.specs.Lanes.{told, lane_in}
use Rattle.run_plan.proofs.plan.lanes_for.Given as goal

abbrev pub invariant-loop-unit : goal.invariant-loop-unit
invariant-loop-unit l = map told l.lanes.items ≡ map (lane_in l.sheet) (take l.unit-index l.units)
