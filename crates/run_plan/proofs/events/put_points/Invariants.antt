use Rattle.std.proofs.Common.{◌≡◌}
use Rattle.run_plan.specs.Events.{points_to}
use Rattle.run_plan.proofs.events.put_points.Given as goal

abbrev pub invariant-loop-column : goal.invariant-loop-column
invariant-loop-column l = l.out.items ≡ points_to l.plan.window l.unit l.points l.initial.out.items l.column
