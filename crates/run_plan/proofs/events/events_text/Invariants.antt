use Rattle.std.proofs.Common.{◌≡◌, fold, take}
use Rattle.run_plan.specs.Events.{front, with_lane, with_request}
use Rattle.run_plan.proofs.events.events_text.Given as goal

abbrev pub invariant-loop-lane : goal.invariant-loop-lane
invariant-loop-lane l = l.out.items ≡ fold (with_lane l.plan.window) front (take l.lane-index l.plan.lanes.items)

abbrev pub invariant-loop-request : goal.invariant-loop-request
invariant-loop-request l = l.out.items ≡ fold with_request (fold (with_lane l.plan.window) front l.plan.lanes.items) (take l.request-index l.plan.rows.items)
