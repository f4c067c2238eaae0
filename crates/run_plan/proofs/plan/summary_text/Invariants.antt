use Rattle.std.proofs.Common.{◌≡◌, fold, take}
use Rattle.run_plan.specs.Figures.{names, SumsUp, travel_of, asked_of}
use Rattle.run_plan.proofs.plan.summary_text.Given as goal

abbrev pub invariant-loop-lane : goal.invariant-loop-lane
invariant-loop-lane l = record {
  each : SumsUp l.plan.rows.items (take l.lane-index l.plan.lanes.items) names l.out.items;
  travel : l.travel ≡ fold travel_of 0 (take l.lane-index l.plan.lanes.items);
  as_asked : l.as_asked ≡ fold asked_of 0 (take l.lane-index l.plan.lanes.items);
}
