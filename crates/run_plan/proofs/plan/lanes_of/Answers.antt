use Rattle.std.proofs.Common.{map, ap, ◌∙◌}
use Rattle.std.proofs.lemmas.Result.{IfOk-weaker}
use Rattle.run_plan.specs.Lanes.{lane_in}
use Rattle.run_plan.proofs.plan.lanes_of.Goals as goal

pub returns : goal.returns
returns c = IfOk-weaker c.lanes_for.result _ _ (λ lanes is. is ∙ ap (map (lane_in c.args.sheet.now)) (c.as_slice.ensures.value ∙ c.in_ok-units.ensures)) c.lanes_for.ensures
