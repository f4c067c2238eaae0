use Rattle.std.proofs.lemmas.Result.{IfOk-weaker}
use Rattle.hpview_run.proofs.draw.events.Goals as goal

pub returns : goal.returns
returns c = IfOk-weaker c.events_text.result _ _ (λ text is. record { plan = c.in_ok-plan.plan; plans = c.in_ok-plan.ensures; tells = is }) c.events_text.ensures
