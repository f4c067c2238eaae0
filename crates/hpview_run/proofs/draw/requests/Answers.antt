use Rattle.std.proofs.lemmas.Result.{IfOk-weaker}
use Rattle.hpview_run.proofs.draw.requests.Goals as goal

pub returns : goal.returns
returns c = IfOk-weaker c.requests_text.result _ _ (λ text is. record { plan = c.in_ok-plan.plan; plans = c.in_ok-plan.ensures; tells = is }) c.requests_text.ensures
