use Rattle.std.proofs.Common.{List, ℕ, sym, subst}
use Rattle.std.proofs.lemmas.Result.{IfErr-weaker, IfOk-weaker}
use Rattle.hpview_run.specs.Drawing.{Draws}
use Rattle.hpview_run.specs.Loading.{Refuses}
use Rattle.hpview_run.proofs.command.drawn.Goals as goal

pub returns-in-Ok-clause-ok : goal.returns-in-Ok-clause-ok
returns-in-Ok-clause-ok g c = IfOk-weaker c.drawn_beside.result _ _ (λ picture is t u.
    subst (λ (text : List ℕ). Draws c.args.command text (g.T.Source.left c.args.trace.now) picture.items) (sym (c.in-Ok.ensures.read t)) (is u)) c.drawn_beside.ensures.ok

pub returns-in-Ok-clause-refused : goal.returns-in-Ok-clause-refused
returns-in-Ok-clause-refused g c = IfErr-weaker c.drawn_beside.result _ _ (λ fault is t.
    subst (λ (text : List ℕ). Refuses c.args.command (g.T.Source.tells c.drawn_beside.new.trace) fault text (g.T.Source.left c.args.trace.now)) (sym (c.in-Ok.ensures.read t)) is) c.drawn_beside.ensures.refused

pub returns-in-Err-clause-refused : goal.returns-in-Err-clause-refused
returns-in-Err-clause-refused g c = λ t. c.in-Err.ensures.refused c.args.command (g.T.Source.tells c.args.trace.now) (g.T.Source.left c.args.trace.now) t
