use Rattle.std.proofs.Common.{List, ℕ, subst}
use Rattle.std.proofs.lemmas.Result.{IfErr-weaker, IfOk-weaker}
use Rattle.hpview_run.specs.Drawing.{Draws}
use Rattle.hpview_run.specs.Loading.{Refuses}
use Rattle.hpview_run.proofs.LoadLaws.{draws_of, refuses_none, refuses_of}
use Rattle.hpview_run.proofs.command.drawn_beside.Goals as goal

pub returns-in-Ok-clause-ok : goal.returns-in-Ok-clause-ok
returns-in-Ok-clause-ok g c = IfOk-weaker c.draw_run.result _ _ (λ picture is t.
    draws_of c.args.command _ _ c.in-Ok.bytes.items picture.items (c.in-Ok.ensures.read t)
    (subst (λ (bytes : List ℕ). Draws c.args.command c.args.loaded.now.text.items bytes picture.items) c.as_slice.ensures.value is)) c.draw_run.ensures.ok

pub returns-in-Ok-clause-refused : goal.returns-in-Ok-clause-refused
returns-in-Ok-clause-refused g c = IfErr-weaker c.draw_run.result _ _ (λ fault is.
    refuses_of c.args.command (g.T.Source.tells c.load_trace.new.source) fault _ _ c.in-Ok.bytes.items (λ t. c.in-Ok.ensures.read t)
    (subst (λ (bytes : List ℕ). Refuses c.args.command (g.T.Source.tells c.load_trace.new.source) fault c.args.loaded.now.text.items bytes) c.as_slice.ensures.value (is (g.T.Source.tells c.load_trace.new.source)))) c.draw_run.ensures.refused

pub returns-in-Err-clause-refused : goal.returns-in-Err-clause-refused
returns-in-Err-clause-refused g c = refuses_none c.args.command (g.T.Source.tells c.load_trace.new.source) c.in-Err.fault _ _ c.in-Err.ensures.none
