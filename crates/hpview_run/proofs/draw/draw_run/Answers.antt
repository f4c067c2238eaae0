use Rattle.std.proofs.Common.{List, ℕ, subst}
use Rattle.std.proofs.lemmas.Result.{IfErr-weaker, IfOk-weaker}
use Rattle.run_view.specs.Captions.{caption_of}
use Rattle.run_view.specs.Views.{Views}
use Rattle.hpview_run.specs.Drawing.{IsDrawn}
use Rattle.hpview_run.proofs.LoadLaws.{both_ok, trace_is_inside, trace_refuses, view_inside, view_refuses}
use Rattle.hpview_run.proofs.draw.draw_run.Goals as goal

pub returns-in-Ok-clause-ok : goal.returns-in-Ok-clause-ok
returns-in-Ok-clause-ok c = IfOk-weaker c.draw_shown.result _ _ (λ picture is. record {
  stored = c.args.loaded.now.script;
  loads = c.requires;
  view = c.in-Ok.view;
  views = subst (λ (n : ℕ). Views c.args.loaded.now.script c.args.bytes.now n c.args.command.to c.in-Ok.view) c.saturating_sub-first.ensures c.in-Ok.ensures.ok;
  some = is.1;
  drawn = subst (λ (text : List ℕ). IsDrawn c.args.command.form (caption_of text) c.in-Ok.view picture.items) c.as_slice-text.ensures.value is.0;
}) (both_ok _ _ c.draw_shown.result c.draw_shown.ensures.ok c.draw_shown.ensures.some)

pub returns-in-Ok-clause-refused : goal.returns-in-Ok-clause-refused
returns-in-Ok-clause-refused c = IfErr-weaker c.draw_shown.result _ _ (λ fault is tells.
    view_refuses c.args.command tells c.args.loaded.now.script _ c.args.bytes.now _ _ c.in-Ok.view fault c.requires c.in-Ok.ensures.ok is) c.draw_shown.ensures.err

pub returns-in-Ok-clause-inside : goal.returns-in-Ok-clause-inside
returns-in-Ok-clause-inside c = IfErr-weaker c.draw_shown.result _ _ (λ fault is. view_inside c.args.command _ fault is) c.draw_shown.ensures.err

pub returns-in-Err-clause-refused : goal.returns-in-Err-clause-refused
returns-in-Err-clause-refused c = λ tells. trace_refuses c.args.command tells _ _ _ c.in-Err.fault c.from.result c.from.ensures c.requires c.in-Err.ensures.err

pub returns-in-Err-clause-inside : goal.returns-in-Err-clause-inside
returns-in-Err-clause-inside c = trace_is_inside c.in-Err.fault c.from.result c.from.ensures
