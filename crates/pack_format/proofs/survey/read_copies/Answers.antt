use Rattle.std.proofs.Common.{ℕ, ◌&&◌, Bool, refl, sym, ap, ◌∙◌}
use Rattle.pack_geometry.specs.Pack.{Pack, is_marked}
use Rattle.pack_format.specs.Surveys.{all_marked}
use Rattle.pack_format.proofs.SurveyLaws.{all_more, all_none}
use Rattle.pack_format.proofs.StepLaws.{goes_same, goes_then, no_value, step_ok, step_on}
use Rattle.pack_format.proofs.survey.read_copies.Goals as goal

pub loop-k-init : goal.loop-k-init
loop-k-init g c = record {
  ready = c.requires.ready;
  all = λ t. sym (all_none c.args.job.kind (g.P.Packs.held c.args.packs.now c.args.job.unit));
  same = λ t. refl;
  goes = goes_same;
}

pub loop-k-preserved : goal.loop-k-preserved
loop-k-preserved g c =
    let so_far = c.loop-k.invariant in
    let mark = c.in_ok-marked.ensures in record {
      ready = mark.step.well;
      all =
          λ t.
          let told = mark.step.goes.never_again t in
          ap (λ (b : Bool). b && c.in_ok-marked.marked) (so_far.all told)
          ∙ ap (λ (b : Bool). all_marked c.args.job.kind (g.P.Packs.held c.args.packs.now c.args.job.unit) c.loop-k.k && b)
          (mark.answer t ∙ ap (λ (h : ℕ → Pack). is_marked (h c.args.job.unit) c.copy_block.result) (so_far.same told)
          ∙ ap (λ (n : ℕ). is_marked (g.P.Packs.held c.args.packs.now c.args.job.unit) n) c.copy_block.ensures)
          ∙ sym (all_more c.args.job.kind (g.P.Packs.held c.args.packs.now c.args.job.unit) c.loop-k.k);
      same = λ t. mark.same t ∙ so_far.same (mark.step.goes.never_again t);
      goes = goes_then so_far.goes mark.step.goes;
    }

pub returns-in_err-marked : goal.returns-in_err-marked
returns-in_err-marked g c =
    let so_far = c.loop-k.invariant in
    let mark = c.in_err-marked.ensures in record {
      all = no_value _ _ c.from_residual.ensures.0;
      same = λ t. mark.same t ∙ so_far.same (mark.step.goes.never_again t);
      step = step_on _ c.from_residual.ensures.1 so_far.goes mark.step (λ e. e);
    }

pub returns-clause-step : goal.returns-clause-step
returns-clause-step g c = step_ok _ c.loop-k.invariant.goes c.loop-k.invariant.ready
