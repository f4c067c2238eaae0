use Rattle.std.proofs.Common.{ℕ, arith, refl, ap, ◌∙◌}
use Rattle.pack_geometry.specs.Geometry.{replacement_at}
use Rattle.pack_geometry.specs.Pack.{Pack, is_marked}
use Rattle.pack_format.proofs.StepLaws.{goes_same, goes_then, no_value, step_ok, step_on}
use Rattle.pack_format.proofs.survey.read_replacements.Goals as goal

pub loop-i-init : goal.loop-i-init
loop-i-init g c = record {
  ready = c.requires.ready;
  first = λ t i lt. absurd (omega (arith, lt));
  same = λ t. refl;
  goes = goes_same;
}

pub loop-i-preserved : goal.loop-i-preserved
loop-i-preserved g c =
    let so_far = c.loop-i.invariant in
    let mark = c.in_ok-marked.ensures in record {
      ready = mark.step.well;
      first = λ t.
          let told = mark.step.goes.never_again t in
          c.or_this-first.ensures c.args.job.kind (g.P.Packs.held c.args.packs.now c.args.job.unit) (so_far.first told)
          (mark.answer t ∙ ap (λ (h : ℕ → Pack). is_marked (h c.args.job.unit) c.replacement.result) (so_far.same told)
          ∙ ap (λ (n : ℕ). is_marked (g.P.Packs.held c.args.packs.now c.args.job.unit) n) (c.replacement.ensures ∙ ap (replacement_at c.args.job.kind) c.from.ensures));
      same = λ t. mark.same t ∙ so_far.same (mark.step.goes.never_again t);
      goes = goes_then so_far.goes mark.step.goes;
    }

pub returns-in_err-marked : goal.returns-in_err-marked
returns-in_err-marked g c =
    let so_far = c.loop-i.invariant in
    let mark = c.in_err-marked.ensures in record {
      first = no_value _ _ c.from_residual.ensures.0;
      same = λ t. mark.same t ∙ so_far.same (mark.step.goes.never_again t);
      step = step_on _ c.from_residual.ensures.1 so_far.goes mark.step (λ e. e);
    }

pub returns-clause-step : goal.returns-clause-step
returns-clause-step g c = step_ok _ c.loop-i.invariant.goes c.loop-i.invariant.ready
