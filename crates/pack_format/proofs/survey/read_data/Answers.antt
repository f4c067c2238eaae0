use Rattle.std.proofs.Common.{ℕ, arith, ap, refl, ◌∙◌}
use Rattle.pack_geometry.specs.Pack.{Pack, is_marked}
use Rattle.pack_geometry.specs.TableSpelling.{Table}
use Rattle.pack_format.proofs.SurveyLaws.{survey_none}
use Rattle.pack_format.proofs.StepLaws.{goes_same, goes_then, no_value, step_ok, step_on}
use Rattle.pack_format.proofs.survey.read_data.Goals as goal

pub loop-block-init : goal.loop-block-init
loop-block-init g c = record {
  ready = c.requires.ready;
  survey = λ t. survey_none c.args.job.kind c.args.job.serial (g.P.Packs.held c.args.packs.now c.args.job.unit) c.empty_table.result c.empty_table.ensures;
  headed = record { counted = omega arith; kind_is = ap (λ (t : Table). t.kind) c.empty_table.ensures; serial_is = ap (λ (t : Table). t.serial) c.empty_table.ensures };
  same = λ t. refl;
  goes = goes_same;
}

pub loop-block-preserved : goal.loop-block-preserved
loop-block-preserved g c =
    let so_far = c.loop-block.invariant in
    let mark = c.in_ok-marked.ensures in record {
      ready = mark.step.well;
      survey =
          λ t.
          let told = mark.step.goes.never_again t in
          c.take.ensures.survey c.args.job.serial (g.P.Packs.held c.args.packs.now c.args.job.unit) (so_far.survey told)
          (mark.answer t ∙ ap (λ (h : ℕ → Pack). is_marked (h c.args.job.unit) c.loop-block.block) (so_far.same told));
      headed = record { counted = c.take.ensures.headed.counted; kind_is = c.take.ensures.headed.kind_is; serial_is = c.take.ensures.headed.serial_is ∙ so_far.headed.serial_is };
      same = λ t. mark.same t ∙ so_far.same (mark.step.goes.never_again t);
      goes = goes_then so_far.goes mark.step.goes;
    }

pub returns-in_err-marked : goal.returns-in_err-marked
returns-in_err-marked g c =
    let is = c.from_residual.ensures.0 in
    let so_far = c.loop-block.invariant in
    let mark = c.in_err-marked.ensures in record {
      survey = no_value _ _ is;
      headed = no_value _ _ is;
      same = λ t. mark.same t ∙ so_far.same (mark.step.goes.never_again t);
      step = step_on _ c.from_residual.ensures.1 so_far.goes mark.step (λ e. e);
    }

pub returns-clause-step : goal.returns-clause-step
returns-clause-step g c = step_ok _ c.loop-block.invariant.goes c.loop-block.invariant.ready
