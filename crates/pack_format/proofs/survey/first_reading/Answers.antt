use Rattle.std.proofs.Common.{IsTrue, ◌∙◌}
use Rattle.pack_format.proofs.StepLaws.{goes_same, goes_then, no_value, step_err, step_ok, step_on}
use Rattle.pack_format.proofs.ExitLaws.{judged, refusal_is_fault, refusal_is_not_store, store_reason, table_listed}
use Rattle.pack_format.proofs.survey.first_reading.Goals as goal

pub returns-in_err-survey : goal.returns-in_err-survey
returns-in_err-survey g c =
    let survey = c.in_err-survey.ensures in record {
      listed = no_value _ _ c.from_residual.ensures.0;
      same = survey.same;
      step = step_on _ c.from_residual.ensures.1 goes_same survey.step store_reason;
    }

pub returns-in_err-spare : goal.returns-in_err-spare
returns-in_err-spare g c =
    let survey = c.in_ok-survey.ensures in
    let spare = c.in_err-spare.ensures in record {
      listed = no_value _ _ c.from_residual-in_err-spare.ensures.0;
      same = λ t. spare.same t ∙ survey.same (spare.step.goes.never_again t);
      step = step_on _ c.from_residual-in_err-spare.ensures.1 survey.step.goes spare.step store_reason;
    }

pub returns-in_err-no_copy : goal.returns-in_err-no_copy
returns-in_err-no_copy g c =
    let survey = c.in_ok-survey.ensures in
    let spare = c.in_ok-spare.ensures in
    let copies = c.in_err-no_copy.ensures in record {
      listed = no_value _ _ c.from_residual-in_err-no_copy.ensures.0;
      same = λ t. let second = copies.step.goes.never_again t in copies.same t ∙ spare.same second ∙ survey.same (spare.step.goes.never_again second);
      step = step_on _ c.from_residual-in_err-no_copy.ensures.1 (goes_then survey.step.goes spare.step.goes) copies.step store_reason;
    }

pub returns-in_err-judge : goal.returns-in_err-judge
returns-in_err-judge g c =
    let error = c.from_residual-in_err-judge.ensures.1 in
    let survey = c.in_ok-survey.ensures in
    let spare = c.in_ok-spare.ensures in
    let copies = c.in_ok-no_copy.ensures in
    let refused = c.in_err-judge.ensures in record {
      listed = no_value _ _ c.from_residual-in_err-judge.ensures.0;
      same = λ t. let second = copies.step.goes.never_again t in copies.same t ∙ spare.same second ∙ survey.same (spare.step.goes.never_again second);
      step = step_err _ error (goes_then survey.step.goes (goes_then spare.step.goes copies.step.goes)) (refusal_is_not_store _ refused.refusal) (record {
        why = λ t.
            let second = copies.step.goes.never_again t in
            let first = spare.step.goes.never_again second in
            refused.why c.args.job.kind _
            (judged c.args.job.kind c.args.job.serial c.args.job.unit _ _ _ c.in_ok-survey.survey.table _ _ _ (survey.same first) (spare.same second ∙ survey.same first)
            (c.requires.fits (survey.step.goes.never_again first)) (survey.survey first) (spare.first second) (copies.all t));
        fault = refusal_is_fault c.args.job.kind c.args.job.serial _ refused.refusal;
      });
    }

pub returns : goal.returns
returns g c =
    let survey = c.in_ok-survey.ensures in
    let spare = c.in_ok-spare.ensures in
    let copies = c.in_ok-no_copy.ensures in
    let found = λ (t : IsTrue (g.P.Packs.tells c.read_copies.new.packs)).
    let second = copies.step.goes.never_again t in
    let first = spare.step.goes.never_again second in
    c.in_ok-judge.ensures.ok c.args.job.kind (g.P.Packs.held c.args.packs.now c.args.job.unit)
    (judged c.args.job.kind c.args.job.serial c.args.job.unit _ _ _ c.in_ok-survey.survey.table _ _ _ (survey.same first) (spare.same second ∙ survey.same first)
    (c.requires.fits (survey.step.goes.never_again first)) (survey.survey first) (spare.first second) (copies.all t)) in record {
      listed = record {
        kind_is = survey.headed.kind_is;
        serial_is = survey.headed.serial_is;
        can = found;
        table_is = λ t.
            table_listed c.args.job.kind c.args.job.serial _ c.in_ok-survey.survey.table _ (survey.survey (spare.step.goes.never_again (copies.step.goes.never_again t))) (found t);
      };
      same = λ t. let second = copies.step.goes.never_again t in copies.same t ∙ spare.same second ∙ survey.same (spare.step.goes.never_again second);
      step = step_ok _ (goes_then survey.step.goes (goes_then spare.step.goes copies.step.goes)) copies.step.well;
    }
