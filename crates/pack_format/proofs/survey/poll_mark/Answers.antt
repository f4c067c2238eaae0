use Rattle.std.proofs.Common.{refl}
use Rattle.pack_format.proofs.StepLaws.{no_value, step_failed, step_ok}
use Rattle.pack_format.proofs.testing.StageLaws.{read_keeps}
use Rattle.pack_format.proofs.SurveyLaws.{answer_once}
use Rattle.pack_format.proofs.survey.poll_mark.Goals as goal

pub returns-in_err-polled : goal.returns-in_err-polled
returns-in_err-polled g c =
    let read = c.in_err-polled.ensures in record {
      answer = no_value _ _ c.from_residual.ensures.0;
      same = read.failed;
      step = step_failed _ c.from_residual.ensures.1 read.tries refl;
    }

pub returns : goal.returns
returns g c =
    let read = c.in_ok-polled.ensures in record {
      answer = λ t. answer_once c.is_mark.result _ c.in_ok-polled.polled c.is_mark.ensures (read.polls.answer t);
      same = read_keeps c.args.job.unit c.args.block _ c.in_ok-polled.polled _ _ _ _ read.polls;
      step = step_ok _ read.tries.goes (record { unit = c.requires.ready.unit; rest = read.rest });
    }
