use Rattle.std.proofs.Common.{ap, ◌∙◌}
use Rattle.hp_driver.specs.Subsystem.{State}
use Rattle.blocking_io.proofs.Calling.{submission_given, submission_sent, submission_halts}
use Rattle.blocking_io.proofs.asking.submit.Goals as goal

pub returns-in-Err : goal.returns-in-Err
returns-in-Err g c =
    record {
      gives = tt;
      stops = submission_halts g.T.Sink.tells g.T.Sink.taken c.args.trace.now c.submit.new.trace c.args.line _ c.args.subsystem.now c.submit.new.self _ _ c.requires.sent c.in-Err.ensures.does;
      going = tt;
      sent = tt;
      outstanding = c.submit.ensures.outstanding;
      never_again = c.submit.ensures.never_again;
      cause = record { later = c.in-Err.ensures.cause.later; failed = c.in-Err.ensures.cause.failed };
    }

pub returns-in-Ok : goal.returns-in-Ok
returns-in-Ok g c =
    record {
      gives = submission_given g.T.Sink.tells g.T.Sink.taken c.args.trace.now c.submit.new.trace c.args.line _ c.args.subsystem.now c.submit.new.self c.take_answers.new.subsystem _ _
          c.in-Ok.ensures.does c.requires.sent c.take_answers.ensures.taken c.take_answers.ensures.given;
      stops = tt;
      going = ap (λ (s : State). s.failed) c.take_answers.ensures.taken ∙ c.in-Ok.ensures.going;
      sent = submission_sent g.T.Sink.tells g.T.Sink.taken c.args.trace.now c.submit.new.trace c.args.line _ c.args.subsystem.now.world c.submit.new.self.world c.args.subsystem.now.kept c.submit.new.self.kept
          c.in-Ok.ensures.does;
      outstanding = ap (λ (s : State). s.outstanding) c.take_answers.ensures.taken ∙ c.submit.ensures.outstanding;
      never_again = c.submit.ensures.never_again;
      cause = record { later = c.in-Ok.ensures.cause.later; failed = tt };
    }
