use Rattle.std.proofs.Common.{◌≡◌, false, IsTrue, sym, ap, ◌∙◌}
use Rattle.std.specs.Prelude.{Err}
use Rattle.driver_laws.specs.declared.answers.outcome.Stop.{Stop}
use Rattle.driver_laws.specs.declared.answers.outcome.Stop.TheVariants.{Sink}
use Rattle.driver_laws.specs.answers.Outcome.{IsFront}
use Rattle.hp_driver.specs.Inputs.{input_of}
use Rattle.hp_driver.specs.Subsystem.{State}
use Rattle.blocking_io.specs.Calls.{stage, telling, GivesEvent, EventStops}
use Rattle.blocking_io.proofs.Calling.{event_given, event_sent, event_halts, event_fails, event_unsent}
use Rattle.blocking_io.proofs.Readying.{err_is, err_on, no_less, through, later_causes, submit_causes, no_causes, rest_causes}
use Rattle.blocking_io.proofs.asking.happen.Goals as goal

pub returns-in_err-send_ahead : goal.returns-in_err-send_ahead
returns-in_err-send_ahead g c =
    record {
      gives = err_on (GivesEvent c.args.line (input_of c.args.event)
          (telling g.P.Packs.tells g.P.Packs.held g.T.Sink.tells g.T.Sink.taken c.args.subsystem.now c.args.packs.now c.args.trace.now c.args.reached.now c.args.into.now)
          (telling g.P.Packs.tells g.P.Packs.held g.T.Sink.tells g.T.Sink.taken c.send_ahead.new.subsystem c.args.packs.now c.send_ahead.new.trace c.args.reached.now c.args.into.now))
          c.from_residual.result c.in_err-send_ahead.field-0.0 c.from_residual.ensures.1;
      stops = err_is
          (λ (halt : Stop). EventStops halt (g.T.Sink.taken c.args.trace.now) c.args.line (input_of c.args.event)
          (telling g.P.Packs.tells g.P.Packs.held g.T.Sink.tells g.T.Sink.taken c.args.subsystem.now c.args.packs.now c.args.trace.now c.args.reached.now c.args.into.now)
          (stage g.P.Packs.tells g.P.Packs.held g.T.Sink.tells g.T.Sink.taken c.send_ahead.new.subsystem.world c.args.packs.now c.send_ahead.new.trace c.args.reached.now c.args.into.now))
          c.from_residual.result c.in_err-send_ahead.field-0.0 c.from_residual.ensures.1
          (event_unsent g.P.Packs.tells g.P.Packs.held g.T.Sink.tells g.T.Sink.taken c.args.packs.now c.args.trace.now c.send_ahead.new.trace c.args.line (input_of c.args.event) c.may_write-writes.result
          c.args.subsystem.now c.send_ahead.new.subsystem.world _ _ c.in_err-send_ahead.field-0.0 c.in_err-send_ahead.ensures.says.by c.law.ensures.noise c.requires.there c.in_err-send_ahead.ensures.says.front);
      going = err_on (c.send_ahead.new.subsystem.failed ≡ false) c.from_residual.result c.in_err-send_ahead.field-0.0 c.from_residual.ensures.1;
      sent = err_on (IsTrue (g.T.Sink.tells c.send_ahead.new.trace) → IsFront (g.T.Sink.taken c.args.trace.now) (g.T.Sink.taken c.send_ahead.new.trace)) c.from_residual.result c.in_err-send_ahead.field-0.0 c.from_residual.ensures.1;
      outstanding = ap (λ (s : State). s.outstanding) c.send_ahead.ensures.same;
      never_again = λ t. t;
      never_again_trace = c.in_err-send_ahead.ensures.says.never_again;
      causes = submit_causes c.from_residual.result c.in_err-send_ahead.field-0.0 (g.P.Packs.faults c.args.packs.now) (g.T.Sink.faults c.args.trace.now) (g.T.Sink.faults c.send_ahead.new.trace) c.from_residual.ensures.1 c.in_err-send_ahead.ensures.says.by
          c.in_err-send_ahead.ensures.cause.later c.in_err-send_ahead.ensures.cause.failed;
    }

pub returns-in-Ok : goal.returns-in-Ok
returns-in-Ok g c =
    record {
      gives = event_given g.P.Packs.tells g.P.Packs.held g.T.Sink.tells g.T.Sink.taken c.args.packs.now c.event.new.packs c.args.trace.now c.send_ahead.new.trace c.event.new.trace c.args.line (input_of c.args.event)
          c.may_write-writes.result c.args.subsystem.now c.send_ahead.new.subsystem c.event.new.self (record { took = c.in_ok-send_ahead.ensures.says.bytes; same = c.send_ahead.ensures.same })
          c.event.ensures.never_again_trace c.take_answers.new.subsystem _ _ c.in-Ok.ensures.does c.take_answers.ensures.taken c.take_answers.ensures.given;
      stops = tt;
      going = ap (λ (s : State). s.failed) c.take_answers.ensures.taken ∙ c.in-Ok.ensures.going;
      sent = event_sent g.P.Packs.tells g.P.Packs.held g.T.Sink.tells g.T.Sink.taken c.args.packs.now c.event.new.packs c.args.trace.now c.send_ahead.new.trace c.event.new.trace c.args.line (input_of c.args.event)
          c.may_write-writes.result c.args.subsystem.now c.send_ahead.new.subsystem c.event.new.self (record { took = c.in_ok-send_ahead.ensures.says.bytes; same = c.send_ahead.ensures.same })
          c.event.ensures.never_again_trace c.in-Ok.ensures.does;
      outstanding = ap (λ (s : State). s.outstanding) c.take_answers.ensures.taken ∙ c.event.ensures.outstanding ∙ ap (λ (s : State). s.outstanding) c.send_ahead.ensures.same;
      never_again = c.event.ensures.never_again;
      never_again_trace = λ t. c.in_ok-send_ahead.ensures.says.never_again (c.event.ensures.never_again_trace t);
      causes = no_causes (g.P.Packs.faults c.args.packs.now) (g.P.Packs.faults c.event.new.packs) (g.T.Sink.faults c.args.trace.now) (g.T.Sink.faults c.event.new.trace) c.in-Ok.ensures.causes.later_packs
          (through (g.T.Sink.faults c.args.trace.now) (g.T.Sink.faults c.send_ahead.new.trace) (g.T.Sink.faults c.event.new.trace) c.in_ok-send_ahead.ensures.cause.later c.in-Ok.ensures.causes.later);
    }

pub returns-in-Err-Sink : goal.returns-in-Err-Sink
returns-in-Err-Sink g c =
    record {
      gives = tt;
      stops = event_halts g.P.Packs.tells g.P.Packs.held g.T.Sink.tells g.T.Sink.taken c.args.packs.now c.event.new.packs c.args.trace.now c.send_ahead.new.trace c.event.new.trace c.args.line (input_of c.args.event)
          c.may_write-writes.result c.args.subsystem.now c.send_ahead.new.subsystem c.event.new.self (record { took = c.in_ok-send_ahead.ensures.says.bytes; same = c.send_ahead.ensures.same })
          c.event.ensures.never_again_trace _ _ c.law.ensures.noise c.requires.there c.in-Err-Sink.ensures.still c.in-Err-Sink.field-0 c.in-Err-Sink.field-0-is c.in-Err-Sink.ensures.does;
      going = tt;
      sent = tt;
      outstanding = c.event.ensures.outstanding ∙ ap (λ (s : State). s.outstanding) c.send_ahead.ensures.same;
      never_again = c.event.ensures.never_again;
      never_again_trace = λ t. c.in_ok-send_ahead.ensures.says.never_again (c.event.ensures.never_again_trace t);
      causes = later_causes {T = Unit {0}} (Err Sink) c.in-Err-Sink.field-0 (g.P.Packs.faults c.args.packs.now) (g.P.Packs.faults c.args.packs.now) (g.P.Packs.faults c.event.new.packs) (g.T.Sink.faults c.args.trace.now) (g.T.Sink.faults c.send_ahead.new.trace) (g.T.Sink.faults c.event.new.trace) (sym c.in-Err-Sink.field-0-is)
          (no_less (g.P.Packs.faults c.args.packs.now)) c.in_ok-send_ahead.ensures.cause.later c.in-Err-Sink.ensures.causes;
    }

pub returns-in-Err-Store : goal.returns-in-Err-Store
returns-in-Err-Store g c =
    record {
      gives = tt;
      stops = event_fails g.P.Packs.tells g.P.Packs.held g.T.Sink.tells g.T.Sink.taken c.args.packs.now c.event.new.packs c.args.trace.now c.send_ahead.new.trace c.event.new.trace c.args.line (input_of c.args.event)
          c.may_write-writes.result c.args.subsystem.now c.send_ahead.new.subsystem c.event.new.self (record { took = c.in_ok-send_ahead.ensures.says.bytes; same = c.send_ahead.ensures.same })
          c.event.ensures.never_again_trace g.T.Sink.faults c.send_behind.new.trace c.send_behind.result c.send_behind.ensures.sends c.may_write-writes.ensures c.law.ensures.noise c.requires.there
          c.in-Err-Store.ensures.still c.in-Err-Store.field-0 c.in-Err-Store.field-0-is c.in-Err-Store.ensures.does c.send_behind.new.subsystem.world _ _;
      going = tt;
      sent = tt;
      outstanding = ap (λ (s : State). s.outstanding) c.send_behind.ensures.same ∙ c.event.ensures.outstanding ∙ ap (λ (s : State). s.outstanding) c.send_ahead.ensures.same;
      never_again = c.event.ensures.never_again;
      never_again_trace = λ t. c.in_ok-send_ahead.ensures.says.never_again (c.event.ensures.never_again_trace (c.send_behind.ensures.sends.never_again t));
      causes = rest_causes c.in-Err-Store.field-0 c.send_behind.result (g.P.Packs.faults c.args.packs.now) (g.P.Packs.faults c.event.new.packs) (g.T.Sink.faults c.args.trace.now) (g.T.Sink.faults c.send_ahead.new.trace) (g.T.Sink.faults c.event.new.trace) (g.T.Sink.faults c.send_behind.new.trace) c.in-Err-Store.field-0-is c.in_ok-send_ahead.ensures.cause.later
          c.in-Err-Store.ensures.causes c.send_behind.ensures.sends.later c.send_behind.ensures.sends.rose;
    }
