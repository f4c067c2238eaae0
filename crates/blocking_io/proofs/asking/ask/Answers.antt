use Rattle.std.proofs.Common.{◌≡◌, ◌++◌, List, ℕ, refl, sym, ap, subst, arith, ◌∙◌}
use Rattle.driver_machine.specs.Events.{next_event}
use Rattle.driver_laws.specs.answers.Outcome.{IsFront}
use Rattle.driver_laws.specs.declared.answers.outcome.Stop.{Stop}
use Rattle.driver_laws.proofs.answers.Joined.{front_of_front}
use Rattle.trace_replay.specs.requests.Requests as told
use Rattle.trace_replay.specs.Moments.{Idle}
use Rattle.trace_replay.specs.Text.{moment_text}
use Rattle.hp_driver.specs.Passes.{IsQuiet}
use Rattle.hp_driver.specs.Inputs.{input_of}
use Rattle.hp_driver.specs.Subsystem.{State, asked}
use Rattle.hp_driver.proofs.Sent.{sent_behind}
use Rattle.blocking_io.specs.declared.reached.Reached.{Reached}
use Rattle.blocking_io.specs.declared.reached.Reached.TheVariants.{Before}
use Rattle.blocking_io.specs.Calls.{Stage, stage, telling}
use Rattle.blocking_io.specs.Asking.{IsReady, Answers}
use Rattle.blocking_io.specs.Stopping.{Stops}
use Rattle.blocking_io.proofs.Sending.{taken_front, sent_begin, taken_of_more}
use Rattle.blocking_io.proofs.Waiting.{SoAsked, SoDrained, asked_so, first_drained, first_turns, more_drained, more_turns, drained_sent}
use Rattle.blocking_io.proofs.Ending.{quiet_waiting, quiet_drained, drained_answers, nothing_answers}
use Rattle.blocking_io.proofs.Stopped.{submission_stopped, idle_stopped, first_stopped, later_stopped, drained_stopped, stops_on}
use Rattle.blocking_io.proofs.Readying.{may_submit, err_if, err_on, no_less, through, later_causes, told_causes, submit_causes, no_causes, never}
use Rattle.blocking_io.proofs.asking.ask.Goals as goal

pub submit-requires-clause-asked : goal.submit-requires-clause-asked
submit-requires-clause-asked g c = may_submit c.args.subsystem.now c.args.request c.args.from.now c.law.ensures.sound c.requires.may

pub returns-in_err-submit : goal.returns-in_err-submit
returns-in_err-submit g c =
    let r : told.Request = asked c.args.request c.args.from.now in
    let old : Stage = stage g.P.Packs.tells g.P.Packs.held g.T.Sink.tells g.T.Sink.taken c.args.subsystem.now.world c.args.packs.now c.args.trace.now (Before 0) c.args.into.now in
    let new : Stage = stage g.P.Packs.tells g.P.Packs.held g.T.Sink.tells g.T.Sink.taken c.submit.new.subsystem.world c.args.packs.now c.submit.new.trace c.submit.new.reached c.submit.new.into in
    record {
      answers = err_if (λ (reached : Reached). Answers c.args.line r old (stage g.P.Packs.tells g.P.Packs.held g.T.Sink.tells g.T.Sink.taken c.submit.new.subsystem.world c.args.packs.now c.submit.new.trace reached c.submit.new.into)) c.from_residual.result c.in_err-submit.field-0.0 c.from_residual.ensures.1;
      stops = stops_on c.args.line r old new (record { reached = Before 0; bytes = c.submit.new.into }) c.from_residual.result c.in_err-submit.field-0.0 c.from_residual.ensures.1
          (submission_stopped c.beginnings_law.ensures.quiet c.in_err-submit.field-0.0 c.args.line r old new c.requires.line (c.in_err-submit.ensures.stops (g.P.Packs.tells c.args.packs.now) (g.P.Packs.held c.args.packs.now)));
      ready = err_on (IsReady c.submit.new.subsystem) c.from_residual.result c.in_err-submit.field-0.0 c.from_residual.ensures.1;
      outstanding = c.in_err-submit.ensures.outstanding;
      never_again = λ t. t;
      never_again_trace = c.in_err-submit.ensures.never_again;
      causes = submit_causes c.from_residual.result c.in_err-submit.field-0.0 (g.P.Packs.faults c.args.packs.now) (g.T.Sink.faults c.args.trace.now) (g.T.Sink.faults c.submit.new.trace) c.from_residual.ensures.1
          (c.in_err-submit.ensures.stops (g.P.Packs.tells c.args.packs.now) (g.P.Packs.held c.args.packs.now)).by c.in_err-submit.ensures.cause.later c.in_err-submit.ensures.cause.failed;
    }

pub returns-in_err-send : goal.returns-in_err-send
returns-in_err-send g c =
    let r : told.Request = asked c.args.request c.args.from.now in
    let old : Stage = stage g.P.Packs.tells g.P.Packs.held g.T.Sink.tells g.T.Sink.taken c.args.subsystem.now.world c.args.packs.now c.args.trace.now (Before 0) c.args.into.now in
    let mid : Stage = telling g.P.Packs.tells g.P.Packs.held g.T.Sink.tells g.T.Sink.taken c.submit.new.subsystem c.args.packs.now c.submit.new.trace c.submit.new.reached c.submit.new.into in
    let new : Stage = stage g.P.Packs.tells g.P.Packs.held g.T.Sink.tells g.T.Sink.taken c.send.new.subsystem.world c.args.packs.now c.send.new.trace (Before 0) c.submit.new.into in
    let so : SoAsked c.args.line r old mid = asked_so c.args.line r old mid c.law.ensures.sound (c.law.ensures.work c.requires.may.ready.going) c.requires.may.ready.quiet c.requires.may.request c.requires.line
    (c.in_ok-submit.ensures.gives (g.P.Packs.tells c.args.packs.now) (g.P.Packs.held c.args.packs.now)) in
    let says = c.in_err-send.ensures.says in
    record {
      answers = err_if (λ (reached : Reached). Answers c.args.line r old (stage g.P.Packs.tells g.P.Packs.held g.T.Sink.tells g.T.Sink.taken c.send.new.subsystem.world c.args.packs.now c.send.new.trace reached c.submit.new.into)) c.from_residual-in_err-send.result c.in_err-send.field-0.0 c.from_residual-in_err-send.ensures.1;
      stops = stops_on c.args.line r old new new.given c.from_residual-in_err-send.result c.in_err-send.field-0.0 c.from_residual-in_err-send.ensures.1
          (subst (λ (s : Stop). Stops s c.args.line r old new) (sym says.by)
          (idle_stopped c.args.line r old mid new c.requires.line says.never_again c.in_default.ensures.over refl
          (λ t. sent_behind (g.T.Sink.taken c.args.trace.now) (g.T.Sink.taken c.submit.new.trace) (g.T.Sink.taken c.send.new.trace) c.submit.new.subsystem.kept
          (c.in_ok-submit.ensures.sent (says.never_again t)) (says.front t))
          (λ t. taken_of_more (g.T.Sink.taken c.submit.new.trace) (g.T.Sink.taken c.send.new.trace) c.submit.new.subsystem.kept (moment_text (Idle c.args.line)) (says.front t)) so));
      ready = err_on (IsReady c.send.new.subsystem) c.from_residual-in_err-send.result c.in_err-send.field-0.0 c.from_residual-in_err-send.ensures.1;
      outstanding = ap (λ (s : State). s.outstanding) c.send.ensures.same ∙ c.in_ok-submit.ensures.outstanding;
      never_again = λ t. t;
      never_again_trace = λ t. c.in_ok-submit.ensures.never_again (says.never_again t);
      causes = told_causes c.from_residual-in_err-send.result c.in_err-send.field-0.0 (g.P.Packs.faults c.args.packs.now) (g.P.Packs.faults c.args.packs.now) (g.T.Sink.faults c.args.trace.now) (g.T.Sink.faults c.submit.new.trace) (g.T.Sink.faults c.send.new.trace)
          c.from_residual-in_err-send.ensures.1 says.by (no_less (g.P.Packs.faults c.args.packs.now)) c.in_ok-submit.ensures.cause.later c.in_err-send.ensures.cause.later c.in_err-send.ensures.cause.failed;
    }

pub returns-in_err-say_idle : goal.returns-in_err-say_idle
returns-in_err-say_idle g c =
    let r : told.Request = asked c.args.request c.args.from.now in
    let old : Stage = stage g.P.Packs.tells g.P.Packs.held g.T.Sink.tells g.T.Sink.taken c.args.subsystem.now.world c.args.packs.now c.args.trace.now (Before 0) c.args.into.now in
    let mid : Stage = telling g.P.Packs.tells g.P.Packs.held g.T.Sink.tells g.T.Sink.taken c.submit.new.subsystem c.args.packs.now c.submit.new.trace c.submit.new.reached c.submit.new.into in
    let new : Stage = stage g.P.Packs.tells g.P.Packs.held g.T.Sink.tells g.T.Sink.taken c.send.new.subsystem.world c.args.packs.now c.say_idle.new.trace (Before 0) c.submit.new.into in
    let so : SoAsked c.args.line r old mid = asked_so c.args.line r old mid c.law.ensures.sound (c.law.ensures.work c.requires.may.ready.going) c.requires.may.ready.quiet c.requires.may.request c.requires.line
    (c.in_ok-submit.ensures.gives (g.P.Packs.tells c.args.packs.now) (g.P.Packs.held c.args.packs.now)) in
    let sends = c.in_ok-send.ensures.says in
    let says = c.in_err-say_idle.ensures.says in
    let sent : List ℕ = g.T.Sink.taken c.send.new.trace in
    record {
      answers = err_if (λ (reached : Reached). Answers c.args.line r old (stage g.P.Packs.tells g.P.Packs.held g.T.Sink.tells g.T.Sink.taken c.send.new.subsystem.world c.args.packs.now c.say_idle.new.trace reached c.submit.new.into)) c.from_residual-in_err-say_idle.result c.in_err-say_idle.field-0.0 c.from_residual-in_err-say_idle.ensures.1;
      stops = stops_on c.args.line r old new new.given c.from_residual-in_err-say_idle.result c.in_err-say_idle.field-0.0 c.from_residual-in_err-say_idle.ensures.1
          (subst (λ (s : Stop). Stops s c.args.line r old new) (sym says.by)
          (idle_stopped c.args.line r old mid new c.requires.line (λ t. sends.never_again (says.never_again t)) c.in_default.ensures.over refl
          (λ t. sent_behind (g.T.Sink.taken c.args.trace.now) sent (g.T.Sink.taken c.say_idle.new.trace) (moment_text (Idle c.args.line))
          (sent_begin (g.T.Sink.taken c.args.trace.now) (g.T.Sink.taken c.submit.new.trace) sent c.submit.new.subsystem.kept
          (c.in_ok-submit.ensures.sent (sends.never_again (says.never_again t))) (sends.bytes (says.never_again t))) (says.front t))
          (λ t. subst (λ (text : List ℕ). IsFront (g.T.Sink.taken c.say_idle.new.trace) (text ++ moment_text (Idle c.args.line))) (sends.bytes (says.never_again t))
          (taken_front sent (g.T.Sink.taken c.say_idle.new.trace) (moment_text (Idle c.args.line)) (says.front t))) so));
      ready = err_on (IsReady c.send.new.subsystem) c.from_residual-in_err-say_idle.result c.in_err-say_idle.field-0.0 c.from_residual-in_err-say_idle.ensures.1;
      outstanding = ap (λ (s : State). s.outstanding) c.send.ensures.same ∙ c.in_ok-submit.ensures.outstanding;
      never_again = λ t. t;
      never_again_trace = λ t. c.in_ok-submit.ensures.never_again (sends.never_again (says.never_again t));
      causes = told_causes c.from_residual-in_err-say_idle.result c.in_err-say_idle.field-0.0 (g.P.Packs.faults c.args.packs.now) (g.P.Packs.faults c.args.packs.now) (g.T.Sink.faults c.args.trace.now) (g.T.Sink.faults c.send.new.trace) (g.T.Sink.faults c.say_idle.new.trace)
          c.from_residual-in_err-say_idle.ensures.1 says.by (no_less (g.P.Packs.faults c.args.packs.now)) (through (g.T.Sink.faults c.args.trace.now) (g.T.Sink.faults c.submit.new.trace) (g.T.Sink.faults c.send.new.trace) c.in_ok-submit.ensures.cause.later c.in_ok-send.ensures.cause.later)
          c.in_err-say_idle.ensures.cause.later c.in_err-say_idle.ensures.cause.failed;
    }

pub returns-in_default : goal.returns-in_default
returns-in_default g c =
    let r : told.Request = asked c.args.request c.args.from.now in
    let old : Stage = stage g.P.Packs.tells g.P.Packs.held g.T.Sink.tells g.T.Sink.taken c.args.subsystem.now.world c.args.packs.now c.args.trace.now (Before 0) c.args.into.now in
    let mid : Stage = telling g.P.Packs.tells g.P.Packs.held g.T.Sink.tells g.T.Sink.taken c.submit.new.subsystem c.args.packs.now c.submit.new.trace c.submit.new.reached c.submit.new.into in
    let new : Stage = stage g.P.Packs.tells g.P.Packs.held g.T.Sink.tells g.T.Sink.taken c.send.new.subsystem.world c.args.packs.now c.say_idle.new.trace c.submit.new.reached c.submit.new.into in
    let so : SoAsked c.args.line r old mid = asked_so c.args.line r old mid c.law.ensures.sound (c.law.ensures.work c.requires.may.ready.going) c.requires.may.ready.quiet c.requires.may.request c.requires.line
    (c.in_ok-submit.ensures.gives (g.P.Packs.tells c.args.packs.now) (g.P.Packs.held c.args.packs.now)) in
    let sends = c.in_ok-send.ensures.says in
    let says = c.in_ok-say_idle.ensures.says in
    let same = c.send.ensures.same in
    record {
      answers = nothing_answers c.args.line r old mid new c.law.ensures.sound (c.law.ensures.work c.requires.may.ready.going) c.requires.may.ready.quiet c.requires.may.unit c.requires.may.request c.requires.line
          c.in_default.ensures.over (ap (λ (s : State). s.world) c.send.ensures.same) refl refl (λ t. sends.never_again (says.never_again t))
          (λ t. says.bytes t ∙ ap (λ (text : List ℕ). text ++ moment_text (Idle c.args.line)) (sends.bytes (says.never_again t))) so;
      stops = tt;
      ready = record {
        quiet = subst IsQuiet (sym (ap (λ (s : State). s.world) same)) (quiet_waiting 812800 c.submit.new.subsystem.world so.waits (c.in_default.ensures.none.0 refl) so.none);
        going = ap (λ (s : State). s.failed) same ∙ c.in_ok-submit.ensures.going;
        sent = ap (λ (s : State). s.kept) same;
      };
      outstanding = ap (λ (s : State). s.outstanding) c.send.ensures.same ∙ c.in_ok-submit.ensures.outstanding;
      never_again = λ t. t;
      never_again_trace = λ t. c.in_ok-submit.ensures.never_again (sends.never_again (says.never_again t));
      causes = no_causes (g.P.Packs.faults c.args.packs.now) (g.P.Packs.faults c.args.packs.now) (g.T.Sink.faults c.args.trace.now) (g.T.Sink.faults c.say_idle.new.trace) (no_less (g.P.Packs.faults c.args.packs.now))
          (through (g.T.Sink.faults c.args.trace.now) (g.T.Sink.faults c.send.new.trace) (g.T.Sink.faults c.say_idle.new.trace) (through (g.T.Sink.faults c.args.trace.now) (g.T.Sink.faults c.submit.new.trace) (g.T.Sink.faults c.send.new.trace) c.in_ok-submit.ensures.cause.later c.in_ok-send.ensures.cause.later)
          c.in_ok-say_idle.ensures.cause.later);
    }

pub happen-requires-clause-none_waits : goal.happen-requires-clause-none_waits
happen-requires-clause-none_waits g c =
    let r : told.Request = asked c.args.request c.args.from.now in
    let old : Stage = stage g.P.Packs.tells g.P.Packs.held g.T.Sink.tells g.T.Sink.taken c.args.subsystem.now.world c.args.packs.now c.args.trace.now (Before 0) c.args.into.now in
    let mid : Stage = telling g.P.Packs.tells g.P.Packs.held g.T.Sink.tells g.T.Sink.taken c.submit.new.subsystem c.args.packs.now c.submit.new.trace c.submit.new.reached c.submit.new.into in
    let so : SoAsked c.args.line r old mid = asked_so c.args.line r old mid c.law.ensures.sound (c.law.ensures.work c.requires.may.ready.going) c.requires.may.ready.quiet c.requires.may.request c.requires.line
    (c.in_ok-submit.ensures.gives (g.P.Packs.tells c.args.packs.now) (g.P.Packs.held c.args.packs.now)) in
    so.none

pub returns-in_err-happen : goal.returns-in_err-happen
returns-in_err-happen g c =
    let r : told.Request = asked c.args.request c.args.from.now in
    let old : Stage = stage g.P.Packs.tells g.P.Packs.held g.T.Sink.tells g.T.Sink.taken c.args.subsystem.now.world c.args.packs.now c.args.trace.now (Before 0) c.args.into.now in
    let mid : Stage = telling g.P.Packs.tells g.P.Packs.held g.T.Sink.tells g.T.Sink.taken c.submit.new.subsystem c.args.packs.now c.submit.new.trace c.submit.new.reached c.submit.new.into in
    let new : Stage = stage g.P.Packs.tells g.P.Packs.held g.T.Sink.tells g.T.Sink.taken c.happen.new.subsystem.world c.happen.new.packs c.happen.new.trace c.happen.new.reached c.happen.new.into in
    let so : SoAsked c.args.line r old mid = asked_so c.args.line r old mid c.law.ensures.sound (c.law.ensures.work c.requires.may.ready.going) c.requires.may.ready.quiet c.requires.may.request c.requires.line
    (c.in_ok-submit.ensures.gives (g.P.Packs.tells c.args.packs.now) (g.P.Packs.held c.args.packs.now)) in
    record {
      answers = err_if (λ (reached : Reached). Answers c.args.line r old (stage g.P.Packs.tells g.P.Packs.held g.T.Sink.tells g.T.Sink.taken c.happen.new.subsystem.world c.happen.new.packs c.happen.new.trace reached c.happen.new.into)) c.from_residual-in_err-happen.result c.in_err-happen.field-0.0 c.from_residual-in_err-happen.ensures.1;
      stops = stops_on c.args.line r old new (record { reached = Before 0; bytes = c.happen.new.into }) c.from_residual-in_err-happen.result c.in_err-happen.field-0.0 c.from_residual-in_err-happen.ensures.1
          (first_stopped c.beginnings_law.ensures.quiet c.next_block_law.ensures c.in_err-happen.field-0.0 c.args.line r (input_of c.in-Some.first) old mid new (g.T.Sink.taken c.submit.new.trace) c.requires.line
          c.in_err-happen.ensures.never_again_trace (λ t. c.in_ok-submit.ensures.sent (c.in_err-happen.ensures.never_again_trace t))
          c.law-2.ensures.sound (c.law-2.ensures.work c.in_ok-submit.ensures.going) c.in-Some.ensures.next so c.in_err-happen.ensures.stops);
      ready = err_on (IsReady c.happen.new.subsystem) c.from_residual-in_err-happen.result c.in_err-happen.field-0.0 c.from_residual-in_err-happen.ensures.1;
      outstanding = c.in_err-happen.ensures.outstanding ∙ c.in_ok-submit.ensures.outstanding;
      never_again = c.in_err-happen.ensures.never_again;
      never_again_trace = λ t. c.in_ok-submit.ensures.never_again (c.in_err-happen.ensures.never_again_trace t);
      causes = later_causes c.from_residual-in_err-happen.result c.in_err-happen.field-0.0 (g.P.Packs.faults c.args.packs.now) (g.P.Packs.faults c.args.packs.now) (g.P.Packs.faults c.happen.new.packs) (g.T.Sink.faults c.args.trace.now) (g.T.Sink.faults c.submit.new.trace) (g.T.Sink.faults c.happen.new.trace)
          c.from_residual-in_err-happen.ensures.1 (no_less (g.P.Packs.faults c.args.packs.now)) c.in_ok-submit.ensures.cause.later c.in_err-happen.ensures.causes;
    }

pub loop-turn-init : goal.loop-turn-init
loop-turn-init g c =
    let r : told.Request = asked c.args.request c.args.from.now in
    let old : Stage = stage g.P.Packs.tells g.P.Packs.held g.T.Sink.tells g.T.Sink.taken c.args.subsystem.now.world c.args.packs.now c.args.trace.now (Before 0) c.args.into.now in
    let mid : Stage = telling g.P.Packs.tells g.P.Packs.held g.T.Sink.tells g.T.Sink.taken c.submit.new.subsystem c.args.packs.now c.submit.new.trace c.submit.new.reached c.submit.new.into in
    let new : Stage = telling g.P.Packs.tells g.P.Packs.held g.T.Sink.tells g.T.Sink.taken c.happen.new.subsystem c.happen.new.packs c.happen.new.trace c.happen.new.reached c.happen.new.into in
    let so : SoAsked c.args.line r old mid = asked_so c.args.line r old mid c.law.ensures.sound (c.law.ensures.work c.requires.may.ready.going) c.requires.may.ready.quiet c.requires.may.request c.requires.line
    (c.in_ok-submit.ensures.gives (g.P.Packs.tells c.args.packs.now) (g.P.Packs.held c.args.packs.now)) in
    let happens = c.in_ok-happen.ensures in
    let drained : SoDrained c.args.line r old new = first_drained c.args.line r (input_of c.in-Some.first) old mid new c.requires.line happens.never_again happens.never_again_trace
    c.law-2.ensures.sound (c.law-2.ensures.work c.in_ok-submit.ensures.going) c.in-Some.ensures.next so happens.gives in
    let one = c.in_ok-submit.ensures.cause.later in
    let other = happens.causes.later in
    record {
      never_again = happens.never_again;
      never_again_trace = λ t. c.in_ok-submit.ensures.never_again (happens.never_again_trace t);
      later = happens.causes.later_packs;
      later_trace = omega (arith, one, other);
      going = happens.going;
      sent = λ t. front_of_front (g.T.Sink.taken c.args.trace.now) (g.T.Sink.taken c.submit.new.trace) (g.T.Sink.taken c.happen.new.trace)
          (c.in_ok-submit.ensures.sent (happens.never_again_trace t)) (happens.sent t);
      outstanding = happens.outstanding ∙ c.in_ok-submit.ensures.outstanding;
      none_waits = drained.none;
      turns = first_turns c.args.line r (input_of c.in-Some.first) old mid new c.requires.line c.in-Some.ensures.next so happens.gives;
      drained = drained;
    }

pub returns-in_err-send-2 : goal.returns-in_err-send-2
returns-in_err-send-2 g c =
    let r : told.Request = asked c.args.request c.args.from.now in
    let old : Stage = stage g.P.Packs.tells g.P.Packs.held g.T.Sink.tells g.T.Sink.taken c.args.subsystem.now.world c.args.packs.now c.args.trace.now (Before 0) c.args.into.now in
    let mid : Stage = telling g.P.Packs.tells g.P.Packs.held g.T.Sink.tells g.T.Sink.taken c.loop-turn.subsystem c.loop-turn.packs c.loop-turn.trace c.loop-turn.reached c.loop-turn.into in
    let new : Stage = stage g.P.Packs.tells g.P.Packs.held g.T.Sink.tells g.T.Sink.taken c.send-in_default-next_event.new.subsystem.world c.loop-turn.packs c.send-in_default-next_event.new.trace (Before 0) c.loop-turn.into in
    let so = c.loop-turn.invariant in
    let says = c.in_err-send-2.ensures.says in
    record {
      answers = err_if (λ (reached : Reached). Answers c.args.line r old (stage g.P.Packs.tells g.P.Packs.held g.T.Sink.tells g.T.Sink.taken c.send-in_default-next_event.new.subsystem.world c.loop-turn.packs c.send-in_default-next_event.new.trace reached c.loop-turn.into)) c.from_residual-in_err-send-2.result c.in_err-send-2.field-0.0 c.from_residual-in_err-send-2.ensures.1;
      stops = stops_on c.args.line r old new new.given c.from_residual-in_err-send-2.result c.in_err-send-2.field-0.0 c.from_residual-in_err-send-2.ensures.1
          (subst (λ (s : Stop). Stops s c.args.line r old new) (sym says.by)
          (drained_stopped c.args.line r old mid new c.requires.line (λ t. t) says.never_again refl
          (λ t. sent_behind (g.T.Sink.taken c.args.trace.now) (g.T.Sink.taken c.loop-turn.trace) (g.T.Sink.taken c.send-in_default-next_event.new.trace) c.loop-turn.subsystem.kept (so.sent (says.never_again t)) (says.front t))
          (λ t. taken_front (g.T.Sink.taken c.loop-turn.trace) (g.T.Sink.taken c.send-in_default-next_event.new.trace) c.loop-turn.subsystem.kept (says.front t)) so.drained));
      ready = err_on (IsReady c.send-in_default-next_event.new.subsystem) c.from_residual-in_err-send-2.result c.in_err-send-2.field-0.0 c.from_residual-in_err-send-2.ensures.1;
      outstanding = ap (λ (s : State). s.outstanding) c.send-in_default-next_event.ensures.same ∙ so.outstanding;
      never_again = so.never_again;
      never_again_trace = λ t. so.never_again_trace (says.never_again t);
      causes = told_causes c.from_residual-in_err-send-2.result c.in_err-send-2.field-0.0 (g.P.Packs.faults c.args.packs.now) (g.P.Packs.faults c.loop-turn.packs) (g.T.Sink.faults c.args.trace.now) (g.T.Sink.faults c.loop-turn.trace) (g.T.Sink.faults c.send-in_default-next_event.new.trace)
          c.from_residual-in_err-send-2.ensures.1 says.by so.later so.later_trace c.in_err-send-2.ensures.cause.later c.in_err-send-2.ensures.cause.failed;
    }

pub returns-in_default-next_event : goal.returns-in_default-next_event
returns-in_default-next_event g c =
    let r : told.Request = asked c.args.request c.args.from.now in
    let old : Stage = stage g.P.Packs.tells g.P.Packs.held g.T.Sink.tells g.T.Sink.taken c.args.subsystem.now.world c.args.packs.now c.args.trace.now (Before 0) c.args.into.now in
    let mid : Stage = telling g.P.Packs.tells g.P.Packs.held g.T.Sink.tells g.T.Sink.taken c.loop-turn.subsystem c.loop-turn.packs c.loop-turn.trace c.loop-turn.reached c.loop-turn.into in
    let now : Stage = stage g.P.Packs.tells g.P.Packs.held g.T.Sink.tells g.T.Sink.taken c.send-in_default-next_event.new.subsystem.world c.loop-turn.packs c.send-in_default-next_event.new.trace c.loop-turn.reached c.loop-turn.into in
    let says = c.in_ok-send-2.ensures.says in
    let same : c.send-in_default-next_event.new.subsystem.world ≡ c.loop-turn.subsystem.world = ap (λ (s : State). s.world) c.send-in_default-next_event.ensures.same in
    let kept = c.send-in_default-next_event.ensures.same in
    let so = c.loop-turn.invariant in
    record {
      answers = drained_answers c.args.line r old now c.law.ensures.sound (c.law.ensures.work c.requires.may.ready.going) c.requires.may.ready.quiet c.requires.may.unit c.requires.may.request c.requires.line
          (ap next_event same ∙ c.in_default-next_event.ensures.over)
          (drained_sent c.args.line r old mid c.send-in_default-next_event.new.subsystem.world (g.T.Sink.tells c.send-in_default-next_event.new.trace) (g.T.Sink.taken c.send-in_default-next_event.new.trace) same says.never_again says.bytes c.loop-turn.invariant.drained);
      stops = tt;
      ready = record {
        quiet = subst IsQuiet (sym (ap (λ (s : State). s.world) kept))
            (quiet_drained c.args.line c.loop-turn.turn c.loop-turn.subsystem.world so.turns c.in_default-next_event.ensures.over (c.in_default-next_event.ensures.none.0 refl) so.none_waits);
        going = ap (λ (s : State). s.failed) kept ∙ so.going;
        sent = ap (λ (s : State). s.kept) kept;
      };
      outstanding = ap (λ (s : State). s.outstanding) c.send-in_default-next_event.ensures.same ∙ so.outstanding;
      never_again = so.never_again;
      never_again_trace = λ t. so.never_again_trace (says.never_again t);
      causes = no_causes (g.P.Packs.faults c.args.packs.now) (g.P.Packs.faults c.loop-turn.packs) (g.T.Sink.faults c.args.trace.now) (g.T.Sink.faults c.send-in_default-next_event.new.trace) so.later (through (g.T.Sink.faults c.args.trace.now) (g.T.Sink.faults c.loop-turn.trace) (g.T.Sink.faults c.send-in_default-next_event.new.trace) so.later_trace c.in_ok-send-2.ensures.cause.later);
    }

pub returns-in_err-happen-2 : goal.returns-in_err-happen-2
returns-in_err-happen-2 g c =
    let r : told.Request = asked c.args.request c.args.from.now in
    let old : Stage = stage g.P.Packs.tells g.P.Packs.held g.T.Sink.tells g.T.Sink.taken c.args.subsystem.now.world c.args.packs.now c.args.trace.now (Before 0) c.args.into.now in
    let mid : Stage = telling g.P.Packs.tells g.P.Packs.held g.T.Sink.tells g.T.Sink.taken c.loop-turn.subsystem c.loop-turn.packs c.loop-turn.trace c.loop-turn.reached c.loop-turn.into in
    let new : Stage = stage g.P.Packs.tells g.P.Packs.held g.T.Sink.tells g.T.Sink.taken c.happen-in-loop-turn.new.subsystem.world c.happen-in-loop-turn.new.packs c.happen-in-loop-turn.new.trace c.happen-in-loop-turn.new.reached c.happen-in-loop-turn.new.into in
    let so = c.loop-turn.invariant in
    record {
      answers = err_if (λ (reached : Reached). Answers c.args.line r old (stage g.P.Packs.tells g.P.Packs.held g.T.Sink.tells g.T.Sink.taken c.happen-in-loop-turn.new.subsystem.world c.happen-in-loop-turn.new.packs c.happen-in-loop-turn.new.trace reached c.happen-in-loop-turn.new.into)) c.from_residual-in_err-happen-2.result c.in_err-happen-2.field-0.0 c.from_residual-in_err-happen-2.ensures.1;
      stops = stops_on c.args.line r old new (record { reached = Before 0; bytes = c.happen-in-loop-turn.new.into }) c.from_residual-in_err-happen-2.result c.in_err-happen-2.field-0.0 c.from_residual-in_err-happen-2.ensures.1
          (later_stopped c.beginnings_law.ensures.quiet c.next_block_law.ensures c.in_err-happen-2.field-0.0 c.args.line r (input_of c.in-Some-next_event.event) old mid new (g.T.Sink.taken c.loop-turn.trace) c.requires.line
          c.in_err-happen-2.ensures.never_again c.in_err-happen-2.ensures.never_again_trace (λ t. so.sent (c.in_err-happen-2.ensures.never_again_trace t))
          c.law-in-loop-turn.ensures.sound (c.law-in-loop-turn.ensures.work so.going) c.in-Some-next_event.ensures.next so.drained c.in_err-happen-2.ensures.stops);
      ready = err_on (IsReady c.happen-in-loop-turn.new.subsystem) c.from_residual-in_err-happen-2.result c.in_err-happen-2.field-0.0 c.from_residual-in_err-happen-2.ensures.1;
      outstanding = c.in_err-happen-2.ensures.outstanding ∙ so.outstanding;
      never_again = λ t. so.never_again (c.in_err-happen-2.ensures.never_again t);
      never_again_trace = λ t. so.never_again_trace (c.in_err-happen-2.ensures.never_again_trace t);
      causes = later_causes c.from_residual-in_err-happen-2.result c.in_err-happen-2.field-0.0 (g.P.Packs.faults c.args.packs.now) (g.P.Packs.faults c.loop-turn.packs) (g.P.Packs.faults c.happen-in-loop-turn.new.packs) (g.T.Sink.faults c.args.trace.now) (g.T.Sink.faults c.loop-turn.trace) (g.T.Sink.faults c.happen-in-loop-turn.new.trace)
          c.from_residual-in_err-happen-2.ensures.1 so.later so.later_trace c.in_err-happen-2.ensures.causes;
    }

pub loop-turn-preserved : goal.loop-turn-preserved
loop-turn-preserved g c =
    let r : told.Request = asked c.args.request c.args.from.now in
    let old : Stage = stage g.P.Packs.tells g.P.Packs.held g.T.Sink.tells g.T.Sink.taken c.args.subsystem.now.world c.args.packs.now c.args.trace.now (Before 0) c.args.into.now in
    let mid : Stage = telling g.P.Packs.tells g.P.Packs.held g.T.Sink.tells g.T.Sink.taken c.loop-turn.subsystem c.loop-turn.packs c.loop-turn.trace c.loop-turn.reached c.loop-turn.into in
    let new : Stage = telling g.P.Packs.tells g.P.Packs.held g.T.Sink.tells g.T.Sink.taken c.happen-in-loop-turn.new.subsystem c.happen-in-loop-turn.new.packs c.happen-in-loop-turn.new.trace c.happen-in-loop-turn.new.reached c.happen-in-loop-turn.new.into in
    let so = c.loop-turn.invariant in
    let happens = c.in_ok-happen-2.ensures in
    let drained : SoDrained c.args.line r old new = more_drained c.args.line r (input_of c.in-Some-next_event.event) old mid new happens.never_again happens.never_again_trace
    c.law-in-loop-turn.ensures.sound (c.law-in-loop-turn.ensures.work so.going) c.in-Some-next_event.ensures.next so.drained happens.gives in
    let was = so.later in
    let now = happens.causes.later_packs in
    let was_told = so.later_trace in
    let now_told = happens.causes.later in
    record {
      never_again = λ t. so.never_again (happens.never_again t);
      never_again_trace = λ t. so.never_again_trace (happens.never_again_trace t);
      later = omega (arith, was, now);
      later_trace = omega (arith, was_told, now_told);
      going = happens.going;
      sent = λ t. front_of_front (g.T.Sink.taken c.args.trace.now) (g.T.Sink.taken c.loop-turn.trace) (g.T.Sink.taken c.happen-in-loop-turn.new.trace) (so.sent (happens.never_again_trace t)) (happens.sent t);
      outstanding = happens.outstanding ∙ so.outstanding;
      none_waits = drained.none;
      turns = more_turns c.args.line c.loop-turn.turn r (input_of c.in-Some-next_event.event) old mid new c.in-Some-next_event.ensures.next so.drained happens.gives so.turns;
      drained = drained;
    }

pub unreachable-requires : goal.unreachable-requires
unreachable-requires g c =
    never c.loop-turn.turn c.loop-turn.invariant.turns.left c.loop-turn-test.false c.loop-turn.invariant.turns.few
