use Rattle.std.proofs.Common.{◌≡◌, ℕ, List, [], subst}
use Rattle.std.specs.Prelude.{IfOk, IfErr}
use Rattle.std.proofs.lemmas.List.{nil_from_length}
use Rattle.driver_laws.specs.declared.answers.outcome.Stop.{Stop}
use Rattle.trace_replay.specs.requests.Requests as told
use Rattle.hp_driver.specs.Subsystem.{asked}
use Rattle.blocking_io.specs.declared.reached.Reached.{Reached}
use Rattle.blocking_io.specs.declared.reached.Reached.TheVariants.{Before}
use Rattle.blocking_io.specs.Calls.{Stage, stage}
use Rattle.blocking_io.specs.Asking.{Answers}
use Rattle.blocking_io.specs.Stopping.{Stops}
use Rattle.blocking_io.proofs.asking.ask_write.Goals as goal

pub returns : goal.returns
returns g c =
    let r : told.Request = asked c.args.request c.args.from.now in
    let old : Stage = stage g.P.Packs.tells g.P.Packs.held g.T.Sink.tells g.T.Sink.taken c.args.subsystem.now.world c.args.packs.now c.args.trace.now (Before 0) [] in
    let none : c.ask.new.into ≡ [] = nil_from_length c.ask.new.into c.ask.auto.into in
    record {
      answers = subst (λ (bytes : List ℕ). IfOk c.ask.result (λ (reached : Reached). Answers c.args.line r old
          (stage g.P.Packs.tells g.P.Packs.held g.T.Sink.tells g.T.Sink.taken c.ask.new.subsystem.world c.ask.new.packs c.ask.new.trace reached bytes))) none c.ask.ensures.answers;
      stops = subst (λ (bytes : List ℕ). IfErr c.ask.result (λ (stop : Stop). Stops stop c.args.line r old
          (stage g.P.Packs.tells g.P.Packs.held g.T.Sink.tells g.T.Sink.taken c.ask.new.subsystem.world c.ask.new.packs c.ask.new.trace (Before 0) bytes))) none c.ask.ensures.stops;
      ready = c.ask.ensures.ready;
      outstanding = c.ask.ensures.outstanding;
      never_again = c.ask.ensures.never_again;
      never_again_trace = c.ask.ensures.never_again_trace;
      causes = c.ask.ensures.causes;
    }
