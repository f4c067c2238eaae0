use Rattle.std.proofs.Common.{sym, subst, ap}
use Rattle.hp_driver.specs.Inputs.{input_of}
use Rattle.hp_driver.specs.Subsystem.{IsThere, State}
use Rattle.script_runs.specs.declared.fault.PlayFault.TheVariants as faults
use Rattle.script_runs.specs.Faults.{from_stop}
use Rattle.event_player.specs.Spots.{Spot}
use Rattle.event_player.specs.Calls.{MayGoOn}
use Rattle.event_player.proofs.Calling.{came_unsent, came_halted, came_done, came_unsaid}
use Rattle.event_player.proofs.Spots.{stopped, keeps_join, said_keeps, sent_keeps, come_keeps, come_caused, caused_behind, goes_taken, goes_behind}
use Rattle.event_player.proofs.calls.happen.Goals as goal

pub event-requires : goal.event-requires
event-requires g c =
    let same = ap (λ (s : Spot). s.driver) c.in_ok-send_ahead.ensures.same in
    record {
      ready = subst MayGoOn (sym same) c.requires.ready;
      there = subst (λ (s : State). IsThere s.world (input_of c.args.event)) (sym same) c.requires.there;
    }

pub returns-in_err-send_ahead : goal.returns-in_err-send_ahead
returns-in_err-send_ahead g c =
    let sends = c.in_err-send_ahead.ensures in
    stopped c.from_residual.result faults.Sink c.from_residual.ensures.1 (sent_keeps sends) sends.says.failed (came_unsent sends)

pub returns-in_err-event : goal.returns-in_err-event
returns-in_err-event g c =
    let sends = c.in_ok-send_ahead.ensures in
    let comes = c.in_err-event.ensures in
    let halt = c.in_err-event.field-0.0 in
    stopped c.from_residual-in_err-event.result (from_stop halt) c.from_residual-in_err-event.ensures.1 (keeps_join (sent_keeps sends) (come_keeps comes))
    (caused_behind (g.V.Venue.at c.event.new.self) (from_stop halt) (sent_keeps sends) (come_caused halt comes)) (came_halted sends c.law.ensures.noise comes)

pub returns-in_err-say_answers : goal.returns-in_err-say_answers
returns-in_err-say_answers g c =
    let sends = c.in_ok-send_ahead.ensures in
    let comes = c.in_ok-event.ensures in
    let said = c.in_err-say_answers.ensures.says in
    let before = keeps_join (sent_keeps sends) (come_keeps comes) in
    stopped c.from_residual-in_err-say_answers.result faults.Sink c.from_residual-in_err-say_answers.ensures.1 (keeps_join before (said_keeps said)) (caused_behind (g.V.Venue.at c.say_answers.new.venue) faults.Sink before said.says.failed)
    (came_unsaid sends c.law.ensures.sound (c.law.ensures.work c.requires.ready.going) comes c.requires.ready.none_waits c.law.ensures.noise said)

pub returns : goal.returns
returns g c =
    let sends = c.in_ok-send_ahead.ensures in
    let comes = c.in_ok-event.ensures in
    let said = c.in_ok-say_answers.ensures in
    record {
      plays = came_done sends c.law.ensures.sound (c.law.ensures.work c.requires.ready.going) comes c.requires.ready.none_waits said.says said.taken;
      goes = goes_behind (ap (λ (s : Spot). s.driver) sends.same) (goes_taken comes.goes said.taken);
      stops = tt;
      caused = tt;
      keeps = keeps_join (keeps_join (sent_keeps sends) (come_keeps comes)) (said_keeps said.says);
    }
