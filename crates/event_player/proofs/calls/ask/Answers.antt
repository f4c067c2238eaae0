use Rattle.std.proofs.Common.{inr}
use Rattle.script_runs.specs.declared.fault.PlayFault.TheVariants as faults
use Rattle.event_player.proofs.Calling.{asked_done, asked_unsaid, asked_halted}
use Rattle.event_player.proofs.Spots.{stopped, keeps_join, said_keeps, submitted_keeps, caused_behind, goes_taken}
use Rattle.event_player.proofs.calls.ask.Goals as goal

pub returns-in_err-submit : goal.returns-in_err-submit
returns-in_err-submit g c =
    let submits = c.in_err-submit.ensures in
    stopped c.from_residual.result faults.Sink c.from_residual.ensures.1 (submitted_keeps submits) (inr submits.cause.failed) (asked_halted submits)

pub returns-in_err-say_answers : goal.returns-in_err-say_answers
returns-in_err-say_answers g c =
    let submits = c.in_ok-submit.ensures in
    let said = c.in_err-say_answers.ensures.says in
    stopped c.from_residual-in_err-say_answers.result faults.Sink c.from_residual-in_err-say_answers.ensures.1 (keeps_join (submitted_keeps submits) (said_keeps said))
    (caused_behind (g.V.Venue.at c.say_answers.new.venue) faults.Sink (submitted_keeps submits) said.says.failed) (asked_unsaid c.law.ensures.sound (c.law.ensures.work c.requires.ready.going) submits said)

pub returns : goal.returns
returns g c =
    let submits = c.in_ok-submit.ensures in
    let said = c.in_ok-say_answers.ensures in
    record {
      plays = asked_done c.law.ensures.sound (c.law.ensures.work c.requires.ready.going) submits said.says said.taken;
      goes = goes_taken submits.goes said.taken;
      stops = tt;
      caused = tt;
      keeps = keeps_join (submitted_keeps submits) (said_keeps said.says);
    }
