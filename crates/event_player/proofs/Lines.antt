-- What each line of a script comes to where it is played.
use Rattle.std.proofs.Common.{◌≡◌, ℕ, [], true, refl, sym, ap, subst}
use Rattle.std.specs.Prelude.{Result, Ok, Err, IsErrAnd}
use Rattle.outside_traits.specs.declared.traits.SinkFailed.{SinkFailed}
use Rattle.trace_replay.specs.requests.Requests.{Request}
use Rattle.trace_replay.specs.Moments.{Played}
use Rattle.trace_replay.specs.Script as says
use Rattle.trace_replay.specs.Script.{Input, Statement, Plays}
use Rattle.hardware_table.specs.Noise.{LiveNoise}
use Rattle.hardware_table.specs.declared.Moved.TheVariants.{Clean}
use Rattle.driver_machine.specs.Acts.{Tried}
use Rattle.trace_lines.specs.answers.AnswerText.{said_text}
use Rattle.hp_driver.specs.Subsystem.{State, IsThere}
use Rattle.script_runs.specs.declared.fault.PlayFault.{PlayFault}
use Rattle.script_runs.specs.declared.fault.PlayFault.TheVariants as faults
use Rattle.script_runs.proofs.Submissions.{of_unit}
use Rattle.event_player.specs.Spots.{Spot, SaysText}
use Rattle.event_player.specs.Turns.{TurnsOut, PlaysAs, StopsAs, PlaysAt}
use Rattle.event_player.specs.Steps.{Brings, PlaysEvent, PlaysSubmission, PlaysDrain, MayAsk}
use Rattle.event_player.specs.Stops.{EventStops, SubmissionStops, StopsInput}
use Rattle.event_player.proofs.Ahead.{stays_opened}
use Rattle.event_player.proofs.Contexts.{line_stops, opening_stops, submission_stops}
use Rattle.event_player.proofs.Going.{event_goes}
use Rattle.event_player.proofs.Inputs.{with_said, plays_event, plays_silent, plays_submission}
use Rattle.event_player.proofs.Rooms.{event_brings, submission_brings}
use Rattle.event_player.proofs.Saying.{is_said, opened_said, said_at, said_passes}
use Rattle.event_player.proofs.Spots.{keeps_none, said_keeps, stopped, turns_behind}

-- a line by its number, and by what it says
pub line_at : {V : Type 0} {number n : ℕ} {statement : Statement} {input : Input} {result : Result V PlayFault} {old new : Spot} → number ≡ n → statement ≡ Plays input
    → PlaysAt number (Plays input) result old new → PlaysAt n statement result old new
line_at {number = number} {statement = statement} {result = result} {old = old} {new = new} is at plays =
    subst (λ (k : ℕ). PlaysAt k statement result old new) is (subst (λ (s : Statement). PlaysAt number s result old new) (sym at) plays)

module _ {V : Type 0} {line : ℕ} (result : Result V PlayFault) {old new : Spot} (none : old.driver.world.answers ≡ []) where
  -- a request,
  pub line_asks : (r : Request) → MayAsk old.driver r
      → TurnsOut (PlaysSubmission line r) (SubmissionStops line r) result old new
      → PlaysAt line (Plays (says.Submit r)) result old new
  line_asks r asks turns =
      turns_behind result (keeps_none old) refl turns
      (λ plays. record {
        plays = λ t. plays_submission line r old new none asks.request
            (λ script tables first last done moments run. of_unit script tables first old.packs.held old.driver.world r asks.unit run.kept) plays;
        brings = submission_brings line r old new plays;
      })
      (λ fault stops t script tables first last done said taken less next told.
      submission_stops script tables first last done said taken line r old new less next told none asks.request
      (of_unit script tables first old.packs.held old.driver.world r asks.unit told.run.kept) fault stops)

  module _ (input : Input) (there : IsThere old.driver.world input) where
    -- an event of which nothing is said,
    pub line_happens : said_text (Played line input) ≡ []
        → TurnsOut (PlaysEvent line input) (EventStops line input) result old new → PlaysAt line (Plays input) result old new
    line_happens silent turns =
        turns_behind result (keeps_none old) refl turns
        (λ plays. record {
          plays = λ t. plays_silent line input old new t there none (record { rest = old.out.kept; whole = refl }) (record { rest = old.lines.kept; whole = refl }) silent plays;
          brings = event_brings line input old new plays;
        })
        (λ fault stops t script tables first last done said taken less next told.
        line_stops script tables first last done said taken line input old less next told fault old new t
        (stays_opened line input old silent (λ tells. record { rest = old.out.kept; whole = refl }) (λ tells. record { rest = old.lines.kept; whole = refl })) there none stops)

    -- or of which something is,
    pub line_opens : {A E : Type 0} {x : A} {now : Spot} → SaysText {T = A} {E = E} [] (said_text (Played line input)) (Ok x) old now → now.driver ≡ old.driver
        → TurnsOut (PlaysEvent line input) (EventStops line input) result now new → PlaysAt line (Plays input) result old new
    line_opens {now = now} opens driver turns =
        let its : now ≡ with_said old now = said_at opens driver in
        turns_behind result (said_keeps opens) (ap (λ (s : State). s.outstanding) driver) turns
        (λ plays. record {
          plays = λ t. plays_event line input old now new t there none (opened_said line input old now opens) opens.counts
              (subst (λ (st : Spot). PlaysEvent line input st new) its plays);
          brings = subst (λ (s : State). Brings (Plays input) s.world new.driver.world) driver (event_brings line input now new plays);
        })
        (λ fault stops t script tables first last done said taken less next told.
        line_stops script tables first last done said taken line input old less next told fault now new t (opened_said line input old now opens) there none
        (subst (λ (st : Spot). EventStops line input fault st new) its stops))

  -- noise whose class was not said,
  pub line_unsaid : {A : Type 0} {failed : SinkFailed} (noise : LiveNoise) → IsThere old.driver.world (says.Noise noise) → IsErrAnd result (λ x. x ≡ faults.Sink)
      → SaysText {T = A} [] (said_text (Played line (says.Noise noise))) (Err failed) old new → PlaysAt line (Plays (says.Noise noise)) result old new
  line_unsaid noise there err unsaid =
      let tried : Tried = record { marked = true; verdict = Clean; bytes = [] } in
      stopped result faults.Sink err (said_keeps unsaid) unsaid.says.failed
      (λ t script tables first last done said taken less next told.
      opening_stops script tables first last done said taken line (says.Noise noise) old less next told new
      (event_goes script tables first last line (says.Noise noise) tried old.packs.held done old.driver.world told.moments less there none there tt told.run).so_far.follows
      (ap (λ (s : Spot). s.packs.held) unsaid.same)
      (said_passes _ (is_said unsaid.says)))

  -- and a drain
  pub line_drains : TurnsOut (PlaysAs (PlaysDrain line) (Plays says.Drain)) (StopsAs (StopsInput line says.Drain)) result old new → PlaysAt line (Plays says.Drain) result old new
  line_drains turns =
      turns_behind result (keeps_none old) refl turns
      (λ drains. record { plays = λ t script tables first last done moments less run. (drains.plays t script tables first last done moments less run).goes; brings = drains.brings })
      (λ fault stops. stops)
