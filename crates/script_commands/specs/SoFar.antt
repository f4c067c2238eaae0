-- What is promised of a run that stopped, as far as it came.
use Rattle.std.specs.Prelude.{◌≡◌, ℕ, ◌*◌, ◌≤◌, false, List, ◌∷◌, ◌++◌, Option}
use Rattle.pack_geometry.specs.Pack.{Pack}
use Rattle.pack_geometry.specs.TableSpelling.{Table}
use Rattle.trace_replay.specs.requests.Requests.{Answer}
use Rattle.trace_replay.specs.Script.{Script, drives_of}
use Rattle.trace_replay.specs.Moments.{Moment, Told, End}
use Rattle.trace_replay.specs.Service.{in_hand}
use Rattle.trace_replay.specs.Replay.{after_moments}
use Rattle.trace_replay.specs.History.{is_refusal, lines_of}
use Rattle.trace_replay.specs.Causes.{IsExplained}
use Rattle.trace_replay.specs.Runs.{start_of}
use Rattle.driver_laws.specs.rules.Commands.{commands_in}
use Rattle.driver_laws.specs.answers.Outcome.{IsFront}
use Rattle.trace_lines.specs.answers.AnswerText.{out_text, answer_line}
use Rattle.driver_laws.specs.rules.Laws.{HasBegun}
use Rattle.event_player.specs.PlayFault.{PlayFault}
use Rattle.event_player.specs.PlayFault.TheVariants as faults
use Rattle.event_player.specs.Passes.{Reached, Took}
use Rattle.event_player.specs.Stops.{StopsPlaying}
use Rattle.driver_laws.specs.rules.Beginnings.{PromisesSoFar}

-- OF THE MOMENTS SO FAR: their answers are those of the block machine to the lines that were played, and the replay behind them stands
-- for its map; each answer has its cause; and a request took at most 300 commands for each of its blocks.
pub record KeepsSoFar (script : Script) (tables : ℕ → Option Table) (first : ℕ → Pack) (moments : List Moment) : Type 0 where
  pub legal : HasBegun (record { drives = drives_of script; tables = tables; packs = first }) moments
  pub explained : (line unit id : ℕ) (answer : Answer) (before after : List Moment) → moments ≡ before ++ Told line unit id (End answer) ∷ after
      → is_refusal answer ≡ false → IsExplained ((after_moments (start_of script tables first) before).units unit) (lines_of unit before) answer
  pub commands : (line unit id : ℕ) (answer : Answer) (before after : List Moment) → moments ≡ before ++ Told line unit id (End answer) ∷ after
      → is_refusal answer ≡ false → commands_in (lines_of unit before) ≤ 300 * (in_hand ((after_moments (start_of script tables first) before).units unit).service).count

-- the line of an answer stands whole in the text that was taken, behind what was said before it
abbrev pub Stands : (said said' : List ℕ) (before : List Moment) (line id : ℕ) → Answer → Type 0
Stands said said' before line id answer = IsFront (said ++ (out_text before ++ answer_line line id answer)) said'

-- WHICH ANSWERS of what came since text was last sent STAND in it: those of the first moments, and no later one.
pub record StandIn (said said' : List ℕ) (sent front rest : List Moment) : Type 0 where
  pub each : (line unit id : ℕ) (answer : Answer) (before after : List Moment) → front ≡ before ++ Told line unit id (End answer) ∷ after
      → Stands said said' (sent ++ before) line id answer
  pub no_more : (line unit id : ℕ) (answer : Answer) (before after : List Moment) → rest ≡ before ++ Told line unit id (End answer) ∷ after
      → Stands said said' (sent ++ (front ++ before)) line id answer → ⊥

-- BEHIND THE ANSWERS THAT STAND in the text that was taken, the packs hold what the answered writes left.
pub record HoldTaken (script : Script) (tables : ℕ → Option Table) (first left : ℕ → Pack) (said said' : List ℕ) (sent late : List Moment) : Type 0 where
  pub front : List Moment
  pub rest : List Moment
  pub cut : late ≡ front ++ rest
  pub stand : StandIn said said' sent front rest
  pub hold : PromisesSoFar script tables first left (sent ++ front)

-- THE PACKS hold what the answered writes left, but for one request of each unit, wherever what came since text was last sent is cut behind
-- the one move that may have written: so behind each of its answers, since that move says none; and so behind those that stand.
pub record Holds (script : Script) (tables : ℕ → Option Table) (first held left : ℕ → Pack) (out : Took) (reached : Reached script tables first held) : Type 0 where
  pub so_far : (front rest : List Moment) → reached.ahead.quiet ≡ front ++ rest → PromisesSoFar script tables first left (reached.sent ++ (reached.ahead.move ++ front))
  pub taken : HoldTaken script tables first left out.before out.after reached.sent reached.late

-- All this is promised of whatever came so far. Where the packs failed it is so of the packs that are left, with the one block that may be
-- new, and of those without it.
abbrev pub Keeps : (fault : PlayFault) (script : Script) (first left : ℕ → Pack) (out trace : Took) → Type 0
Keeps faults.Store script first left out trace = (is : StopsPlaying faults.Store script first left out trace)
    → KeepsSoFar script is.tables first (is.stopped.reached.sent ++ is.stopped.reached.late)
    × Holds script is.tables first is.stopped.held is.stopped.held out is.stopped.reached
    × Holds script is.tables first is.stopped.held left out is.stopped.reached
Keeps faults.Sink script first left out trace = (is : StopsPlaying faults.Sink script first left out trace)
    → KeepsSoFar script is.tables first (is.stopped.reached.sent ++ is.stopped.reached.late)
    × Holds script is.tables first left left out is.stopped.reached
Keeps fault script first left out trace = Unit {0}
