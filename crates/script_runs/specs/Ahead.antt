-- The write-ahead rule: of what was done since text was last sent, only the first move may have written a block.
use Rattle.std.specs.Prelude.{◌≡◌, ℕ, ◌+◌, ◌≤◌, Bool, IsTrue, List, [], ◌∷◌, ◌++◌, Option}
use Rattle.pack_geometry.specs.Pack.{Pack}
use Rattle.pack_geometry.specs.TableSpelling.{Table}
use Rattle.trace_replay.specs.Script.{Script, drives_of}
use Rattle.trace_replay.specs.Moments.{Moment, Played, answers_in}
use Rattle.trace_replay.specs.Replay.{AreLeft, after_moments}
use Rattle.trace_replay.specs.Runs.{start_of}
use Rattle.trace_replay.specs.Text.{trace_text}
use Rattle.driver_laws.specs.answers.Outcome.{IsFront}
use Rattle.driver_laws.specs.shown.Lengths.{AreAsLong}
use Rattle.trace_lines.specs.answers.AnswerText.{out_text}
use Rattle.script_runs.specs.Writing.{WriteNothing}

-- a text lies between two others: the first is a front of it, and it is a front of the second
pub record IsBetween (first last text : List ℕ) : Type 0 where
  pub least : IsFront first text
  pub most : IsFront text last

-- how many lines of the trace moments tell
abbrev pub lines_told : List Moment → ℕ
lines_told [] = 0
lines_told (Played line input ∷ ms) = lines_told ms
lines_told (m ∷ ms) = lines_told ms + 1

-- what a move says: one line at most, and no answer
pub record SaysOneSector (moments : List Moment) : Type 0 where
  pub few : lines_told moments ≤ 1
  pub silent : answers_in moments ≡ []

-- THE PACKS are as the replay has them behind some moments, and each image is as long as the blocks that these wrote make it.
pub record AreBehind (script : Script) (tables : ℕ → Option Table) (first left : ℕ → Pack) (moments : List Moment) : Type 0 where
  pub surface : AreLeft (drives_of script) first left (after_moments (start_of script tables first) moments).surface
  pub long : AreAsLong (start_of script tables first) moments first left

-- SINCE TEXT WAS LAST SENT one move at most may have written a block, and it came directly behind; of the moments since none wrote. The
-- packs are as the replay has them behind the move, so behind each of the others too.
pub record WritesAhead (script : Script) (tables : ℕ → Option Table) (first held : ℕ → Pack) (sent late : List Moment) : Type 0 where
  pub move : List Moment
  pub quiet : List Moment
  pub cut : late ≡ move ++ quiet
  pub one : SaysOneSector move
  pub nothing : WriteNothing (after_moments (start_of script tables first) (sent ++ move)) quiet
  pub packs : AreBehind script tables first held (sent ++ move)

-- LINES FIRST: both sinks took all that was sent. Of what came later, the answers that were taken are of moments whose lines all were.
pub record TellsAhead (out_tells : Bool) (said said' : List ℕ) (trace_tells : Bool) (taken taken' : List ℕ) (sent late : List Moment) : Type 0 where
  pub told : List Moment
  pub untold : List Moment
  pub cut : late ≡ told ++ untold
  pub trace : IsTrue trace_tells → IsBetween (taken ++ trace_text (sent ++ told)) (taken ++ trace_text (sent ++ late)) taken'
  pub out : IsTrue out_tells → IsBetween (said ++ out_text sent) (said ++ out_text (sent ++ told)) said'
