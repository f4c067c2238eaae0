-- Wrong outcomes of a stop, or of a kill between two calls.
use Rattle.std.specs.Prelude.{◌≡◌, ◌≢◌, ℕ, ◌<◌, ◌-◌, true, IsTrue, List, [], ◌∷◌, ◌++◌, Option, Some}
use Rattle.outside_traits.specs.Causes.{Rose}
use Rattle.outside_traits.specs.declared.traits.PackCall.{PackCall}
use Rattle.outside_traits.specs.declared.traits.PackCall.TheVariants.{Block}
use Rattle.pack_geometry.specs.declared.DriveKind.{DriveKind}
use Rattle.pack_geometry.specs.Geometry.{block_count, sectors_of}
use Rattle.pack_geometry.specs.Pack.{Pack}
use Rattle.pack_geometry.specs.TableSpelling.{Table}
use Rattle.hardware_table.specs.declared.Moved.{Moved}
use Rattle.trace_replay.specs.requests.Requests.{Answer}
use Rattle.trace_replay.specs.Moments.{Moment, Told, Sector, End}
use Rattle.trace_replay.specs.Script.{Script, drives_of}
use Rattle.trace_replay.specs.Replay.{after_moments}
use Rattle.trace_replay.specs.Runs.{start_of}
use Rattle.trace_replay.specs.Text.{trace_text}
use Rattle.trace_lines.specs.answers.AnswerText.{out_text}
use Rattle.script_runs.specs.Writing.{was_written_at}
use Rattle.script_runs.specs.Ahead.{WritesAhead, TellsAhead}
use Rattle.script_runs.specs.Stops.{StopsAtStore, Took}
use Rattle.script_runs.specs.declared.fault.PlayFault.TheVariants.{Store}
use Rattle.event_player.specs.Stops.{Leaves, StopsPlaying}
use Rattle.cached_run.specs.Answers.{answers_of, text_of}
use Rattle.cached_run.specs.Theorem.{CachedLeaves, CachedStops, contents}

-- AN ANSWER BEFORE ITS LINE: of what came late an answer is the first, the trace took nothing more, and `out` did.
abbrev pub AnswerBeforeItsLine : Type 0
AnswerBeforeItsLine = (said said' taken : List ℕ) (sent late : List Moment) (line unit id : ℕ) (answer : Answer)
    → TellsAhead true said said' true taken (taken ++ trace_text sent) sent (Told line unit id (End answer) ∷ late) → ¬ (said' ≢ said ++ out_text sent)

-- A WRITE BEFORE ITS LINES: the first two moments that came late each tell of a block that was written.
abbrev pub TwoBlocksAhead : Type 0
TwoBlocksAhead = (script : Script) (tables : ℕ → Option Table) (first held : ℕ → Pack) (sent late : List Moment) (line unit id block line' unit' id' block' : ℕ) (moved moved' : Moved)
    → was_written_at (after_moments (start_of script tables first) sent) (Told line unit id (Sector block moved)) ≡ true
    → was_written_at (after_moments (start_of script tables first) (sent ++ Told line unit id (Sector block moved) ∷ [])) (Told line' unit' id' (Sector block' moved')) ≡ true
    → ¬ (WritesAhead script tables first held sent (Told line unit id (Sector block moved) ∷ Told line' unit' id' (Sector block' moved') ∷ late))

-- TEXT DROPPED: the packs failed and the trace did not, and it lacks a line of what was done,
abbrev pub TextDropped : Type 0
TextDropped = (script : Script) (tables : ℕ → Option Table) (first left : ℕ → Pack) (out trace : Took) → (stops : StopsAtStore script tables first left out trace)
    → ¬ (Rose trace.faults trace.faults_after) → IsTrue trace.tells → ¬ (trace.after ≢ trace.before ++ trace_text (stops.reached.sent ++ stops.reached.late))

-- OR SENT TWICE.
abbrev pub TextSentTwice : Type 0
TextSentTwice = (script : Script) (tables : ℕ → Option Table) (first left : ℕ → Pack) (out trace : Took) → (stops : StopsAtStore script tables first left out trace)
    → ¬ (Rose trace.faults trace.faults_after) → IsTrue trace.tells → trace_text (stops.reached.sent ++ stops.reached.late) ≢ []
    → ¬ (trace.after ≡ trace.before ++ (trace_text (stops.reached.sent ++ stops.reached.late) ++ trace_text (stops.reached.sent ++ stops.reached.late)))

-- ANSWERS DROPPED AT A READ: the packs failed at a block of a declared unit that lies before the table's track, as data and replacements do.
-- Whatever was played until then has an answer, and `out` did not fail and took nothing; be it of a script of the cache.
pub record IsBeforeTheTable (script : Script) (call : PackCall) : Type 0 where
  pub unit : ℕ
  pub block : ℕ
  pub kind : DriveKind
  pub declared : drives_of script unit ≡ Some kind
  pub before : block < block_count kind - sectors_of kind
  pub is : call ≡ Block unit block

pub record TookNothing (out : Took) : Type 0 where
  pub tells : IsTrue out.tells
  pub calm : ¬ (Rose out.faults out.faults_after)
  pub none : out.after ≡ out.before

abbrev pub PlayedAnswersDropped : Type 0
PlayedAnswersDropped = (script : Script) (first left : ℕ → Pack) (call : PackCall) (out trace : Took) → IsBeforeTheTable script call → TookNothing out
    → ((stops : StopsPlaying Store script first left out trace) → out_text (stops.stopped.reached.sent ++ stops.stopped.reached.late) ≢ []) → ¬ Leaves Store script first left call out trace

abbrev pub CachedAnswersDropped : Type 0
CachedAnswersDropped = (capacity : ℕ) (script : Script) (first left : ℕ → Pack) (call : PackCall) (out trace : Took) → IsBeforeTheTable script call → TookNothing out
    → ((stops : CachedStops capacity script first left out trace) → text_of (answers_of (drives_of script) (contents script stops.tables first) stops.before) ≢ [])
    → ¬ CachedLeaves capacity Store script first left call out trace

abbrev pub AnswersDroppedAtARead : Type 0
AnswersDroppedAtARead = PlayedAnswersDropped × CachedAnswersDropped
