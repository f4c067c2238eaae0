-- What a stop leaves where a sink or the packs failed.
use Rattle.std.specs.Prelude.{◌≡◌, ◌⊎◌, ℕ, Bool, IsTrue, List, [], ◌++◌, Option}
use Rattle.pack_geometry.specs.Pack.{Pack}
use Rattle.pack_geometry.specs.TableSpelling.{Table}
use Rattle.outside_traits.specs.Causes.{Rose}
use Rattle.trace_replay.specs.Moments.{Moment, played}
use Rattle.trace_replay.specs.Script.{Script, Numbered, drives_of, inputs_of}
use Rattle.trace_replay.specs.Replay.{Follows, after_moments}
use Rattle.trace_replay.specs.Runs.{start_of}
use Rattle.trace_replay.specs.Text.{trace_text}
use Rattle.driver_laws.specs.shown.NextBlock.{IsTorn}
use Rattle.driver_laws.specs.shown.Reach.{AskBelow, TablesBelow, StayFrom}
use Rattle.trace_lines.specs.answers.AnswerText.{out_text}
use Rattle.outside_traits.specs.declared.traits.PackCall.{PackCall}
use Rattle.script_runs.specs.Attaching.{AttachesOne}
use Rattle.script_runs.specs.Ahead.{IsBetween, WritesAhead, TellsAhead}

-- HOW FAR THE RUN CAME: moments that follow from the start of the script over the packs as they were, and play its first inputs.
pub record Came (script : Script) (tables : ℕ → Option Table) (first : ℕ → Pack) (moments : List Moment) : Type 0 where
  pub later : List Numbered
  pub follows : Follows (start_of script tables first) moments
  pub inputs : inputs_of script ≡ played moments ++ later

-- WHAT LIES BEYOND the ends of all writes stayed: of a unit to which nothing is written the whole image.
abbrev pub StaysBeyond : Script → (ℕ → Option Table) → (old new : ℕ → Pack) → Type 0
StaysBeyond script tables old new = (ends : ℕ → ℕ) → AskBelow ends (drives_of script) (inputs_of script) → TablesBelow ends (drives_of script) tables → StayFrom ends old new

-- WHERE TEXT WAS LAST SENT: it was sent of the first moments, and what came late, of which the first move alone may have written, is in the
-- packs.
pub record Reached (script : Script) (tables : ℕ → Option Table) (first held : ℕ → Pack) : Type 0 where
  pub sent : List Moment
  pub late : List Moment
  pub came : Came script tables first (sent ++ late)
  pub ahead : WritesAhead script tables first held sent late

-- A SINK FAILED: packs and texts are by the rule, and what images have beyond all writes stayed.
pub record StopsAtSink (script : Script) (tables : ℕ → Option Table) (first left : ℕ → Pack) (out_tells : Bool) (said said' : List ℕ) (trace_tells : Bool) (taken taken' : List ℕ) : Type 0 where
  pub reached : Reached script tables first left
  pub texts : TellsAhead out_tells said said' trace_tells taken taken' reached.sent reached.late
  pub beyond : StaysBeyond script tables first left

-- WHAT A SINK TOOK: whether it tells, its text before and after, and its count of faults
pub record Took : Type 0 where
  pub tells : Bool
  pub before : List ℕ
  pub after : List ℕ
  pub faults : ℕ
  pub faults_after : ℕ

abbrev pub took : {O : Type 0} → (O → Bool) → (O → List ℕ) → (O → ℕ) → (old new : O) → Took
took tells taken faults old new = record { tells = tells new; before = taken old; after = taken new; faults = faults old; faults_after = faults new }

-- A sink that took what was sent is handed the rest behind a failure of the packs: it took all, unless its count rose.
pub record TakesRest (sink : Took) (sent all : List ℕ) : Type 0 where
  pub some : IsTrue sink.tells → IsBetween (sink.before ++ sent) (sink.before ++ all) sink.after
  pub whole : (Rose sink.faults sink.faults_after → ⊥) → IsTrue sink.tells → sink.after ≡ sink.before ++ all

-- THE PACKS FAILED, and nothing else was done: they are as before, or, where all text had been sent, one block more is there, the next one of
-- a write whose sectors move. What was kept is sent behind the failure, to the trace and then to the other, whatever the first one did.
pub record StopsAtStore (script : Script) (tables : ℕ → Option Table) (first left : ℕ → Pack) (out trace : Took) : Type 0 where
  pub held : ℕ → Pack
  pub reached : Reached script tables first held
  pub packs : (left ≡ held) ⊎ ((reached.late ≡ []) × IsTorn (drives_of script) first held left (after_moments (start_of script tables first) (reached.sent ++ reached.late)))
  pub beyond : StaysBeyond script tables first left
  pub lines : TakesRest trace (trace_text reached.sent) (trace_text (reached.sent ++ reached.late))
  pub answers : TakesRest out (out_text reached.sent) (out_text (reached.sent ++ reached.late))

-- nothing was played, as the packs failed when a unit was attached
pub record IsUnplayed (script : Script) (first left : ℕ → Pack) (call : PackCall) (out trace : Took) : Type 0 where
  pub attaches : AttachesOne script call
  pub packs : left ≡ first
  pub unsaid : out.after ≡ out.before
  pub untold : trace.after ≡ trace.before
