-- What a run of a script comes to beside what was played, whichever the grammar by which its bytes are read: `Means` says which bytes mean a
-- script, and `First` which have a first fault.
use Rattle.std.specs.Prelude.{◌≡◌, ◌⊎◌, ℕ, ◌+◌, ◌≤◌, Bool, IsTrue, List, length}
use Rattle.outside_traits.specs.Causes.{Rose}
use Rattle.pack_geometry.specs.Pack.{Pack}
use Rattle.trace_replay.specs.Script.{Script}
use Rattle.script_lines.specs.declared.kinds.ScriptKind.{ScriptKind}
use Rattle.script_lines.specs.Refusals.{refusal_text}
use Rattle.event_player.specs.Lengths.{IsTooLong, NamesTooLong}
use Rattle.command_parts.specs.Lines.{Told, too_long_text}
use Rattle.command_parts.specs.Loading.{MeanNone, longest}
use Rattle.command_parts.specs.Outside.{Outside}
use Rattle.command_parts.specs.Statuses.{status_code}
use Rattle.command_parts.specs.declared.status.Status.TheVariants.{Done, Refused, SourceFailed, SinkFailed, PacksFailed, TooLong, OutOfMemory}

-- A refusal. Where the source tells, its bytes mean no script, and this is their first fault; where the sink tells, its text was taken, or
-- the sink failed.
pub record TellsRefusal (Means : List ℕ → Script → Type 0) (First : List ℕ → ℕ → ScriptKind → Type 0) (source_tells : Bool) (left : List ℕ) (tells : Bool)
    (taken taken_after : List ℕ) (faults faults_after : ℕ) : Type 0 where
  pub line : ℕ
  pub kind : ScriptKind
  pub none : IsTrue source_tells → MeanNone Means left
  pub first : IsTrue source_tells → First left line kind
  pub told : IsTrue tells → Told taken taken_after (refusal_text line kind) faults faults_after

-- An image that is too long. Where the source tells, its bytes mean this script; its lines declare the unit, and where the packs tell it is the
-- first one whose image is too long; where the sink tells, the text was taken, or the sink failed.
pub record TellsTooLong (Means : List ℕ → Script → Type 0) (source_tells : Bool) (left : List ℕ) (packs_tell : Bool) (packs : ℕ → Pack) (tells : Bool)
    (taken taken_after : List ℕ) (faults faults_after : ℕ) : Type 0 where
  pub script : Script
  pub unit : ℕ
  pub length_is : ℕ
  pub means : IsTrue source_tells → Means left script
  pub is : NamesTooLong script packs_tell packs unit length_is
  pub told : IsTrue tells → Told taken taken_after (too_long_text unit length_is) faults faults_after

-- the statuses of `play` and `cached`
abbrev pub IsPlayCode : ℕ → Type 0
IsPlayCode code = (code ≡ status_code Done) ⊎ (code ≡ status_code Refused) ⊎ (code ≡ status_code SourceFailed) ⊎ (code ≡ status_code SinkFailed)
    ⊎ (code ≡ status_code PacksFailed) ⊎ (code ≡ status_code TooLong) ⊎ (code ≡ status_code OutOfMemory)

pub record RunsScript (Means : List ℕ → Script → Type 0) (First : List ℕ → ℕ → ScriptKind → Type 0) (code : ℕ) (old new : Outside) : Type 0 where
  pub statuses : IsPlayCode code
  -- a refusal and an image that is too long, each exactly where one can see it
  pub refused : code ≡ status_code Refused → TellsRefusal Means First new.source_tells old.left new.out_tells old.said new.said old.out_faults new.out_faults
  pub only_refused : IsTrue new.source_tells → MeanNone Means old.left → (code ≡ status_code Refused) ⊎ (code ≡ status_code SourceFailed) ⊎ (code ≡ status_code OutOfMemory)
  pub too_long : code ≡ status_code TooLong
      → TellsTooLong Means new.source_tells old.left new.packs_tell old.held new.out_tells old.said new.said old.out_faults new.out_faults
  pub only_too_long : (script : Script) (unit n : ℕ) → IsTrue new.source_tells → Means old.left script → IsTrue new.packs_tell → IsTooLong script old.held unit n
      → (code ≡ status_code TooLong) ⊎ (code ≡ status_code PacksFailed) ⊎ (code ≡ status_code SourceFailed) ⊎ (code ≡ status_code OutOfMemory)
  -- where the bytes mean a script and nothing fails, it is done, or an image is too long, or there is no memory
  pub complete : (script : Script) → IsTrue new.source_tells → Means old.left script
      → ¬ Rose old.source_faults new.source_faults → ¬ Rose old.out_faults new.out_faults → ¬ Rose old.trace_faults new.trace_faults → ¬ Rose old.packs_faults new.packs_faults
      → (code ≡ status_code Done) ⊎ (code ≡ status_code TooLong) ⊎ (code ≡ status_code OutOfMemory)
  -- what is taken from the source, and what the packs hold where nothing was played
  pub read : IsTrue new.source_tells → length old.left ≤ length new.left + longest + 1
  pub same : (code ≡ status_code TooLong) ⊎ (code ≡ status_code OutOfMemory) → IsTrue new.packs_tell → new.held ≡ old.held
