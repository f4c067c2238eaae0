-- Exactly one legal run: of every script over any packs there is one, and no other.
use Rattle.std.specs.Prelude.{◌≡◌, ℕ, ◌^◌, ◌<◌, List, Option}
use Rattle.pack_geometry.specs.Pack.{Pack}
use Rattle.pack_geometry.specs.TableSpelling.{Table}
use Rattle.script_lines.specs.Words.{all_verbs}
use Rattle.script_reader.specs.Grammar.{Spells}
use Rattle.script_lines.specs.Known.{Numbered}
use Rattle.script_reader.specs.Meaning.{meaning}
use Rattle.trace_replay.specs.Moments.{Moment}
use Rattle.trace_replay.specs.Script.{Script, IsScript, drives_of}
use Rattle.trace_replay.specs.Runs.{IsLegalRun, AreSameAt}

-- A RUN IS THE ONE of its script over the packs: it is legal, and any other legal run reads the same tables, has the same moments (so
-- the same lines of the trace, and the same answers with their bytes), and leaves the same packs.
pub record IsTheRun (script : Script) (old : ℕ → Pack) (tables : ℕ → Option Table) (new : ℕ → Pack) (moments : List Moment) : Type 0 where
  pub legal : IsLegalRun script tables old new moments
  pub only : (others : ℕ → Option Table) (left : ℕ → Pack) (told : List Moment) → IsLegalRun script others old left told
      → (others ≡ tables) × (told ≡ moments) × ((unit : ℕ) → AreSameAt (drives_of script unit) (left unit) (new unit))

pub record HasOneRun (script : Script) (old : ℕ → Pack) : Type 0 where
  pub tables : ℕ → Option Table
  pub new : ℕ → Pack
  pub moments : List Moment
  pub is : IsTheRun script old tables new moments

-- Each legal run is the one of its script,
abbrev pub LegalRunsAreOne : Type 0
LegalRunsAreOne = (script : Script) (old : ℕ → Pack) (tables : ℕ → Option Table) (new : ℕ → Pack) (moments : List Moment)
    → IsLegalRun script tables old new moments → IsTheRun script old tables new moments

-- AND THERE IS ONE, of each script with fewer than 2 ^ 32 lines: so no count of armed faults is too large.
abbrev pub OneRunExists : Type 0
OneRunExists = (script : Script) (old : ℕ → Pack) → IsScript script → script.count < 2 ^ 32 → HasOneRun script old

-- THE LAW. Whatever bytes spell has exactly one legal run over any packs.
abbrev pub BytesHaveOneRun : Type 0
BytesHaveOneRun = (bytes : List ℕ) (lines : List Numbered) (count : ℕ) (old : ℕ → Pack)
    → Spells all_verbs bytes lines count → HasOneRun (meaning lines count) old
