-- A RUN: a script played over packs.
use Rattle.std.specs.Prelude.{◌≡◌, ℕ, ◌<◌, ◌*◌, List, drop, Option, None, Some, ◌++◌, ◌∷◌, false}
use Rattle.pack_geometry.specs.declared.DriveKind.{DriveKind}
use Rattle.pack_geometry.specs.Geometry.{block_count}
use Rattle.pack_geometry.specs.Pack as model
use Rattle.pack_geometry.specs.TableSpelling.{Table}
use Rattle.pack_geometry.specs.PackTable.{AreTablesOf}
use Rattle.trace_replay.specs.Script.{Script, IsScript, drives_of, inputs_of}
use Rattle.trace_replay.specs.requests.Requests.{Answer}
use Rattle.trace_replay.specs.Moments.{Moment, Told, End, played, answers_in}
use Rattle.trace_replay.specs.Packs.{surface_of}
use Rattle.trace_replay.specs.Replay.{Replay, new_replay, after_moments, Legal, AreLeft}
use Rattle.trace_replay.specs.Text.{trace_text}
use Rattle.trace_replay.specs.History.{is_refusal, lines_of}
use Rattle.trace_replay.specs.Causes.{IsExplained}

-- the start: the drives that the script declares, with the tables of their packs and what these hold
abbrev pub start_of : Script → (ℕ → Option Table) → (ℕ → model.Pack) → Replay
start_of script tables packs = new_replay (drives_of script) tables (surface_of packs)

-- The moments play a script: its inputs are those of its lines, with a last drain behind them.
abbrev pub ArePlayed : Script → List Moment → Type 0
ArePlayed script moments = played moments ≡ inputs_of script

-- A run of a script over packs is legal: the moments play the script, the tables are those of the packs, the trace is legal from
-- the packs as they were first, and leaves them as they are last.
pub record IsLegalRun (script : Script) (tables : ℕ → Option Table) (old new : ℕ → model.Pack) (moments : List Moment) : Type 0 where
  pub good : IsScript script
  pub inputs : ArePlayed script moments
  pub tables_read : AreTablesOf (drives_of script) old tables
  pub trace : Legal (start_of script tables old) moments
  pub packs : AreLeft (drives_of script) old new (after_moments (start_of script tables old) moments).surface

-- THE WHOLE, of runs. Two legal runs of one script over the same packs have the same moments, answers and bytes and all.
abbrev pub OneRun : Type 0
OneRun = (script : Script) (tables : ℕ → Option Table) (old new new' : ℕ → model.Pack) (ms ns : List Moment)
    → IsLegalRun script tables old new ms → IsLegalRun script tables old new' ns → ms ≡ ns

-- and so the same text of the trace and the same answers
abbrev pub OneText : Type 0
OneText = (script : Script) (tables : ℕ → Option Table) (old new new' : ℕ → model.Pack) (ms ns : List Moment)
    → IsLegalRun script tables old new ms → IsLegalRun script tables old new' ns
    → (trace_text ms ≡ trace_text ns) × (answers_in ms ≡ answers_in ns)

-- two packs hold the same: each sector, what the image has beyond the last one, and the marks
pub record AreSame (kind : DriveKind) (one other : model.Pack) : Type 0 where
  pub sectors : (block : ℕ) → block < block_count kind → model.block_at one.image block ≡ model.block_at other.image block
  pub beyond : drop (512 * block_count kind) one.image ≡ drop (512 * block_count kind) other.image
  pub marks : one.marks ≡ other.marks

-- of a unit with a drive; a pack without one is the same
abbrev pub AreSameAt : Option DriveKind → model.Pack → model.Pack → Type 0
AreSameAt None one other = one ≡ other
AreSameAt (Some kind) one other = AreSame kind one other

-- and two runs leave the same packs
abbrev pub OnePacks : Type 0
OnePacks = (script : Script) (tables : ℕ → Option Table) (old new new' : ℕ → model.Pack) (ms ns : List Moment)
    → IsLegalRun script tables old new ms → IsLegalRun script tables old new' ns
    → (unit : ℕ) → AreSameAt (drives_of script unit) (new unit) (new' unit)

-- EACH ANSWER of a legal run is explained.
abbrev pub RunExplained : Type 0
RunExplained = (script : Script) (tables : ℕ → Option Table) (old new : ℕ → model.Pack) (ms ns : List Moment) (line unit id : ℕ) (answer : Answer)
    → IsLegalRun script tables old new (ms ++ Told line unit id (End answer) ∷ ns) → is_refusal answer ≡ false
    → IsExplained ((after_moments (start_of script tables old) ms).units unit) (lines_of unit ms) answer
