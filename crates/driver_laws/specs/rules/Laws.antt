-- What is proved of legal traces and the block machine.
use Rattle.std.specs.Prelude.{◌≡◌, ℕ, ◌<◌, List, [], ◌++◌, Option, Some, None}
use Rattle.pack_geometry.specs.declared.DriveKind.{DriveKind}
use Rattle.pack_geometry.specs.Geometry.{limit_of, block_count}
use Rattle.pack_geometry.specs.Pack as model
use Rattle.pack_geometry.specs.TableSpelling.{Table}
use Rattle.pack_geometry.specs.Homes.{contents_of, IsHome}
use Rattle.pack_geometry.specs.PackTable.{AreTablesOf}
use Rattle.trace_replay.specs.requests.Requests.{Request}
use Rattle.trace_replay.specs.Script.{Script, drives_of, inputs_of}
use Rattle.trace_replay.specs.Moments.{Moment, played, answers_in}
use Rattle.trace_replay.specs.Replay.{after_moments}
use Rattle.driver_laws.specs.rules.Machine.{Blocks, Machine, idle}
use Rattle.driver_laws.specs.rules.LegalAnswers.{AnswersTo, AreLegal, unaliased}
use Rattle.driver_laws.specs.rules.LastWrites.{left_behind, EachGives}
use Rattle.driver_laws.specs.rules.Stands.{Setup, start_over, StandsFor, owed, armed_behind}

-- EACH LEGAL BEGINNING. Its answers, with the one that is owed, are those of the machine to the lines that were played so far, and
-- its state stands for the machine after them.
pub record HasBegun (setup : Setup) (ms : List Moment) : Type 0 where
  pub machine : Machine
  pub answered : AnswersTo setup.drives (unaliased setup.drives setup.tables setup.packs (played ms))
      (idle (contents_of setup.drives setup.tables setup.packs)) (played ms) (answers_in ms ++ owed (after_moments (start_over setup) ms)) machine
  pub stands : StandsFor setup (armed_behind [] (played ms)) (after_moments (start_over setup) ms) machine

-- the packs hold what a map gives for each data block of each unit that is declared
abbrev pub HoldMap : (ℕ → Option DriveKind) → (ℕ → Option Table) → (ℕ → model.Pack) → (ℕ → Blocks) → Type 0
HoldMap drives tables packs blocks = (unit block : ℕ) (kind : DriveKind) → drives unit ≡ Some kind → block < limit_of kind
    → contents_of drives tables packs unit block ≡ blocks unit block

-- THE ANSWERS of a run, with the bytes of the claimed reads, are legal from what the packs held first, to a map that they hold last.
pub record HasLegalAnswers (claims : (line : ℕ) → Request → Type 0) (script : Script) (tables : ℕ → Option Table)
    (old new : ℕ → model.Pack) (moments : List Moment) : Type 0 where
  pub last : ℕ → Blocks
  pub legal : AreLegal (drives_of script) claims (inputs_of script) (answers_in moments) (contents_of (drives_of script) tables old) last
  pub held : HoldMap (drives_of script) tables new last

-- THE REST OF THE PACKS is as it was first: each sector that is no home of a data block, each mark, each table, and each pack of a unit
-- that is not declared.
pub record RestStays (script : Script) (tables : ℕ → Option Table) (old new : ℕ → model.Pack) : Type 0 where
  pub sectors : (unit sector : ℕ) (kind : DriveKind) → drives_of script unit ≡ Some kind → sector < block_count kind
      → ¬ (IsHome kind (tables unit) (old unit) sector) → model.block_at (new unit).image sector ≡ model.block_at (old unit).image sector
  pub marks : (unit : ℕ) → (new unit).marks ≡ (old unit).marks
  pub tables_stay : AreTablesOf (drives_of script) new tables
  pub others : (unit : ℕ) → drives_of script unit ≡ None → new unit ≡ old unit

-- LAST WRITES. Each read of a run gives what the writes that were answered before it left, or what the packs held first; and at last the
-- packs hold what all of them left.
pub record ArePassedOn (claims : (line : ℕ) → Request → Type 0) (script : Script) (tables : ℕ → Option Table)
    (old new : ℕ → model.Pack) (moments : List Moment) : Type 0 where
  pub reads : EachGives (drives_of script) claims (inputs_of script) (contents_of (drives_of script) tables old) (answers_in moments)
  pub left : HoldMap (drives_of script) tables new (left_behind (drives_of script) (inputs_of script) (contents_of (drives_of script) tables old) (answers_in moments))
