-- The units of a script, as they are set up.
use Rattle.std.specs.Prelude.{◌≡◌, ℕ, zero, suc, ◌*◌, ◌<◌, ◌≤◌, Bool, IsTrue, List, [], ◌∷◌, ◌++◌, length, Option, None, Some}
use Rattle.pack_geometry.specs.declared.DriveKind.{DriveKind}
use Rattle.pack_geometry.specs.Geometry.{block_count}
use Rattle.pack_geometry.specs.Pack.{Pack}
use Rattle.pack_geometry.specs.TableSpelling.{Table}
use Rattle.pack_geometry.specs.PackTable.{IsTableOf}
use Rattle.driver_machine.specs.World.{Setup}
use Rattle.driver_machine.specs.Sound.{IsTableFor}
use Rattle.trace_replay.specs.Script.{Script, Statement, Declares, Plays, Line, drives_of}
use Rattle.outside_traits.specs.declared.traits.PackCall.{PackCall}
use Rattle.mba_autoconf.specs.Attach.{IsAttaching}
use Rattle.script_runs.specs.declared.fault.PlayFault.{PlayFault}
use Rattle.script_runs.specs.declared.fault.PlayFault.TheVariants as faults

-- A UNIT'S SETUP: its table is for its kind, and where the packs tell, its image fits, and the table is that of its pack.
pub record IsSet (tells : Bool) (packs : ℕ → Pack) (unit : ℕ) (kind : DriveKind) (s : Setup) : Type 0 where
  pub unit_is : s.unit ≡ unit
  pub kind_is : s.kind ≡ kind
  pub good : (table : Table) → s.table ≡ Some table → IsTableFor kind table
  pub fits : IsTrue tells → length (packs unit).image ≤ 512 * block_count kind
  pub table_is : IsTrue tells → IsTableOf kind (packs unit) s.table

-- a pack that is refused at a unit has more bytes than a drive of its kind: those of its image, where the packs tell
abbrev pub IsFoundLong : Bool → Pack → ℕ → DriveKind → PlayFault → Type 0
IsFoundLong tells pack unit kind (faults.TooLong other long) = (other ≡ unit) × (512 * block_count kind < long) × (IsTrue tells → long ≡ length pack.image)
IsFoundLong tells pack unit kind fault = Unit {0}

-- THE DRIVE that a line declares, if it declares one; and the one at an index, of some lines
abbrev pub drive_in : Statement → Option (ℕ × DriveKind)
drive_in (Declares unit kind) = Some (unit, kind)
drive_in (Plays input) = None

abbrev pub drive_at : List Line → ℕ → Option (ℕ × DriveKind)
drive_at [] i = None
drive_at (line ∷ lines) zero = drive_in line.statement
drive_at (line ∷ lines) (suc i) = drive_at lines i

-- ONE LINE. A unit that it declares is one of the 32;
abbrev pub HasRoom : Option (ℕ × DriveKind) → Type 0
HasRoom None = Unit {0}
HasRoom (Some drive) = drive.0 < 32

-- its setup comes behind those before, and any other line adds none;
abbrev pub Adds : Bool → (ℕ → Pack) → Option (ℕ × DriveKind) → List Setup → List Setup → Type 0
Adds tells packs None old new = new ≡ old
Adds tells packs (Some drive) old new = (s : Setup) × (new ≡ old ++ s ∷ []) × IsSet tells packs drive.0 drive.1 s

-- and only a unit is refused, whose pack is too long.
abbrev pub RefusesLine : Bool → (ℕ → Pack) → Option (ℕ × DriveKind) → PlayFault → Type 0
RefusesLine tells packs None fault = ⊥
RefusesLine tells packs (Some drive) fault = IsFoundLong tells (packs drive.0) drive.0 drive.1 fault

-- A LINE at which the packs failed declares the unit that was attached.
abbrev pub FailsLine : Option (ℕ × DriveKind) → PackCall → Type 0
FailsLine None call = ⊥
FailsLine (Some drive) call = IsAttaching drive.1 drive.0 call

-- A CALL OF THE PACKS that attaches a unit which the script declares: for the length of its image, or about a copy of its table, which lies where
-- neither data nor replacements are
pub record AttachesOne (script : Script) (call : PackCall) : Type 0 where
  pub unit : ℕ
  pub kind : DriveKind
  pub declared : drives_of script unit ≡ Some kind
  pub attaching : IsAttaching kind unit call
