-- ONE UNIT over packs, with the table of its pack: no other drive is there.
use Rattle.std.specs.Prelude.{◌≡◌, ℕ, ◌*◌, ◌<◌, ◌==◌, if◌then◌else◌, Bool, false, IsTrue, [], ◌∷◌, Option, None, Some, IfSome, length}
use Rattle.pack_geometry.specs.declared.DriveKind.{DriveKind}
use Rattle.pack_geometry.specs.Geometry.{block_count}
use Rattle.pack_geometry.specs.Pack.{Pack}
use Rattle.pack_geometry.specs.PackTable.{IsTableOf}
use Rattle.pack_geometry.specs.TableSpelling.{Table}
use Rattle.driver_laws.specs.rules.Stands.{Setup}
use Rattle.driver_machine.specs.World.{new_world}
use Rattle.driver_machine.specs.Sound.{IsTableFor}
use Rattle.raw_io.specs.Passes.{HasCauses, State}
use Rattle.mba_autoconf.specs.Attach.{Fits}
use Rattle.raw_command.specs.Faults.{IsBefore, IsOfUnit, stop_of}
use Rattle.raw_command.specs.declared.fault.TransferFault.{TransferFault}
use Rattle.raw_command.specs.declared.fault.TransferFault.TheVariants as fault

abbrev pub at_unit : {A : Type 0} → (unit : ℕ) → Option A → ℕ → Option A
at_unit unit value u = if u == unit then value else None

abbrev pub unit_setup : (unit : ℕ) → DriveKind → Option Table → (ℕ → Pack) → Setup
unit_setup unit kind table packs = record { drives = at_unit unit (Some kind); tables = at_unit unit table; packs = packs }

-- THE DRIVER for it is new, and takes one request at a time; where the packs tell, the image fits, and the table is that of the pack.
pub record IsAttached (tells : Bool) (pack : Pack) (unit : ℕ) (kind : DriveKind) (s : State) : Type 0 where
  pub table : Option Table
  pub made : s ≡ record { world = new_world (record { unit = unit; kind = kind; table = table } ∷ []) 1 0; outstanding = 1; failed = false; kept = [] }
  pub good : (t : Table) → table ≡ Some t → IsTableFor kind t
  pub fits : IsTrue tells → Fits kind pack
  pub is : IsTrue tells → IsTableOf kind pack table

-- an image that is called too long is
pub record IsLong (tells : Bool) (pack : Pack) (kind : DriveKind) (size : ℕ) : Type 0 where
  pub above : 512 * block_count kind < size
  pub is : IsTrue tells → size ≡ length pack.image

abbrev pub IsFoundLong : (tells : Bool) → Pack → DriveKind → TransferFault → Type 0
IsFoundLong tells pack kind (fault.TooLong n) = IsLong tells pack kind n
IsFoundLong tells pack kind why = Unit {0}

-- WHAT EACH CALL KEEPS, whatever it comes to.
pub record KeepsUnit {Q O : Type 0} (holds : Q → Bool) (held : Q → ℕ → Pack) (packs_faults : Q → ℕ) (tells : O → Bool) (faults : O → ℕ)
    (unit : ℕ) (kind : DriveKind) (packs packs' : Q) (trace trace' : O) (fault : Option TransferFault) : Type 0 where
  pub never_again : IsTrue (holds packs') → IsTrue (holds packs)
  pub never_again_trace : IsTrue (tells trace') → IsTrue (tells trace)
  pub causes : HasCauses (packs_faults packs) (packs_faults packs') (faults trace) (faults trace') (stop_of fault)
  pub untraced : IsBefore fault → trace' ≡ trace
  pub same : IsBefore fault → IsTrue (holds packs') → held packs' ≡ held packs
  pub long : IfSome fault (IsFoundLong (holds packs') (held packs unit) kind)
  pub only : IsOfUnit fault
