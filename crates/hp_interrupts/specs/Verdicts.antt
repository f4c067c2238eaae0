-- What a verdict on a sector leaves in the registers that a data interrupt reads.
use Rattle.std.specs.Prelude.{◌≡◌, ℕ, Bool, false}
use Rattle.hardware_table.specs.declared.Moved.{Moved}
use Rattle.hardware_table.specs.declared.Moved.TheVariants as moved
use Rattle.hardware_table.specs.Drive.{DriveState}
use Rattle.hardware_table.specs.Adapter.{late_after}
use Rattle.hardware_table.specs.Moves.{after_move}
use Rattle.hp_interrupts.specs.declared.DataCause.{DataCause}
use Rattle.hp_interrupts.specs.declared.DataCause.TheVariants.{Complete, Corrected, BadSector, Offline, Drive, Hard}
use Rattle.hp_interrupts.specs.declared.TransferRegs.{TransferRegs}

-- the drive's registers, and the adapter's data late
abbrev pub registers_of : DriveState → Bool → TransferRegs
registers_of drive late = record { er1 = drive.er1; er2 = drive.er2; ec1 = drive.ec1; ec2 = drive.ec2; late = late }

-- data late is the adapter's to show
abbrev pub shows_late : Moved → Bool
shows_late (moved.Faulted kind) = late_after kind false
shows_late _ = false

-- the registers are as this verdict on a block leaves them, on a drive of any kind that had no error before
pub record IsLeftBy (verdict : Moved) (drive : DriveState) (block : ℕ) (regs : TransferRegs) : Type 0 where
  pub first_clear : drive.er1 ≡ 0
  pub second_clear : drive.er2 ≡ 0
  pub registers : regs ≡ registers_of (after_move verdict block drive) (shows_late verdict)

-- the registers are as some verdict leaves them
abbrev pub AreLeft : TransferRegs → Type 0
AreLeft regs = (verdict : Moved) × ((drive : DriveState) × ((block : ℕ) × IsLeftBy verdict drive block regs))

-- each verdict's cause
abbrev pub cause_of : Moved → DataCause
cause_of moved.Clean = Complete
cause_of (moved.Burst at pattern) = Corrected at pattern
cause_of moved.Hard = Hard
cause_of moved.Marked = BadSector
cause_of (moved.Faulted kind) = Drive kind
cause_of moved.Offline = Offline
