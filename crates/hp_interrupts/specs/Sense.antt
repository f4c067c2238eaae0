-- What the drive status says before a command.
use Rattle.std.specs.Prelude.{◌≡◌, ℕ, Bool, not, ◌&&◌, if◌then◌else◌, bit_and}
use Rattle.hardware_table.specs.Drive.{DriveState}
use Rattle.hp_interrupts.specs.declared.Sensed.{Sensed}
use Rattle.hp_interrupts.specs.declared.Sensed.TheVariants.{Go, Offline, Locked}

-- a bit of a register is on, or off
abbrev pub IsOn : ℕ → ℕ → Type 0
IsOn word bit = bit_and word bit ≡ bit

abbrev pub IsOff : ℕ → ℕ → Type 0
IsOff word bit = bit_and word bit ≡ 0

-- what is sensed of a drive before a write's transfer, or before another command
abbrev pub sensed_of : DriveState → Bool → Sensed
sensed_of drive write_transfer =
    if not drive.online then Offline else if drive.locked && write_transfer then Locked else Go
