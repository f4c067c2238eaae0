-- What a header shows where a block is wanted, and what the drive's table makes of it.
use Rattle.std.specs.Prelude.{◌≡◌, ℕ, ◌<◌, true, false, Option, Some, None, bit_or}
use Rattle.pack_geometry.specs.Geometry.{block_count}
use Rattle.drive_registers.specs.Bits as bits
use Rattle.hardware_table.specs.Drive.{DriveState}
use Rattle.hardware_table.specs.Moves.{after_move}
use Rattle.hardware_table.specs.declared.Moved.TheVariants.{Marked}
use Rattle.drive_model.specs.Headers.{header_at, fault_of}
use Rattle.drive_model.specs.declared.sector_format.HeaderFault.{HeaderFault}
use Rattle.drive_model.specs.declared.sector_format.HeaderFault.TheVariants.{Format, BadSector, Compare}

-- the error bit of a header's fault
abbrev pub with_header_bit : Option HeaderFault → DriveState → DriveState
with_header_bit None d = d
with_header_bit (Some Format) d = record d { er1 = bit_or d.er1 bits.format_error }
with_header_bit (Some BadSector) d = record d { er2 = bit_or d.er2 bits.bad_sector_error }
with_header_bit (Some Compare) d = record d { er1 = bit_or d.er1 bits.header_compare_error }

-- THE HEADER OF A MARKED BLOCK shows just the fault whose bit the drive's row for a marked sector sets; that of an unmarked one shows none.
abbrev pub HeadersAreAsTheDriveHasThem : Type 0
HeadersAreAsTheDriveHasThem = (d : DriveState) (block : ℕ) → block < block_count d.kind
    → (with_header_bit (fault_of d.kind (header_at d.kind block true) block) d ≡ after_move Marked block d)
    × (fault_of d.kind (header_at d.kind block false) block ≡ None)
