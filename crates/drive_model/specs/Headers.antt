-- The two words of a sector's header, and what a header shows.
use Rattle.std.specs.Prelude.{ℕ, ◌==◌, ◌&&◌, ◌||◌, not, Bool, true, false, Option, Some, None, if◌then◌else◌, bit_and, bit_or}
use Rattle.pack_geometry.specs.declared.DriveKind.{DriveKind}
use Rattle.pack_geometry.specs.declared.DriveKind.TheVariants.{Rp06, Rm03, Rm05}
use Rattle.pack_geometry.specs.declared.Place.{Place}
use Rattle.pack_geometry.specs.Geometry.{place_at, track_and_sector}
use Rattle.drive_model.specs.declared.sector_format.Header.{Header}
use Rattle.drive_model.specs.declared.sector_format.HeaderFault.{HeaderFault}
use Rattle.drive_model.specs.declared.sector_format.HeaderFault.TheVariants.{Format, BadSector, Compare}

-- the bits above the cylinder, on a good sector and on a marked one
abbrev pub cylinder_bits : DriveKind → Bool → ℕ
cylinder_bits Rp06 false = 0o10000
cylinder_bits Rp06 true = 0
cylinder_bits Rm03 false = 0o150000
cylinder_bits Rm03 true = 0o110000
cylinder_bits Rm05 false = 0o150000
cylinder_bits Rm05 true = 0o110000

-- the header of a block
abbrev pub header_at : DriveKind → ℕ → Bool → Header
header_at kind block marked = record {
  cylinder_word = bit_or (place_at kind block).cylinder (cylinder_bits kind marked);
  sector_word = track_and_sector (place_at kind block);
}

-- whether a bit of a word is off
abbrev pub is_off : ℕ → ℕ → Bool
is_off word bit = bit_and word bit == 0

-- an RM03 and an RM05 have two bits that are on in the header of a good sector
abbrev pub shows_bad : DriveKind → ℕ → Bool
shows_bad Rp06 word = false
shows_bad Rm03 word = is_off word 0o100000 || is_off word 0o40000
shows_bad Rm05 word = is_off word 0o100000 || is_off word 0o40000

-- the header names a place: its low ten bits are the cylinder, and its second word is the track and sector
abbrev pub names : Header → Place → Bool
names header place = (bit_and header.cylinder_word 0o1777 == place.cylinder) && (header.sector_word == track_and_sector place)

-- what a header shows where a block is wanted: the first fault that applies
abbrev pub fault_of : DriveKind → Header → ℕ → Option HeaderFault
fault_of kind header wanted =
    if shows_bad kind header.cylinder_word then Some BadSector
    else if is_off header.cylinder_word 0o10000 then Some Format
    else if not (names header (place_at kind wanted)) then Some Compare
    else None

-- the fault by which a kind shows a marked sector
abbrev pub mark_fault : DriveKind → HeaderFault
mark_fault Rp06 = Format
mark_fault Rm03 = BadSector
mark_fault Rm05 = BadSector

-- what the header made for a block shows where that block is wanted
abbrev pub fault_as_marked : DriveKind → Bool → Option HeaderFault
fault_as_marked kind marked = if marked then Some (mark_fault kind) else None
