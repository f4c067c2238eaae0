-- What wrong bodies would say of places, partitions, headers and charts, refused by the words of their contracts.
use Rattle.std.specs.Prelude.{◌≡◌, ◌≢◌, ℕ, ◌+◌, ◌-◌, ◌*◌, ◌<◌, true, false, List, [], ◌∷◌, length, Some}
use Rattle.pack_geometry.specs.declared.DriveKind.{DriveKind}
use Rattle.pack_geometry.specs.declared.DriveKind.TheVariants.{Rm03, Rm05}
use Rattle.pack_geometry.specs.declared.Place.{Place}
use Rattle.pack_geometry.specs.Geometry.{IsInside, block_count, limit_of, replacement_at, sectors_of}
use Rattle.partitions.specs.declared.Part.{Part}
use Rattle.partitions.specs.declared.Part.TheVariants.{G}
use Rattle.partitions.specs.declared.Admission.TheVariants.{Inside, Outside}
use Rattle.partitions.specs.Partitions.{admission, first_of, size_of}
use Rattle.drive_model.specs.declared.sector_format.HeaderFault.TheVariants.{Format}
use Rattle.drive_model.specs.Headers.{cylinder_bits, fault_of}
use Rattle.picture_chart.specs.Charts.{fitted, is_plain, plain_of}

pub record PlacesRefused : Type 0 where
  -- replacement 0 is the first block of the last track, and each other one stands a block too high
  pub replacement_off_by_one : (kind : DriveKind) (i : ℕ) → i < 126 → ¬ (replacement_at kind i ≡ block_count kind - sectors_of kind - i)
  -- an RM05 has ten data blocks more, as if its last track had 22 sectors
  pub rm05_limit_by_22_sectors : ¬ (limit_of Rm05 ≡ 500236)
  -- a place lies on the drive that names the sector behind a track's last
  pub sector_too_many : (kind : DriveKind) (place : Place) → place.sector ≡ sectors_of kind → ¬ IsInside kind place
  -- a request at its partition's end is outside
  pub end_is_outside : (kind : DriveKind) (part : Part) (count : ℕ) → ¬ (admission kind part (size_of kind part) count ≡ Outside)
  -- one is inside that reaches a block past that end
  pub one_block_past_the_end : (kind : DriveKind) (part : Part) (block count first : ℕ) → block + count ≡ size_of kind part + 1
      → ¬ (admission kind part block count ≡ Inside first)
  -- partition `g` of an RM05 begins at the cylinder of an RM03's
  pub rm05_g_by_rm03 : ¬ (first_of Rm05 G ≡ 309 * 19 * 32)
  -- a header with no bit on is at fault for its format, on an RM03 too
  pub format_before_the_bad_sector : (word wanted : ℕ) → ¬ (fault_of Rm03 (record { cylinder_word = 0; sector_word = word }) wanted ≡ Some Format)
  -- the header of a marked sector of an RM03 keeps the bit of a good one
  pub marked_header_keeps_its_good_bit : ¬ (cylinder_bits Rm03 true ≡ 0o150000)
  -- an RM05 marks as an RP06 does
  pub rm05_marked_as_an_rp06 : ¬ (cylinder_bits Rm05 true ≡ 0)
  -- a byte that is not printing is put on a chart as it is
  pub bytes_as_they_are : (byte : ℕ) → is_plain byte ≡ false → byte ≢ 63 → ¬ (plain_of byte ≡ byte)
  -- a plus stands for a text that fits just
  pub plus_for_a_text_that_fits : (text : List ℕ) → 1 < length text → ¬ (fitted (length text) text ≡ 43 ∷ [])
