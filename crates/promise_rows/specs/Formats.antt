-- What wrong bodies would do of polls, tests, formatting and their commands, refused by the words of their contracts.
use Rattle.std.specs.Prelude.{◌≡◌, ◌≢◌, ℕ, ◌+◌, ◌-◌, ◌*◌, ◌^◌, ◌<◌, ◌≤◌, ◌==◌, Bool, true, false, List, [], length, replicate, slice_index}
use Rattle.pack_geometry.specs.declared.DriveKind.{DriveKind}
use Rattle.pack_geometry.specs.declared.DriveKind.TheVariants.{Rm03}
use Rattle.pack_geometry.specs.Geometry.{block_count, copy_at, place_at}
use Rattle.pack_geometry.specs.Pack.{Pack, block_at, is_marked}
use Rattle.pack_geometry.specs.TableSpelling.{Spells, Table}
use Rattle.hardware_table.specs.Drive.{DriveState}
use Rattle.pack_format.specs.testing.Stations.{IsAimed}
use Rattle.pack_format.specs.Formatted.{IsFormatted, table_for}
use Rattle.pack_format.specs.testing.Stages.{Fills, one}
use Rattle.pack_format.specs.testing.Stops.{IsStop, Writes}
use Rattle.pack_format.specs.Faults.{IsFault}
use Rattle.pack_format.specs.Surveys.{IsSurvey}
use Rattle.pack_format.specs.declared.fault.FormatFault.TheVariants as format_fault
use Rattle.command_parts.specs.Lines.{too_long_text}
use Rattle.pack_commands.specs.Formats.{RunsFormat}
use Rattle.pack_commands.specs.Tools.{RunsFresh}

-- the heads stand on a cylinder below the block's
abbrev pub HeadsLeftWhereTheyAre : Type 0
HeadsLeftWhereTheyAre = (kind : DriveKind) (block : ℕ) (drive : DriveState) → drive.cc < (place_at kind block).cylinder → ¬ IsAimed kind block drive

-- block 0 is told to differ, and another one was tested
abbrev pub AnotherBlockTold : Type 0
AnotherBlockTold = (told : Bool) (block at wrote read : ℕ) (bytes : List ℕ) → 0 < block → ¬ IsStop told (Writes block (λ text. text ≡ bytes)) (format_fault.Differs 0 at wrote read)

-- the first copy of the table is not written, and it is not marked
abbrev pub CopyLeftOut : Type 0
CopyLeftOut = (kind : DriveKind) (serial : ℕ) (old new : Pack) → is_marked old (copy_at kind 0) ≡ false
    → ¬ Spells (block_at new.image (copy_at kind 0)) (table_for kind serial old) → ¬ IsFormatted kind serial old new

-- a block that was tested keeps the bytes A5
abbrev pub ZerosLeftOut : Type 0
ZerosLeftOut = (unit block : ℕ) (old new : ℕ → Pack) → is_marked (old unit) block ≡ false → block_at (new unit).image block ≡ replicate 512 165
    → ¬ Fills unit (one (old unit) block) (replicate 512 0) old new

-- a marked block whose reading failed is passed over: it is not counted
abbrev pub FailedReadingPassedOver : Type 0
FailedReadingPassedOver = (kind : DriveKind) (serial block number : ℕ) (pack : Pack) (table : Table) → IsSurvey kind serial pack block number table → is_marked pack block ≡ true
    → ¬ IsSurvey kind serial pack (block + 1) number table

-- the image of unit 0 is too long, and that is said of unit 31
abbrev pub AnotherUnitNamedTooLong : Type 0
AnotherUnitNamedTooLong = (kind : DriveKind) (serial faults : ℕ) (old new : ℕ → Pack) (after : List ℕ) → faults < 2 ^ 64 - 1
    → after ≡ too_long_text 31 (length (old 0).image) → ¬ RunsFormat kind 0 serial 7 true old new true [] after faults faults

-- an RM03 gets an empty table as an RP06 does, though its image is too long
abbrev pub KindTakenForAnother : Type 0
KindTakenForAnother = (unit serial faults faults_after : ℕ) (old new : ℕ → Pack) (taken after : List ℕ) → 512 * block_count Rm03 < length (old unit).image
    → ¬ RunsFresh Rm03 unit serial 0 true old new true taken after faults faults_after

-- the image of a pack that was formatted is longer than the drive, or that of one on which formatting stopped
abbrev pub FormatLengthensTheImage : Type 0
FormatLengthensTheImage = (kind : DriveKind) (unit serial faults faults_after : ℕ) (old new : ℕ → Pack) (out_tells : Bool) (taken after : List ℕ)
    → length (old unit).image ≤ 512 * block_count kind → 512 * block_count kind < length (new unit).image
    → (¬ RunsFormat kind unit serial 0 true old new out_tells taken after faults faults_after)
    × (¬ RunsFormat kind unit serial 6 true old new out_tells taken after faults faults_after)

-- a byte of a block is told that came back otherwise, and one before it did too
abbrev pub DiffersAtALaterByte : Type 0
DiffersAtALaterByte = (kind : DriveKind) (serial block at wrote read k : ℕ) (differs : IsFault kind serial (format_fault.Differs block at wrote read))
    → k < at → ¬ (slice_index differs.back k ≢ slice_index differs.bytes k)
