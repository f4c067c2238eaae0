-- What is transferred, as words name it.
use Rattle.std.specs.Prelude.{ℕ, ◌<◌, ◌≤◌, ◌-◌, ◌^◌, if◌then◌else◌, Bool, true, false, List, [], ◌∷◌, Option, None, Some, codes}
use Rattle.std.specs.Option.{option_map}
use Rattle.std.specs.Result.{result_ok}
use Rattle.std.specs.Str.{bytes_eq}
use Rattle.pack_geometry.specs.declared.DriveKind.{DriveKind}
use Rattle.partitions.specs.declared.Part.{Part}
use Rattle.mass_text.specs.Numbers.{number_of}
use Rattle.mass_text.specs.declared.numbers.Radix.TheVariants.{Decimal}
use Rattle.script_lines.specs.Fields.{part_field}
use Rattle.command_parts.specs.Fields.{kind_named, of_two, unit_named}
use Rattle.command_parts.specs.declared.words.Target.{Target}
use Rattle.command_parts.specs.declared.words.Transfer.{Transfer}
use Rattle.command_parts.specs.declared.words.Transfer.TheVariants.{Read, Write}
use Rattle.command_parts.specs.declared.words.Writing.{Writing}
use Rattle.command_parts.specs.declared.words.Writing.TheVariants.{Raw, Dump}

-- a partition is `a` to `h`; a place is below 2^40, and a number of bytes 16,777,216 at the most, in decimal
abbrev pub part_named : List ℕ → Option Part
part_named word = result_ok (part_field word)

abbrev pub place_named : List ℕ → Option ℕ
place_named word = result_ok (number_of Decimal (2 ^ 40 - 1) word)

abbrev pub size_named : List ℕ → Option ℕ
size_named word = result_ok (number_of Decimal 16777216 word)

-- a target, where each of its words names something
abbrev pub target_of : Option ℕ → Option DriveKind → Option Part → Option ℕ → Option Target
target_of (Some unit) (Some kind) (Some part) (Some at) = Some (record { unit = unit; kind = kind; part = part; at = at })
target_of unit kind part at = None

abbrev pub target_named : (unit kind part at : List ℕ) → Option Target
target_named unit kind part at = target_of (unit_named unit) (kind_named kind) (part_named part) (place_named at)

-- by the verb `write`, and by the verb `read`
abbrev pub written_named : (verb unit kind part at : List ℕ) → Option Transfer
written_named verb unit kind part at = if bytes_eq verb (codes "write") then option_map (λ target. Write (Raw target)) (target_named unit kind part at) else None

abbrev pub sized_named : (verb unit kind part at size : List ℕ) → Option Transfer
sized_named verb unit kind part at size = if bytes_eq verb (codes "read") then of_two Read (target_named unit kind part at) (size_named size) else None

-- WHAT IS TRANSFERRED by `raw read U KIND PART AT LEN`, by `raw write U KIND PART AT`,
abbrev pub raw_named : (verb unit kind : List ℕ) → List (List ℕ) → Option Transfer
raw_named verb unit kind (part ∷ at ∷ []) = written_named verb unit kind part at
raw_named verb unit kind (part ∷ at ∷ size ∷ []) = sized_named verb unit kind part at size
raw_named verb unit kind words = None

-- and by `dump U KIND`
abbrev pub dump_named : (unit kind : List ℕ) → Option Transfer
dump_named unit kind = of_two (λ unit kind. Write (Dump unit kind)) (unit_named unit) (kind_named kind)

-- its numbers are in their ranges
pub record IsTarget (t : Target) : Type 0 where
  pub unit_is : t.unit < 32
  pub at_is : t.at < 2 ^ 40

abbrev pub IsPlaced : Writing → Type 0
IsPlaced (Raw target) = IsTarget target
IsPlaced (Dump unit kind) = unit < 32

abbrev pub IsInRange : Transfer → Type 0
IsInRange (Read target size) = IsTarget target × (size ≤ 16777216)
IsInRange (Write writing) = IsPlaced writing

-- only what is written is read from the source
abbrev pub reads_source : Transfer → Bool
reads_source (Read target size) = false
reads_source (Write writing) = true
