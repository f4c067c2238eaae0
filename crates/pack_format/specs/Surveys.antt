-- What the first reading has found so far.
use Rattle.std.specs.Prelude.{◌≡◌, ℕ, zero, suc, ◌<◌, ◌≤◌, ◌&&◌, nat_lt, if◌then◌else◌, Bool, true, false, IsTrue, Option, None, Some, map, length}
use Rattle.pack_geometry.specs.declared.DriveKind.{DriveKind}
use Rattle.pack_geometry.specs.Geometry.{copy_at, place_at, replacement_at}
use Rattle.pack_geometry.specs.Pack.{Pack, is_marked}
use Rattle.pack_geometry.specs.TableSpelling.{Table}
use Rattle.pack_format.specs.Formatted.{CanBeFormatted, IsTooLong, found, marked_below, table_for}
use Rattle.pack_format.specs.declared.fault.FormatFault.{FormatFault}
use Rattle.pack_format.specs.declared.fault.FormatFault.TheVariants.{TooMany, Spare, NoCopy}

-- of the marked blocks below one: how many they are, and the table that lists them, where they are at most 126
pub record IsSurvey (kind : DriveKind) (serial : ℕ) (pack : Pack) (block number : ℕ) (table : Table) : Type 0 where
  pub counted : number ≡ length (marked_below pack block)
  pub listed : number ≤ 126 → table ≡ record { kind = kind; serial = serial; places = map (place_at kind) (marked_below pack block) }

-- the first of so many replacements that is marked
abbrev pub IsFirst : DriveKind → Pack → ℕ → Option ℕ → Type 0
IsFirst kind pack count None = (i : ℕ) → i < count → is_marked pack (replacement_at kind i) ≡ false
IsFirst kind pack count (Some index) = (is_marked pack (replacement_at kind index) ≡ true) × ((i : ℕ) → i < index → is_marked pack (replacement_at kind i) ≡ false)

-- it, where an entry would use it
abbrev pub used_of : ℕ → Option ℕ → Option ℕ
used_of number None = None
used_of number (Some index) = if nat_lt index number then Some index else None

-- the first copies are all marked
unfoldable pub all_marked : DriveKind → Pack → ℕ → Bool
all_marked kind pack zero = true
all_marked kind pack (suc k) = all_marked kind pack k && is_marked pack (copy_at kind k)

-- what was found of a pack that is not too long
pub record IsJudged (kind : DriveKind) (pack : Pack) (number : ℕ) (spare : Option ℕ) (no_copy : Bool) : Type 0 where
  pub fits : ¬ (IsTooLong kind pack)
  pub counted : number ≡ found kind pack
  pub first : IsFirst kind pack 126 spare
  pub copies : no_copy ≡ all_marked kind pack 5

-- a table of so many marked blocks, which lie below one
pub record IsHeaded (kind : DriveKind) (serial block number : ℕ) (table : Table) : Type 0 where
  pub counted : number ≤ block
  pub kind_is : table.kind ≡ kind
  pub serial_is : table.serial ≡ serial

-- THE TABLE THAT IS TO BE WRITTEN, and nothing is in the way
pub record IsListed (kind : DriveKind) (serial : ℕ) (told : Bool) (pack : Pack) (table : Table) : Type 0 where
  pub kind_is : table.kind ≡ kind
  pub serial_is : table.serial ≡ serial
  pub can : IsTrue told → CanBeFormatted kind pack
  pub table_is : IsTrue told → table ≡ table_for kind serial pack

-- the refusals that a finding may have, with their numbers
abbrev pub IsRefusal : FormatFault → Type 0
IsRefusal (TooMany number) = 126 < number
IsRefusal (Spare index) = index < 126
IsRefusal NoCopy = Unit {0}
IsRefusal _ = ⊥
