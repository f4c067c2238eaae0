-- The bad-sector table of a pack. A pack has five copies of its table.
use Rattle.std.specs.Prelude.{◌≡◌, ℕ, ◌<◌, false, List, [], Option, None, Some}
use Rattle.pack_geometry.specs.declared.DriveKind.{DriveKind}
use Rattle.pack_geometry.specs.declared.Place.{Place}
use Rattle.pack_geometry.specs.Geometry.{copy_at}
use Rattle.pack_geometry.specs.Pack.{Pack, block_at, is_marked}
use Rattle.pack_geometry.specs.TableSpelling.{Table, Spells}

-- copy `k` tells this table: it is unmarked, and its bytes spell the table for a drive of this kind
pub record Tells (kind : DriveKind) (pack : Pack) (k : ℕ) (table : Table) : Type 0 where
  pub for_drive : table.kind ≡ kind
  pub unmarked : is_marked pack (copy_at kind k) ≡ false
  pub spelled : Spells (block_at pack.image (copy_at kind k)) table

-- the first of the five copies that tells a table tells this one
pub record IsFirstTold (kind : DriveKind) (pack : Pack) (table : Table) : Type 0 where
  pub copy : ℕ
  pub is_copy : copy < 5
  pub told : Tells kind pack copy table
  pub first : (k : ℕ) (other : Table) → k < copy → ¬ (Tells kind pack k other)

-- the table of a pack is the one that is told first; where no copy tells one, the pack has none
abbrev pub IsTableOf : DriveKind → Pack → Option Table → Type 0
IsTableOf kind pack None = (k : ℕ) (table : Table) → k < 5 → ¬ (Tells kind pack k table)
IsTableOf kind pack (Some table) = IsFirstTold kind pack table

-- a unit that is not declared has no table
abbrev pub IsTableAt : Option DriveKind → Pack → Option Table → Type 0
IsTableAt None pack table = table ≡ None
IsTableAt (Some kind) pack table = IsTableOf kind pack table

-- these are the tables of the packs of all units, by the drives that are declared
abbrev pub AreTablesOf : (ℕ → Option DriveKind) → (ℕ → Pack) → (ℕ → Option Table) → Type 0
AreTablesOf drives packs tables = (unit : ℕ) → IsTableAt (drives unit) (packs unit) (tables unit)

-- the places that are listed; none where a pack has no table
abbrev pub places_of : Option Table → List Place
places_of None = []
places_of (Some table) = table.places

-- the copies of two packs hold the same bytes and have the same marks
pub record HaveSameCopies (kind : DriveKind) (pack other : Pack) : Type 0 where
  pub bytes : (k : ℕ) → k < 5 → block_at pack.image (copy_at kind k) ≡ block_at other.image (copy_at kind k)
  pub marks : (k : ℕ) → k < 5 → is_marked pack (copy_at kind k) ≡ is_marked other (copy_at kind k)
