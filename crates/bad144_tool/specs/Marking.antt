-- What marking the listed blocks of a unit's pack comes to.
use Rattle.std.specs.Prelude.{◌≡◌, ◌&&◌, ◌||◌, ℕ, nat_lt, not, Bool, true, false, List, map, filter, length, Option, Some, None}
use Rattle.pack_geometry.specs.declared.DriveKind.{DriveKind}
use Rattle.pack_geometry.specs.declared.Place.{Place}
use Rattle.pack_geometry.specs.Geometry.{block_number, limit_of, place_at, replacement_at}
use Rattle.pack_geometry.specs.Content.{bytes_at}
use Rattle.pack_geometry.specs.Homes.{content_of, home_of, if_unmarked, index_in}
use Rattle.pack_geometry.specs.Pack.{Pack, is_marked}
use Rattle.pack_geometry.specs.PackTable.{IsTableOf}
use Rattle.pack_geometry.specs.TableSpelling.{Table}
use Rattle.bad144_tool.specs.Adding.{HasTable}
use Rattle.bad144_tool.specs.Changes.{Change, Mark, IsCutShort, with_changes}

-- a data block that is not marked
abbrev pub wants_mark : DriveKind → Pack → ℕ → Bool
wants_mark kind pack block = nat_lt block (limit_of kind) && not (is_marked pack block)

-- THE BLOCKS THAT GET A MARK: of the listed data blocks those that are not marked, in the order of the table, which ascends
abbrev pub to_mark : DriveKind → Pack → List Place → List ℕ
to_mark kind pack places = filter (wants_mark kind pack) (map (block_number kind) places)

abbrev pub markings : DriveKind → Pack → List Place → List Change
markings kind pack places = map Mark (to_mark kind pack places)

-- just these marks were set, and so many they are
pub record Marks (kind : DriveKind) (unit : ℕ) (old new : ℕ → Pack) (count : ℕ) : Type 0 where
  pub table : Table
  pub on : HasTable kind (old unit) table
  pub done : new ≡ with_changes old unit (markings kind (old unit) table.places)
  pub counted : count ≡ length (to_mark kind (old unit) table.places)

-- the packs failed: nothing was marked, or a front of these blocks
pub data IsMarkingStopped (kind : DriveKind) (unit : ℕ) (old new : ℕ → Pack) : Type 0 where
  Before : new ≡ old → IsMarkingStopped kind unit old new
  Within : (table : Table) → HasTable kind (old unit) table → IsCutShort old new unit (markings kind (old unit) table.places)
      → IsMarkingStopped kind unit old new

-- a data block that the table lists
abbrev pub is_at : Option ℕ → Bool
is_at None = false
is_at (Some index) = true

abbrev pub is_listed : DriveKind → Table → ℕ → Bool
is_listed kind table block = nat_lt block (limit_of kind) && is_at (index_in (Some table) (place_at kind block))

-- WHAT THAT MEANS. No byte of the image changes; the marks are those that there were and those of the listed data blocks; the table stays
-- the pack's. A listed data block lives at its replacement from then on, and what is read of it is what that holds; every other block
-- keeps its content, or stays unusable.
pub record IsMarkedUp (kind : DriveKind) (old new : Pack) (table : Table) : Type 0 where
  pub image : new.image ≡ old.image
  pub marks : (block : ℕ) → is_marked new block ≡ (is_marked old block || is_listed kind table block)
  pub table_is : IsTableOf kind new (Some table)
  pub homes : (block index : ℕ) → is_listed kind table block ≡ true → index_in (Some table) (place_at kind block) ≡ Some index
      → home_of kind (Some table) new block ≡ if_unmarked old (replacement_at kind index)
  pub contents : (block index : ℕ) → is_listed kind table block ≡ true → index_in (Some table) (place_at kind block) ≡ Some index
      → content_of kind (Some table) new block ≡ bytes_at old (if_unmarked old (replacement_at kind index))
  pub others : (block : ℕ) → is_listed kind table block ≡ false → content_of kind (Some table) new block ≡ content_of kind (Some table) old block
