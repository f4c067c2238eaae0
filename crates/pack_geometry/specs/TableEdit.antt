-- What a pack becomes when a place is added to its bad-sector table.
use Rattle.std.specs.Prelude.{◌≡◌, ◌≢◌, ℕ, zero, suc, ◌<◌, ◌≤◌, ◌+◌, ◌-◌, ◌==◌, ◌&&◌, ◌||◌, Bool, false, if◌then◌else◌, List, [], ◌∷◌, length, replicate, insert, Some, Contains}
use Rattle.pack_geometry.specs.declared.DriveKind.{DriveKind}
use Rattle.pack_geometry.specs.declared.Place.{Place}
use Rattle.pack_geometry.specs.Geometry.{limit_of, place_at, copy_at, replacement_at}
use Rattle.pack_geometry.specs.Pack.{Pack, block_at, is_marked, written, with_window}
use Rattle.pack_geometry.specs.TableSpelling.{Table, IsTable, Spells, table_text}
use Rattle.pack_geometry.specs.PackTable.{IsTableOf}
use Rattle.pack_geometry.specs.Homes.{content_of}

-- the table with one place more, at an index
abbrev pub with_place : Table → ℕ → Place → Table
with_place table i place = record table { places = insert table.places i place }

-- what is asked: a data block to be listed, whether its bytes are copied, and whether it is marked
pub record Edit : Type 0 where
  pub block : ℕ
  pub copy : Bool
  pub mark : Bool

-- the table of a pack to which a block may be added at an index, where the table is in order again
pub record IsAddedAt (kind : DriveKind) (pack : Pack) (table : Table) (edit : Edit) (i : ℕ) : Type 0 where
  pub table_is : IsTableOf kind pack (Some table)
  pub data_block : edit.block < limit_of kind
  pub fresh : ¬ (Contains table.places (place_at kind edit.block))
  pub position : i ≤ length table.places
  pub valid : IsTable (with_place table i (place_at kind edit.block))
  pub unmarked : (j : ℕ) → i ≤ j → j ≤ length table.places → is_marked pack (replacement_at kind j) ≡ false

-- the table afterwards
abbrev pub edited_table : DriveKind → Table → Edit → ℕ → Table
edited_table kind table edit i = with_place table i (place_at kind edit.block)

unfoldable pub zero_block : List ℕ
zero_block = replicate 512 0

-- the bytes that the new replacement gets: the block's own sector, or zeros
abbrev pub replacement_bytes : Pack → Edit → List ℕ
replacement_bytes pack edit = if edit.copy then block_at pack.image edit.block else zero_block

-- the content of the new block afterwards: where it is then marked, its replacement's, and else its own sector's
abbrev pub edited_content : Pack → Edit → List ℕ
edited_content pack edit =
    if edit.mark || is_marked pack edit.block then replacement_bytes pack edit else block_at pack.image edit.block

-- a block that is no copy of the table and no replacement from an index to another
pub record IsApart (kind : DriveKind) (from to block : ℕ) : Type 0 where
  pub no_copy : (k : ℕ) → k < 5 → block ≢ copy_at kind k
  pub no_replacement : (j : ℕ) → from ≤ j → j ≤ to → block ≢ replacement_at kind j

-- THE EDIT. All five copies spell the new table, with the old serial number; every data block but the new one has the
-- same content or stays unusable; no mark changes but the new block's; and all other blocks stay.
pub record IsEdited (kind : DriveKind) (old new : Pack) (table : Table) (edit : Edit) (i : ℕ) : Type 0 where
  pub copies : (k : ℕ) → k < 5 → Spells (block_at new.image (copy_at kind k)) (edited_table kind table edit i)
  pub table_is : IsTableOf kind new (Some (edited_table kind table edit i))
  pub others : (other : ℕ) → other ≢ edit.block
      → content_of kind (Some (edited_table kind table edit i)) new other ≡ content_of kind (Some table) old other
  pub content : content_of kind (Some (edited_table kind table edit i)) new edit.block ≡ Some (edited_content old edit)
  pub marks : (other : ℕ) → is_marked new other ≡ (is_marked old other || (edit.mark && other == edit.block))
  pub rest : (other : ℕ) → IsApart kind i (length table.places) other → block_at new.image other ≡ block_at old.image other

-- THE WRITES that make it. Each replacement from the last listed one down to the new index's moves up by one.
abbrev pub moved_up : DriveKind → Pack → ℕ → ℕ → Pack
moved_up kind pack i zero = pack
moved_up kind pack i (suc n) =
    moved_up kind (written pack (replacement_at kind (i + n + 1)) (block_at pack.image (replacement_at kind (i + n)))) i n

-- the copies from a number on get the bytes of a table, copy 0 first
abbrev pub with_copies : DriveKind → List ℕ → ℕ → Pack → Pack
with_copies kind bytes zero pack = pack
with_copies kind bytes (suc n) pack = written (with_copies kind bytes n pack) (copy_at kind n) bytes

abbrev pub with_mark_at : Bool → ℕ → Pack → Pack
with_mark_at mark block pack = if mark then record pack { marks = with_window block (1 ∷ []) pack.marks } else pack

-- then the new replacement gets its bytes, the copies the new table, and the block its mark
abbrev pub edited : DriveKind → Pack → Table → Edit → ℕ → Pack
edited kind pack table edit i =
    with_mark_at edit.mark edit.block
    (with_copies kind (table_text table.serial (edited_table kind table edit i).places) 5
    (written (moved_up kind pack i (length table.places - i)) (replacement_at kind i) (replacement_bytes pack edit)))
