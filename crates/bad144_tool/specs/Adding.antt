-- What adding a block to the table of a unit's pack comes to.
use Rattle.std.specs.Prelude.{◌≡◌, ℕ, ◌<◌, ◌≤◌, ◌*◌, true, false, length, Some, None, slice_get}
use Rattle.pack_geometry.specs.declared.DriveKind.{DriveKind}
use Rattle.pack_geometry.specs.Geometry.{block_count, limit_of, place_at, replacement_at}
use Rattle.pack_geometry.specs.Pack.{Pack, is_marked}
use Rattle.pack_geometry.specs.PackTable.{IsTableOf}
use Rattle.pack_geometry.specs.TableEdit.{Edit}
use Rattle.pack_geometry.specs.TableSpelling.{Table}
use Rattle.bad144_table.specs.Inserts.{Inserts, IsNew}
use Rattle.bad144_tool.specs.Changes.{with_changes, IsCutShort}
use Rattle.bad144_tool.specs.Edit.{edit_writes}
use Rattle.bad144_tool.specs.declared.edit.AddWay.{AddWay}

-- what is asked of an edit
abbrev pub edit_of : ℕ → AddWay → Edit
edit_of block way = record { block = block; copy = way.copy; mark = way.mark }

-- the image is not longer than the pack
abbrev pub Fits : DriveKind → Pack → Type 0
Fits kind pack = length pack.image ≤ 512 * block_count kind

-- a pack of the drive's size, with this table
pub record HasTable (kind : DriveKind) (pack : Pack) (table : Table) : Type 0 where
  pub fits : Fits kind pack
  pub table_is : IsTableOf kind pack (Some table)

-- a new place goes to index `i` of the table
pub record GoesTo (kind : DriveKind) (pack : Pack) (block i : ℕ) (old new : Table) : Type 0 where
  pub on : HasTable kind pack old
  pub inserted : Inserts old new (place_at kind block) i

-- the replacements from `i` to the number of entries are unmarked up to `j`
abbrev pub AreFree : DriveKind → Pack → ℕ → ℕ → Type 0
AreFree kind pack i j = (k : ℕ) → i ≤ k → k < j → is_marked pack (replacement_at kind k) ≡ false

-- the block may be listed at index `i`: the replacements that would be written are unmarked
pub record MayList (kind : DriveKind) (pack : Pack) (block i : ℕ) (old new : Table) : Type 0 where
  pub goes : GoesTo kind pack block i old new
  pub free : AreFree kind pack i (length new.places)

-- the writes of the edit are done, and nothing else
pub record Adds (kind : DriveKind) (unit block : ℕ) (way : AddWay) (old new : ℕ → Pack) (i : ℕ) : Type 0 where
  pub table : Table
  pub new_table : Table
  pub may : MayList kind (old unit) block i table new_table
  pub done : new ≡ with_changes old unit (edit_writes kind (old unit).image new_table i block way)

-- WHY NOTHING IS ADDED, in this order.
pub record IsTooLong (kind : DriveKind) (pack : Pack) (n : ℕ) : Type 0 where
  pub is : n ≡ length pack.image
  pub above : 512 * block_count kind < n

pub record HasNone (kind : DriveKind) (pack : Pack) : Type 0 where
  pub fits : Fits kind pack
  pub none : IsTableOf kind pack None

pub record IsReserved (kind : DriveKind) (pack : Pack) (block : ℕ) : Type 0 where
  pub table : Table
  pub on : HasTable kind pack table
  pub reserved : limit_of kind ≤ block

pub record IsListed (kind : DriveKind) (pack : Pack) (block i : ℕ) : Type 0 where
  pub table : Table
  pub on : HasTable kind pack table
  pub below : block < limit_of kind
  pub listed : slice_get table.places i ≡ Some (place_at kind block)

pub record IsFull (kind : DriveKind) (pack : Pack) (block : ℕ) : Type 0 where
  pub table : Table
  pub on : HasTable kind pack table
  pub fresh : IsNew table (place_at kind block)
  pub full : length table.places ≡ 126

-- replacement `j` is the first marked one of those from `i` up to `end`
pub record IsFirstMarked (kind : DriveKind) (pack : Pack) (i end j : ℕ) : Type 0 where
  pub from : i ≤ j
  pub to : j < end
  pub before : AreFree kind pack i j
  pub marked : is_marked pack (replacement_at kind j) ≡ true

-- replacement `j` is the first marked one of those that would be written
pub record IsSpare (kind : DriveKind) (pack : Pack) (block j : ℕ) : Type 0 where
  pub i : ℕ
  pub table : Table
  pub new_table : Table
  pub goes : GoesTo kind pack block i table new_table
  pub first : IsFirstMarked kind pack i (length new_table.places) j

-- the packs failed: nothing was written, or a front of the writes of the edit
pub data IsStopped (kind : DriveKind) (unit block : ℕ) (way : AddWay) (old new : ℕ → Pack) : Type 0 where
  Before : new ≡ old → IsStopped kind unit block way old new
  Within : (i : ℕ) (table new_table : Table) → MayList kind (old unit) block i table new_table
      → IsCutShort old new unit (edit_writes kind (old unit).image new_table i block way) → IsStopped kind unit block way old new
