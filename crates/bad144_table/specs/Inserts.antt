-- The outcomes of adding a place to a table.
use Rattle.std.specs.Prelude.{◌≡◌, ℕ, ◌<◌, ◌≤◌, ◌-◌, length, Some, slice_get, slice_index_or, Contains}
use Rattle.pack_geometry.specs.declared.Place.{Place}
use Rattle.pack_geometry.specs.Geometry.{limit_of, block_number}
use Rattle.pack_geometry.specs.TableSpelling.{Table, IsTable}
use Rattle.pack_geometry.specs.TableEdit.{with_place}
use Rattle.bad144_table.specs.declared.table.InsertFault.{InsertFault}
use Rattle.bad144_table.specs.declared.table.InsertFault.TheVariants.{Reserved, Listed, Full}

-- the place is a data block's, and is not listed
pub record IsNew (table : Table) (place : Place) : Type 0 where
  pub below : block_number table.kind place < limit_of table.kind
  pub absent : ¬ (Contains table.places place)

-- the place went to its position, where the table is in order again
pub record Inserts (old new : Table) (place : Place) (i : ℕ) : Type 0 where
  pub fresh : IsNew old place
  pub position : i ≤ length old.places
  pub changed : new ≡ with_place old i place
  pub valid : IsTable new

-- why a place is refused
abbrev pub IsRefused : Table → Place → InsertFault → Type 0
IsRefused table place Reserved = limit_of table.kind ≤ block_number table.kind place
IsRefused table place (Listed i) =
    (block_number table.kind place < limit_of table.kind) × (slice_get table.places i ≡ Some place)
IsRefused table place Full = IsNew table place × (length table.places ≡ 126)

-- there is a last place, and another does not lie above it
pub record IsAtOrBelowLast (table : Table) (place : Place) : Type 0 where
  pub some : 0 < length table.places
  pub last : (d : Place) → block_number table.kind place ≤ block_number table.kind (slice_index_or table.places (length table.places - 1) d)
