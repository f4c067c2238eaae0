-- The home of a data block, where its bytes are on a pack with a bad-sector table, and what these bytes are.
use Rattle.std.specs.Prelude.{◌≡◌, ℕ, ◌==◌, ◌&&◌, nat_lt, Bool, if◌then◌else◌, List, Option, None, Some}
use Rattle.std.specs.List.{position}
use Rattle.pack_geometry.specs.declared.DriveKind.{DriveKind}
use Rattle.pack_geometry.specs.declared.Place.{Place}
use Rattle.pack_geometry.specs.Geometry.{limit_of, place_at, replacement_at}
use Rattle.pack_geometry.specs.Pack.{Pack, is_marked}
use Rattle.pack_geometry.specs.Content.{bytes_at}
use Rattle.pack_geometry.specs.TableSpelling.{Table}
use Rattle.pack_geometry.specs.PackTable.{places_of}

abbrev pub is_place : Place → Place → Bool
is_place p q = (p.cylinder == q.cylinder) && ((p.track == q.track) && (p.sector == q.sector))

-- the index at which a table lists a place
abbrev pub index_in : Option Table → Place → Option ℕ
index_in table place = position (is_place place) (places_of table)

-- a sector, where it is unmarked
abbrev pub if_unmarked : Pack → ℕ → Option ℕ
if_unmarked pack sector = if is_marked pack sector then None else Some sector

-- the replacement of the entry at an index, where that sector is unmarked
abbrev pub replacement_home : DriveKind → Pack → Option ℕ → Option ℕ
replacement_home kind pack None = None
replacement_home kind pack (Some i) = if_unmarked pack (replacement_at kind i)

-- The home of a data block is its own sector where that is unmarked. Where it is marked and the table lists it, the
-- home is the replacement, if that is unmarked. Any other block has no home and is unusable, and so is each block at
-- or above the data limit.
abbrev pub home_of : DriveKind → Option Table → Pack → ℕ → Option ℕ
home_of kind table pack block =
    if nat_lt block (limit_of kind)
    then (if is_marked pack block then replacement_home kind pack (index_in table (place_at kind block)) else Some block)
    else None

-- a sector is the home of some data block
pub record IsHome (kind : DriveKind) (table : Option Table) (pack : Pack) (sector : ℕ) : Type 0 where
  pub block : ℕ
  pub at : home_of kind table pack block ≡ Some sector

-- the content of a data block: the 512 bytes at its home, or none where it is unusable
abbrev pub content_of : DriveKind → Option Table → Pack → ℕ → Option (List ℕ)
content_of kind table pack block = bytes_at pack (home_of kind table pack block)

-- the content of a unit's block; a unit that is not declared has none
abbrev pub content_at : Option DriveKind → Option Table → Pack → ℕ → Option (List ℕ)
content_at None table pack block = None
content_at (Some kind) table pack block = content_of kind table pack block

-- the contents of all units, by the drives that are declared and the tables of their packs
abbrev pub contents_of : (ℕ → Option DriveKind) → (ℕ → Option Table) → (ℕ → Pack) → ℕ → ℕ → Option (List ℕ)
contents_of drives tables packs unit block = content_at (drives unit) (tables unit) (packs unit) block
