-- Which 512 bytes spell a bad-sector table, after DEC STD 144.
use Rattle.std.specs.Prelude.{◌≡◌, ℕ, ◌<◌, ◌≤◌, ◌*◌, ◌-◌, ◌^◌, List, [], ◌∷◌, ◌++◌, length, replicate, All, AllPairs}
use Rattle.std.specs.Int.{to_le_bytes, w16, w32}
use Rattle.std.specs.List.{flat_map}
use Rattle.pack_geometry.specs.declared.DriveKind.{DriveKind}
use Rattle.pack_geometry.specs.declared.Place.{Place}
use Rattle.pack_geometry.specs.Geometry.{IsInside, block_number, track_and_sector}

-- a table: the kind of its drive, the pack's serial number, and the places that are listed
pub record Table : Type 0 where
  pub kind : DriveKind
  pub serial : ℕ
  pub places : List Place

-- at most 126 places of the drive, in strictly ascending order
pub record IsTable (table : Table) : Type 0 where
  pub serial : table.serial < 2 ^ 32
  pub room : length table.places ≤ 126
  pub inside : All (IsInside table.kind) table.places
  pub ascending : AllPairs (λ p q. block_number table.kind p < block_number table.kind q) table.places

-- the serial number, and the words zero and flag
abbrev pub head_text : ℕ → List ℕ
head_text serial = to_le_bytes w32 serial ++ 0 ∷ 0 ∷ 0 ∷ 0 ∷ []

-- a pair of words: the cylinder, and the track and sector
abbrev pub pair_text : Place → List ℕ
pair_text place = to_le_bytes w16 place.cylinder ++ to_le_bytes w16 (track_and_sector place)

-- the pairs of all places, and then pairs of all ones
unfoldable pub pairs_text : List Place → List ℕ
pairs_text places = flat_map pair_text places ++ replicate (504 - 4 * length places) 255

-- the 512 bytes of a table, in little-endian order
unfoldable pub table_text : ℕ → List Place → List ℕ
table_text serial places = head_text serial ++ pairs_text places

-- the bytes spell this table
pub record Spells (bytes : List ℕ) (table : Table) : Type 0 where
  pub text : bytes ≡ table_text table.serial table.places
  pub valid : IsTable table
