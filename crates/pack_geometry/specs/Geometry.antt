-- The sizes of the drives, and the places of their blocks.
use Rattle.std.specs.Prelude.{ℕ, ◌<◌, ◌+◌, ◌*◌, ◌-◌, ◌/◌, ◌%◌, List, codes}
use Rattle.pack_geometry.specs.declared.DriveKind.{DriveKind}
use Rattle.pack_geometry.specs.declared.DriveKind.TheVariants.{Rp06, Rm03, Rm05}
use Rattle.pack_geometry.specs.declared.Place.{Place}

abbrev pub cylinders_of : DriveKind → ℕ
cylinders_of Rp06 = 815
cylinders_of Rm03 = 823
cylinders_of Rm05 = 823

abbrev pub tracks_of : DriveKind → ℕ
tracks_of Rp06 = 19
tracks_of Rm03 = 5
tracks_of Rm05 = 19

abbrev pub sectors_of : DriveKind → ℕ
sectors_of Rp06 = 22
sectors_of Rm03 = 32
sectors_of Rm05 = 32

-- how many blocks a pack has
abbrev pub block_count : DriveKind → ℕ
block_count kind = cylinders_of kind * tracks_of kind * sectors_of kind

-- the blocks below this number hold data; above are the replacements and the table's track
abbrev pub limit_of : DriveKind → ℕ
limit_of kind = block_count kind - sectors_of kind - 126

-- the place lies on the drive
pub record IsInside (kind : DriveKind) (place : Place) : Type 0 where
  pub cylinder : place.cylinder < cylinders_of kind
  pub track : place.track < tracks_of kind
  pub sector : place.sector < sectors_of kind

-- blocks are numbered sector by sector, track by track, cylinder by cylinder
abbrev pub block_number : DriveKind → Place → ℕ
block_number kind place = (place.cylinder * tracks_of kind + place.track) * sectors_of kind + place.sector

-- where a block lies
abbrev pub place_at : DriveKind → ℕ → Place
place_at kind block = record {
  cylinder = block / (tracks_of kind * sectors_of kind);
  track = block % (tracks_of kind * sectors_of kind) / sectors_of kind;
  sector = block % sectors_of kind;
}

-- the word that names a place's track and sector on its cylinder
abbrev pub track_and_sector : Place → ℕ
track_and_sector place = place.track * 256 + place.sector

-- copy `k` of the bad-sector table, on the even sectors of the last track
abbrev pub copy_at : DriveKind → ℕ → ℕ
copy_at kind k = block_count kind - sectors_of kind + 2 * k

-- the block that replaces entry `i` of the bad-sector table, from the last track downwards
abbrev pub replacement_at : DriveKind → ℕ → ℕ
replacement_at kind i = block_count kind - sectors_of kind - 1 - i

-- the word that names a kind
abbrev pub kind_word : DriveKind → List ℕ
kind_word Rp06 = codes "rp06"
kind_word Rm03 = codes "rm03"
kind_word Rm05 = codes "rm05"
