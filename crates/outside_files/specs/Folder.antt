-- The two files of each unit's pack, and what is written to one of them.
use Rattle.std.specs.Prelude.{◌≡◌, ℕ, Bool, IsTrue, ◌+◌, ◌*◌, ◌&&◌, not, ◌<◌, ◌≤◌, take, drop, length, List, [], ◌∷◌, ◌++◌, codes}
use Rattle.std.specs.Fmt.{decimal}
use Rattle.pack_geometry.specs.Pack.{Pack, with_pack, with_window}
use Rattle.outside_traits.specs.declared.wide_packs.Part.{Part}
use Rattle.outside_traits.specs.declared.wide_packs.Part.TheVariants.{Image, Marks}
use Rattle.outside_traits.specs.Files.{file_of}

-- a pack with other bytes in one of its files
abbrev pub with_file : Pack → Part → List ℕ → Pack
with_file pack Image bytes = record { image = bytes; marks = pack.marks }
with_file pack Marks bytes = record { image = pack.image; marks = bytes }

-- a file with these bytes at a place; no bytes leave it as it was
abbrev pub put_at : ℕ → List ℕ → List ℕ → List ℕ
put_at at [] file = file
put_at at (byte ∷ bytes) file = with_window at (byte ∷ bytes) file

-- the packs with these bytes at a place of one file of a unit
abbrev pub with_put : (ℕ → Pack) → ℕ → Part → ℕ → List ℕ → ℕ → Pack
with_put packs unit part at bytes = with_pack packs unit (with_file (packs unit) part (put_at at bytes (file_of (packs unit) part)))

-- a file's number among those of all units
abbrev pub file_number : ℕ → Part → ℕ
file_number unit Image = 2 * unit
file_number unit Marks = 2 * unit + 1

-- the name of a unit's file, with the unit in decimal
abbrev pub name_of : ℕ → Part → List ℕ
name_of unit Image = codes "hp" ++ (decimal unit ++ codes ".dsk")
name_of unit Marks = codes "hp" ++ (decimal unit ++ codes ".bad")

-- a front of a piece has what a file has from a place on, and all of it where the piece is not full
pub record IsFilled (file : List ℕ) (at : ℕ) (piece : List ℕ) (count : ℕ) : Type 0 where
  pub bytes : take count piece ≡ take count (drop at file)
  pub end : count < length piece → length file ≤ at + count

-- a write that failed when a part of its bytes had gone out: that part stands in the file, where the folder tells it
pub record IsTorn (tells : Bool) (old new : ℕ → Pack) (unit : ℕ) (part : Part) (at : ℕ) (bytes : List ℕ) : Type 0 where
  pub count : ℕ
  pub some : 0 < count
  pub few : count < length bytes
  pub held : IsTrue tells → new ≡ with_put old unit part at (take count bytes)

-- packs in files tell where the folder does and no block is torn
abbrev pub tells_whole : Bool → Bool → Bool
tells_whole tells torn = tells && not torn
