-- Images that are too long for their drives.
use Rattle.std.specs.Prelude.{◌≡◌, ℕ, ◌<◌, ◌≤◌, ◌*◌, Bool, IsTrue, List, ◌∷◌, ◌++◌, length, Some}
use Rattle.pack_geometry.specs.declared.DriveKind.{DriveKind}
use Rattle.pack_geometry.specs.Geometry.{block_count}
use Rattle.pack_geometry.specs.Pack.{Pack}
use Rattle.trace_replay.specs.Script.{Script, Line, Declares, drives_in, drives_of}

-- an image has more bytes than the blocks of its unit's drive
pub record IsTooLong (script : Script) (packs : ℕ → Pack) (unit length_is : ℕ) : Type 0 where
  pub kind : DriveKind
  pub declared : drives_of script unit ≡ Some kind
  pub is : length_is ≡ length (packs unit).image
  pub more : 512 * block_count kind < length_is

-- one that is NAMED so: a line declares its unit, and the length is more than its drive has; where the packs tell, it is the length of the
-- image, and the images of all units that are declared before fit
pub record NamesTooLong (script : Script) (tells : Bool) (packs : ℕ → Pack) (unit length_is : ℕ) : Type 0 where
  pub kind : DriveKind
  pub before : List Line
  pub line : Line
  pub after : List Line
  pub lines : script.lines ≡ before ++ line ∷ after
  pub declares : line.statement ≡ Declares unit kind
  pub declared : drives_of script unit ≡ Some kind
  pub more : 512 * block_count kind < length_is
  pub is : IsTrue tells → length_is ≡ length (packs unit).image
  pub first : IsTrue tells → (other : ℕ) (its : DriveKind) → drives_in before other ≡ Some its → length (packs other).image ≤ 512 * block_count its
