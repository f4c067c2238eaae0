-- What windows of the parts of packs hold.
use Rattle.std.specs.Prelude.{◌≡◌, ℕ, Bool, IsTrue, List, length, Some, slice_get}
use Rattle.pack_geometry.specs.Pack.{Pack, window}

-- bytes, and the place where they stand in a whole
pub record Part : Type 0 where
  pub at : ℕ
  pub bytes : List ℕ

-- a part has what the whole has at its place; behind the end of the whole there are zeros
pub record IsPart (part : Part) (whole : List ℕ) : Type 0 where
  pub bytes : part.bytes ≡ window (length part.bytes) part.at whole

-- each unit's part is one of that unit's whole
pub record AreParts (parts : List Part) (whole : ℕ → List ℕ) : Type 0 where
  pub each : (unit : ℕ) → (part : Part) → slice_get parts unit ≡ Some part → IsPart part (whole unit)

abbrev pub images_of : (ℕ → Pack) → ℕ → List ℕ
images_of held unit = (held unit).image

abbrev pub marks_of : (ℕ → Pack) → ℕ → List ℕ
marks_of held unit = (held unit).marks

-- there is a window of the image and one of the marks for each of the 32 units; where the packs tell what they hold, the
-- windows have what they hold
pub record AreCurrent (tells : Bool) (held : ℕ → Pack) (images marks : List Part) : Type 0 where
  pub image_count : length images ≡ 32
  pub marks_count : length marks ≡ 32
  pub image_parts : IsTrue tells → AreParts images (images_of held)
  pub mark_parts : IsTrue tells → AreParts marks (marks_of held)
