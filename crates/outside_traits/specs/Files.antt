-- The two files of a pack.
use Rattle.std.specs.Prelude.{ℕ, List}
use Rattle.pack_geometry.specs.Pack.{Pack}
use Rattle.outside_traits.specs.declared.wide_packs.Part.{Part}
use Rattle.outside_traits.specs.declared.wide_packs.Part.TheVariants.{Image, Marks}

-- the bytes of one of the two files
abbrev pub file_of : Pack → Part → List ℕ
file_of pack Image = pack.image
file_of pack Marks = pack.marks
