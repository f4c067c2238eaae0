-- The kind of a drive by the word in its drive type register.
use Rattle.std.specs.Prelude.{ℕ, bit_and}
use Rattle.pack_geometry.specs.declared.DriveKind.{DriveKind}
use Rattle.pack_geometry.specs.declared.DriveKind.TheVariants.{Rp06, Rm03, Rm05}

-- the low nine bits of the word name the kind; the others say how the drive is built in
abbrev pub nine_bits : ℕ → ℕ
nine_bits word = bit_and word 0o777

abbrev pub type_code : DriveKind → ℕ
type_code Rp06 = 0o22
type_code Rm03 = 0o24
type_code Rm05 = 0o27
