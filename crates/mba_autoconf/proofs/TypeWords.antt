-- The type word of each kind.
use Rattle.std.proofs.Common.{◌≡◌, refl}
use Rattle.pack_geometry.specs.declared.DriveKind.{DriveKind}
use Rattle.pack_geometry.specs.declared.DriveKind.TheVariants.{Rp06}
use Rattle.hardware_table.specs.Drive.{type_word}
use Rattle.mba_autoconf.specs.Probe.{nine_bits, type_code}

-- it has the kind's code
pub type_code-type_word : (kind : DriveKind) → nine_bits (type_word kind) ≡ type_code kind
type_code-type_word Rp06 = refl
type_code-type_word other = refl
