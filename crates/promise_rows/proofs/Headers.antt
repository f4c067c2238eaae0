-- A header's fault and the drive's row for a marked sector
use Rattle.std.proofs.Common.{◌≡◌, ℕ, ◌^◌, ◌<◌, true, false, Option, refl, ap, arith, ◌∙◌}
use Rattle.pack_geometry.specs.declared.DriveKind.{DriveKind}
use Rattle.pack_geometry.specs.declared.DriveKind.TheVariants.{Rp06, Rm03, Rm05}
use Rattle.pack_geometry.specs.Geometry.{block_count, place_at}
use Rattle.hardware_table.specs.Drive.{DriveState}
use Rattle.hardware_table.specs.Moves.{with_mark_bits}
use Rattle.drive_model.specs.Headers.{fault_as_marked}
use Rattle.drive_model.specs.declared.sector_format.HeaderFault.{HeaderFault}
use Rattle.drive_model.proofs.HeaderLaws.{shown}
use Rattle.promise_rows.specs.Headers.{with_header_bit, HeadersAreAsTheDriveHasThem}

ten_bits : (kind : DriveKind) (block : ℕ) → block < block_count kind → (place_at kind block).cylinder < 2 ^ 10
ten_bits Rp06 block less = omega (arith, less)
ten_bits other block less = omega (arith, less)

as_marked : (kind : DriveKind) (d : DriveState) → with_header_bit (fault_as_marked kind true) d ≡ with_mark_bits kind d
as_marked Rp06 d = refl
as_marked other d = refl

pub headers_are : HeadersAreAsTheDriveHasThem
headers_are d block less =
    let small : (place_at d.kind block).cylinder < 2 ^ 10 = ten_bits d.kind block less in (
      ap (λ (fault : Option HeaderFault). with_header_bit fault d) (shown d.kind block true small) ∙ as_marked d.kind d,
      shown d.kind block false small,
    )
