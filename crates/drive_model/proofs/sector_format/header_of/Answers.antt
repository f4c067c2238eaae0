use Rattle.std.proofs.Common.{◌<◌, ◌^◌, subst, arith}
use Rattle.pack_geometry.specs.declared.DriveKind.{DriveKind}
use Rattle.pack_geometry.specs.declared.DriveKind.TheVariants.{Rp06}
use Rattle.pack_geometry.specs.declared.Place.{Place}
use Rattle.pack_geometry.specs.Geometry.{place_at, IsInside}
use Rattle.drive_model.proofs.HeaderLaws.{shown}
use Rattle.drive_model.proofs.sector_format.header_of.Goals as goal

-- a cylinder fits in ten bits
ten_bits : (kind : DriveKind) (place : Place) → IsInside kind place → place.cylinder < 2 ^ 10
ten_bits Rp06 place is = omega (arith, is.cylinder)
ten_bits other place is = omega (arith, is.cylinder)

pub returns-clause-shown : goal.returns-clause-shown
returns-clause-shown c =
    let small : (place_at c.args.kind c.args.block).cylinder < 2 ^ 10 = subst (λ (p : Place). p.cylinder < 2 ^ 10) c.place_of-place.ensures.place (ten_bits c.args.kind c.place_of-place.result c.place_of-place.ensures.inside) in
    rw (c.sector_word.ensures, c.cylinder_bits.ensures, c.place_of-place.ensures.place) (shown c.args.kind c.args.block c.args.marked small)
