-- COORDINATES: each is below 20,000.
use Rattle.std.specs.Prelude.{nat_lt, Bool, ◌&&◌}
use Rattle.picture_svg.specs.declared.pieces.Point.{Point}

unfoldable pub is_low : Point → Bool
is_low p = nat_lt p.x 20000 && nat_lt p.y 20000
