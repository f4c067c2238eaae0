use Rattle.std.proofs.Common.{◌≡◌, ◌≤◌, ◌+◌, ◌*◌, take, fold}
use Rattle.std.specs.Prelude.{None}
use Rattle.picture_svg.specs.Scales.{below_of}
use Rattle.picture_svg.proofs.picture.bottom_of.Given as goal

abbrev pub invariant-loop-lane : goal.invariant-loop-lane
invariant-loop-lane l = record {
  place : l.place ≡ fold below_of (record { adapter = None; y = 320 }) (take l.lane-index l.lanes);
  inside : l.place.y ≤ 320 + 401 * l.lane-index;
}
