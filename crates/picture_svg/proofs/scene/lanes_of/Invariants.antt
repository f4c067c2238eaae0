use Rattle.std.proofs.Common.{◌≡◌, map, take}
use Rattle.picture_svg.specs.Pictures.{unit_of}
use Rattle.picture_svg.proofs.scene.lanes_of.Given as goal

abbrev pub invariant-loop-unit : goal.invariant-loop-unit
invariant-loop-unit l = map unit_of l.lanes.items ≡ take l.unit-index l.unit-items
