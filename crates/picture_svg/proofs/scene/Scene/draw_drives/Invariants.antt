use Rattle.std.proofs.Common.{◌≡◌, ◌≤◌, ◌+◌, ◌*◌, take}
use Rattle.picture_svg.specs.Nesting.{told}
use Rattle.picture_svg.specs.Pictures.{lines_of_lanes}
use Rattle.picture_svg.proofs.scene.Scene.draw_drives.Given as goal

abbrev pub invariant-loop-lane : goal.invariant-loop-lane
invariant-loop-lane l = record {
  told : l.out ≡ told (lines_of_lanes l.self.sheet.now (take l.lane-index l.self.lanes.now)) l.initial.out;
  low : l.place.y ≤ 320 + 401 * l.lane-index;
}
