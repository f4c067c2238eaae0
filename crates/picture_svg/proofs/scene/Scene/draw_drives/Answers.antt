use Rattle.std.proofs.Common.{arith}
use Rattle.picture_svg.specs.Pictures.{lines_of_lane}
use Rattle.picture_svg.proofs.Telling.{tell_none}
use Rattle.picture_svg.proofs.scene.Scene.draw_drives.Goals as goal

pub loop-lane-init : goal.loop-lane-init
loop-lane-init c = record {
  told = tell_none (lines_of_lane c.args.self.now.sheet.now) c.args.self.now.lanes.now c.args.out.now;
  low = omega arith;
}
