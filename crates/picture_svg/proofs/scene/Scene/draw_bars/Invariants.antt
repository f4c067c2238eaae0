use Rattle.std.proofs.Common.{◌≡◌, ◌-◌}
use Rattle.picture_svg.proofs.scene.Scene.draw_bars.Given as goal

abbrev pub invariant-columns : goal.invariant-columns
invariant-columns l = l.out ≡ l.initial.out

abbrev pub decreases-columns : goal.decreases-columns
decreases-columns l = l.to - l.from
