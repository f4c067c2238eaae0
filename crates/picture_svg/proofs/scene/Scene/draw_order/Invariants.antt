use Rattle.std.proofs.Common.{◌≡◌}
use Rattle.picture_svg.proofs.scene.Scene.draw_order.Given as goal

abbrev pub invariant-loop-place : goal.invariant-loop-place
invariant-loop-place l = l.out ≡ l.initial.out
