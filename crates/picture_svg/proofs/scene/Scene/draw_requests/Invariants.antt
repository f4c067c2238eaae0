use Rattle.std.proofs.Common.{◌≡◌}
use Rattle.picture_svg.proofs.scene.Scene.draw_requests.Given as goal

abbrev pub invariant-loop-request : goal.invariant-loop-request
invariant-loop-request l = l.out ≡ l.initial.out
