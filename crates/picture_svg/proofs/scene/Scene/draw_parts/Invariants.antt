use Rattle.std.proofs.Common.{◌≡◌}
use Rattle.picture_svg.proofs.scene.Scene.draw_parts.Given as goal

abbrev pub invariant-loop-letter : goal.invariant-loop-letter
invariant-loop-letter l = l.out ≡ l.initial.out
