use Rattle.std.proofs.Common.{◌≡◌}
use Rattle.picture_svg.proofs.scene.Scene.draw_by_column.Given as goal

abbrev pub invariant-loop-from : goal.invariant-loop-from
invariant-loop-from l = l.out ≡ l.initial.out
