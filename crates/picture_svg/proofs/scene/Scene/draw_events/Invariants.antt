use Rattle.std.proofs.Common.{◌≡◌}
use Rattle.picture_svg.proofs.scene.Scene.draw_events.Given as goal

abbrev pub invariant-loop-column : goal.invariant-loop-column
invariant-loop-column l = l.out ≡ l.initial.out
