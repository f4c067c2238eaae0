use Rattle.std.proofs.Common.{◌≡◌}
use Rattle.picture_svg.proofs.legend.draw_legend.Given as goal

abbrev pub invariant-loop-known : goal.invariant-loop-known
invariant-loop-known l = l.out ≡ l.initial.out
