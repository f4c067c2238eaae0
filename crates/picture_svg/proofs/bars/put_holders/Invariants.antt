use Rattle.std.proofs.Common.{◌≡◌}
use Rattle.picture_svg.proofs.bars.put_holders.Given as goal

abbrev pub invariant-loop-lane : goal.invariant-loop-lane
invariant-loop-lane l = l.out ≡ l.initial.out
