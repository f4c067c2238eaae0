use Rattle.std.proofs.Common.{◌≡◌, take, fold}
use Rattle.picture_svg.specs.Holders.{with_held}
use Rattle.picture_svg.proofs.holders.held.Given as goal

abbrev pub invariant-loop-lane : goal.invariant-loop-lane
invariant-loop-lane l = l.sum ≡ fold (with_held l.column l.adapter) 0 (take l.lane-index l.lanes)
