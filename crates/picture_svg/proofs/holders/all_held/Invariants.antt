use Rattle.std.proofs.Common.{◌≡◌, take}
use Rattle.picture_svg.specs.Holders.{all_held}
use Rattle.picture_svg.proofs.holders.all_held.Given as goal

abbrev pub invariant-loop-column : goal.invariant-loop-column
invariant-loop-column l = l.sum ≡ all_held (take l.column-index l.columns) l.lanes l.adapter
