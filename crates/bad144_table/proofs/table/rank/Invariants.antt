use Rattle.std.proofs.Common.{ℕ, ◌<◌, get_or}
use Rattle.pack_geometry.specs.declared.Place.{Place}
use Rattle.pack_geometry.specs.Geometry.{block_number}
use Rattle.bad144_table.proofs.table.rank.Given as goal

abbrev pub invariant-loop-i : goal.invariant-loop-i
invariant-loop-i l = (k : ℕ) (d : Place) → k < l.i → block_number l.table.kind (get_or l.place-items k d) < l.block
