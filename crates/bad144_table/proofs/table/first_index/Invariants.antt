use Rattle.std.proofs.Common.{◌≡◌, ◌<◌, ℕ, get_or}
use Rattle.pack_geometry.specs.declared.Place.{Place}
use Rattle.bad144_table.proofs.table.first_index.Given as goal

-- no place so far is the one
abbrev pub invariant-loop-i : goal.invariant-loop-i
invariant-loop-i l = (k : ℕ) (d : Place) → k < l.i → get_or l.listed-items k d ≡ l.place → ⊥
