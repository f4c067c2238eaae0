use Rattle.std.proofs.Common.{◌≡◌, ◌≤◌, IsTrue, Ok, length, take, ℕ}
use Rattle.outside_traits.specs.declared.traits.StoreFailed.{StoreFailed}
use Rattle.bad144_tool.specs.Changes.{DoesAll}
use Rattle.bad144_tool.specs.Marking.{markings, to_mark}
use Rattle.bad144_tool.proofs.marking.mark_all.Given as goal

-- of the places so far those were marked for which it was wanted, and so many they were
abbrev pub invariant-loop-i : goal.invariant-loop-i
invariant-loop-i g l = record {
  does : DoesAll {T = ℕ} {E = StoreFailed} g.P.Packs.tells g.P.Packs.held g.P.Packs.faults l.unit l.fn.packs l.packs (Ok l.count)
      (markings l.kind (g.P.Packs.held l.fn.packs l.unit) (take l.i l.table.places));
  counted : IsTrue (g.P.Packs.tells l.packs) → l.count ≡ length (to_mark l.kind (g.P.Packs.held l.fn.packs l.unit) (take l.i l.table.places));
  small : l.count ≤ l.i;
}
