use Rattle.std.proofs.Common.{◌≡◌, ◌<◌, ◌≤◌, ℕ, IsTrue}
use Rattle.pack_geometry.specs.TableSpelling.{Table}
use Rattle.pack_geometry.specs.PackTable.{Tells}
use Rattle.bad144_table.proofs.pack_table.table_of.Given as goal

-- no copy so far tells a table
abbrev pub invariant-loop-k : goal.invariant-loop-k
invariant-loop-k g l = record {
  never_again : IsTrue (g.P.Packs.tells l.packs) → IsTrue (g.P.Packs.tells l.fn.packs);
  same : IsTrue (g.P.Packs.tells l.packs) → g.P.Packs.held l.packs ≡ g.P.Packs.held l.fn.packs;
  later : g.P.Packs.faults l.fn.packs ≤ g.P.Packs.faults l.packs;
  none : IsTrue (g.P.Packs.tells l.packs) → (k : ℕ) → (table : Table) → k < l.k → ¬ (Tells l.kind (g.P.Packs.held l.fn.packs l.unit) k table);
}
