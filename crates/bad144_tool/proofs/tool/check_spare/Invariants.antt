use Rattle.std.proofs.Common.{◌≡◌, ◌≤◌, IsTrue}
use Rattle.bad144_tool.specs.Adding.{AreFree}
use Rattle.bad144_tool.proofs.tool.check_spare.Given as goal

-- the replacements so far are unmarked
abbrev pub invariant-loop-j : goal.invariant-loop-j
invariant-loop-j g l = record {
  never_again : IsTrue (g.P.Packs.tells l.packs) → IsTrue (g.P.Packs.tells l.fn.packs);
  same : IsTrue (g.P.Packs.tells l.packs) → g.P.Packs.held l.packs ≡ g.P.Packs.held l.fn.packs;
  later : g.P.Packs.faults l.fn.packs ≤ g.P.Packs.faults l.packs;
  free : IsTrue (g.P.Packs.tells l.packs) → AreFree l.kind (g.P.Packs.held l.fn.packs l.unit) l.i l.j;
}
