use Rattle.std.proofs.Common.{◌≡◌, ◌≤◌, ◌++◌, take, IsTrue}
use Rattle.bad144_tool.specs.Texts.{entry_lines}
use Rattle.bad144_tool.proofs.tool.write_entries.Given as goal

-- the lines of the entries so far were taken
abbrev pub invariant-loop-i : goal.invariant-loop-i
invariant-loop-i g l = record {
  never_again : IsTrue (g.O.Sink.tells l.out) → IsTrue (g.O.Sink.tells l.fn.out);
  told : IsTrue (g.O.Sink.tells l.out) → g.O.Sink.taken l.out ≡ g.O.Sink.taken l.fn.out ++ entry_lines l.kind 0 (take l.i l.table.places);
  later : g.O.Sink.faults l.fn.out ≤ g.O.Sink.faults l.out;
}
