use Rattle.std.proofs.Common.{length, ◌≡◌, ◌≤◌, ◌+◌, ◌-◌, ◌++◌, IsTrue, vec_len}
use Rattle.outside_traits.proofs.whole.read_all.Given as goal

-- what was read and what is left are all of it
abbrev pub invariant-loop-piece : goal.invariant-loop-piece
invariant-loop-piece g l = record {
  never_again : IsTrue (g.S.Source.tells l.source) → IsTrue (g.S.Source.tells l.fn.source);
  told : IsTrue (g.S.Source.tells l.source) → g.S.Source.left l.fn.source ≡ l.bytes.items ++ g.S.Source.left l.source;
  bound : length l.bytes.items ≤ l.limit + 1;
  later : g.S.Source.faults l.fn.source ≤ g.S.Source.faults l.source;
}

abbrev pub decreases-loop-piece : goal.decreases-loop-piece
decreases-loop-piece g l = l.limit + 1 - vec_len l.bytes
