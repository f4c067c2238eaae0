use Rattle.std.proofs.Common.{◌≡◌, ◌≤◌, ◌-◌, ◌++◌, IsTrue, length, take}
use Rattle.outside_traits.proofs.whole.write_all.Given as goal

-- the bytes so far were taken
abbrev pub invariant-loop-done : goal.invariant-loop-done
invariant-loop-done g l = record {
  inside : l.done ≤ length l.from;
  never_again : IsTrue (g.O.Sink.tells l.out) → IsTrue (g.O.Sink.tells l.fn.out);
  told : IsTrue (g.O.Sink.tells l.out) → g.O.Sink.taken l.out ≡ g.O.Sink.taken l.fn.out ++ take l.done l.from;
  later : g.O.Sink.faults l.fn.out ≤ g.O.Sink.faults l.out;
}

abbrev pub decreases-loop-done : goal.decreases-loop-done
decreases-loop-done g l = length l.from - l.done
