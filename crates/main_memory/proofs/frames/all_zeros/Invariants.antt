use Rattle.std.proofs.Common.{◌≡◌, ◌<◌, ℕ, length, slice_index_or, Some, None}
use Rattle.main_memory.proofs.frames.all_zeros.Given as goal

-- a frame's zeros for each turn
abbrev pub invariant-loop : goal.invariant-loop
invariant-loop l = record {
  frames : length l.fills.items ≡ l.counter;
  zeros : (frame : ℕ) → frame < l.counter → slice_index_or l.fills.items frame None ≡ Some 0;
}
