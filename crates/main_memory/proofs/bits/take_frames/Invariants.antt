use Rattle.std.proofs.Common.{◌≡◌, ℕ, ◌<◌, ◌++◌, length, get_or}
use Rattle.main_memory.specs.Frames.{free_frames}
use Rattle.main_memory.proofs.bits.take_frames.Given as goal

abbrev pub invariant-loop-taken : goal.invariant-loop-taken
invariant-loop-taken l = record {
  moved : l.frames.items ++ free_frames l.words ≡ free_frames l.initial.words;
  so_many : length l.frames.items ≡ l._taken;
  none_before : (k : ℕ) → k < l.word → get_or l.words k 0 ≡ 0;
}
