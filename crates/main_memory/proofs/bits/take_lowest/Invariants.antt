use Rattle.std.proofs.Common.{◌≡◌, ℕ, ◌<◌, get_or}
use Rattle.main_memory.proofs.bits.take_lowest.Given as goal

abbrev pub invariant-loop-index : goal.invariant-loop-index
invariant-loop-index l = record { same : l.words ≡ l.initial.words; none_before : (k : ℕ) → k < l.index → get_or l.words k 0 ≡ 0 }
