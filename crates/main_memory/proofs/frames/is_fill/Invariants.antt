use Rattle.std.proofs.Common.{◌≡◌, ◌<◌, ◌↔◌, ℕ, get_or}
use Rattle.main_memory.proofs.frames.is_fill.Given as goal

-- no bit differs so far exactly where each byte so far is the first one
abbrev pub invariant-loop-byte : goal.invariant-loop-byte
invariant-loop-byte l = (l.differ ≡ 0) ↔ ((k : ℕ) → k < l.byte-index → get_or l.bytes k 0 ≡ l.first)
