use Rattle.std.proofs.Common.{◌≡◌, ◌<◌, ◌+◌, ◌%◌, ℕ, get_or}
use Rattle.script_reader.proofs.data.ascend.Given as goal

abbrev pub invariant-loop-place : goal.invariant-loop-place
invariant-loop-place l = record {
  next : l.next ≡ (l.first + l.place-index) % 256;
  bytes : (k : ℕ) → k < l.place-index → get_or l.into k 0 ≡ (l.first + k) % 256;
}
