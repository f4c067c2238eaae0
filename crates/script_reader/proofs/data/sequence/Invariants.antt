use Rattle.std.proofs.Common.{◌≡◌, ◌<◌, ◌≤◌, ◌+◌, ◌-◌, ◌/◌, ◌%◌, ℕ, get_or, length}
use Rattle.script_reader.proofs.data.sequence.Given as goal

abbrev pub invariant-rows : goal.invariant-rows
invariant-rows l = record {
  within : l.start ≤ length l.into;
  whole : l.start % 512 ≡ 0;
  next : l.next ≡ (l.first + l.start / 512) % 256;
  bytes : (k : ℕ) → k < l.start → get_or l.into k 0 ≡ (l.first + k / 512 + k % 512) % 256;
}

abbrev pub decreases-rows : goal.decreases-rows
decreases-rows l = length l.into - l.start
