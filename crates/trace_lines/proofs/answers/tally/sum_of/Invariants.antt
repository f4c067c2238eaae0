use Rattle.std.proofs.Common.{◌≡◌, ◌%◌, ◌^◌, sum, take}
use Rattle.trace_lines.proofs.answers.tally.sum_of.Given as goal

-- the bytes below the index are summed
abbrev pub invariant-loop-byte : goal.invariant-loop-byte
invariant-loop-byte l = l.sum ≡ sum (take l.byte-index l.text) % 2 ^ 32
