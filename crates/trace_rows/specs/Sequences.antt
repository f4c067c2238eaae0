-- Bytes that a `seq` writes.
use Rattle.std.specs.Prelude.{ℕ, zero, suc, ◌+◌, ◌/◌, ◌%◌, List, [], ◌∷◌}

-- so many bytes from number `i` on: byte t of block j is the sum of `first`, j and t, modulo 256
abbrev pub sequence_from : ℕ → ℕ → ℕ → List ℕ
sequence_from first i zero = []
sequence_from first i (suc size) = (first + i / 512 + i % 512) % 256 ∷ sequence_from first (i + 1) size

-- and from the beginning
abbrev pub sequence : ℕ → ℕ → List ℕ
sequence first size = sequence_from first 0 size
