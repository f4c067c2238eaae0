-- Counts. No run that is read comes near the number at which they stop.
use Rattle.std.specs.Prelude.{ℕ, ◌+◌, ◌-◌, ◌^◌, min}

-- a sum, which stops at 2^64 - 1
abbrev pub plus : ℕ → ℕ → ℕ
plus count more = min (count + more) (2 ^ 64 - 1)

-- how far two cylinders are apart: `-` stops at 0
abbrev pub apart : ℕ → ℕ → ℕ
apart from to = (from - to) + (to - from)
