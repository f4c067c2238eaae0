-- The data of a sector, or the front of the data, and its repair by a burst.
use Rattle.std.specs.Prelude.{ℕ, ◌-◌, ◌/◌, ◌%◌, nat_lt, if◌then◌else◌, List, [], ◌∷◌, bit_xor, slice_index, suc}
use Rattle.std.specs.Int.{bit_at}
use Rattle.fire_code.specs.Repair.{burst_byte}

-- bytes, counted from one on, each with the burst's byte flipped in it
unfoldable pub repaired_from : ℕ → ℕ → ℕ → List ℕ → List ℕ
repaired_from i at pattern [] = []
repaired_from i at pattern (byte ∷ bytes) = bit_xor byte (burst_byte at pattern i) ∷ repaired_from (suc i) at pattern bytes

-- the data with the burst flipped: each byte with an exclusive or of its byte of the burst
abbrev pub repaired : ℕ → ℕ → List ℕ → List ℕ
repaired at pattern bytes = repaired_from 0 at pattern bytes

-- the bit at a place of the data: each byte has eight places, from the least significant bit on
abbrev pub data_bit : List ℕ → ℕ → ℕ
data_bit bytes place = bit_at (slice_index bytes (place / 8)) (place % 8)

-- the bit of the pattern that stands for a place: bit j for place `at - 1 + j`, and 0 before
abbrev pub pattern_bit : ℕ → ℕ → ℕ → ℕ
pattern_bit at pattern place = if nat_lt place (at - 1) then 0 else bit_at pattern (place - (at - 1))
