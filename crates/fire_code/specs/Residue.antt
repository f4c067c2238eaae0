-- Residues modulo the generator's factors, x^21 + 1 and x^11 + x^2 + 1.
use Rattle.std.specs.Prelude.{◌≡◌, ℕ, ◌*◌, ◌/◌, ◌%◌, ◌^◌, ◌<◌, bit_xor}
use Rattle.std.specs.Int.{bit_at}
use Rattle.std.proofs.Common.{suc}
use Rattle.fire_code.specs.Remainder.{times_x, repeat}

-- x * v modulo x^(m+1) + back, for v of m + 1 bits
unfoldable pub clock : ℕ → ℕ → ℕ → ℕ
clock m back v = bit_xor (v * 2 % 2 ^ suc m) (bit_at v m * back)

-- x * v modulo x^11 + x^2 + 1
abbrev pub clock_cycle : ℕ → ℕ
clock_cycle = clock 10 5

-- v modulo x^21 + 1, for v of 32 bits: its bits laid round a ring of 21
unfoldable pub ring_of : ℕ → ℕ
ring_of v = bit_xor (v % 2 ^ 21) (v / 2 ^ 21)

-- v modulo x^11 + x^2 + 1, for v of 32 bits: its product with x^21 + 1, of which the lowest 21 bits tell all
unfoldable pub cycle_of : ℕ → ℕ
cycle_of v = bit_xor v (repeat times_x 21 v) % 2 ^ 21

-- w times x^e is r times x^10: the window of r at exponent e
pub record IsWindow (r e w : ℕ) : Type 0 where
  pub small : w < 2 ^ 32
  pub is : repeat times_x e w ≡ repeat times_x 10 r
