-- Polynomials over two elements, as numbers: bit e is the coefficient of x^e.
use Rattle.std.specs.Prelude.{ℕ, ◌-◌, ◌*◌, ◌%◌, ◌^◌, List, [], ◌∷◌, bit_xor}
use Rattle.std.specs.Int.{bit_at}
use Rattle.std.proofs.Common.{zero, suc}

-- x * v modulo the generator x^32 + x^23 + x^21 + x^11 + x^2 + 1
unfoldable pub times_x : ℕ → ℕ
times_x v = bit_xor (v * 2 % 2 ^ 32) (bit_at v 31 * 0x00A00805)

-- f, e times
unfoldable pub repeat : (ℕ → ℕ) → ℕ → ℕ → ℕ
repeat f zero v = v
repeat f (suc e) v = f (repeat f e v)

-- the remainder of x^e modulo the generator
unfoldable pub power : ℕ → ℕ
power zero = 1
power (suc e) = times_x (power e)

-- the remainder of a set of places: place k stands for x^(4127-k)
unfoldable pub remainder : List ℕ → ℕ
remainder [] = 0
remainder (k ∷ ks) = bit_xor (power (4127 - k)) (remainder ks)
