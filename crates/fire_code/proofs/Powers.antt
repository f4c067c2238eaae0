-- Powers of x and the register.
use Rattle.std.proofs.Common.{◌≡◌, ℕ, zero, suc, ◌+◌, ◌-◌, ◌^◌, ◌<◌, List, [], ◌∷◌, refl, sym, ap, ap₂, ◌∙◌, arith, one-mul, All}
use lib.Bits.{bit_xor, xor_lt}
use Rattle.std.proofs.lemmas.List.Elements.{All-head, All-tail}
use Rattle.fire_code.specs.Remainder.{times_x, power, remainder, repeat}
use Rattle.fire_code.specs.Residue.{clock}
use Rattle.fire_code.proofs.Linear.{IsLinear, linear_at_zero}
use Rattle.fire_code.proofs.Register.{repeat_add, repeat_linear}
use Rattle.fire_code.proofs.Fold.{times_x-lt, times_x-linear}
use Rattle.fire_code.proofs.Window.{repeat-small}

pub power-is : (e : ℕ) → power e ≡ repeat times_x e 1
unfolding power repeat
power-is zero = refl
power-is (suc e) = ap times_x (power-is e)

pub power-lt : (e : ℕ) → power e < 2 ^ 32
unfolding power
power-lt zero = omega arith
power-lt (suc e) = times_x-lt (power e)

-- below x^32 a power is a bit
pub power_low : (j : ℕ) → j < 32 → power j ≡ 2 ^ j
unfolding times_x clock
power_low j h = power-is j ∙ repeat-small 31 0x00A00805 1 1 (omega arith) j (omega arith) ∙ one-mul (2 ^ j)

pub repeat_power : (d e : ℕ) → repeat times_x d (power e) ≡ power (d + e)
repeat_power d e = ap (repeat times_x d) (power-is e) ∙ sym (repeat_add times_x d e 1) ∙ sym (power-is (d + e))

pub repeat_bit : (d j : ℕ) → j < 32 → repeat times_x d (2 ^ j) ≡ power (d + j)
repeat_bit d j h = ap (repeat times_x d) (sym (power_low j h)) ∙ repeat_power d j

pub repeat_times_x-linear : (d : ℕ) → IsLinear (repeat times_x d)
repeat_times_x-linear d = repeat_linear times_x times_x-linear d

pub remainder-lt : (ks : List ℕ) → remainder ks < 2 ^ 32
unfolding remainder
remainder-lt [] = omega arith
remainder-lt (k ∷ ks) = xor_lt 32 (power (4127 - k)) (remainder ks) (power-lt (4127 - k)) (remainder-lt ks)

-- the remainder times x^10, place by place
unfoldable pub raised : List ℕ → ℕ
raised [] = 0
raised (k ∷ ks) = bit_xor (power (4137 - k)) (raised ks)

pub raised-is : (ks : List ℕ) → All (λ k. k < 4128) ks → repeat times_x 10 (remainder ks) ≡ raised ks
unfolding remainder raised
raised-is [] h = linear_at_zero (repeat times_x 10) (repeat_times_x-linear 10)
raised-is (k ∷ ks) h =
    repeat_times_x-linear 10 (power (4127 - k)) (remainder ks)
    ∙ ap₂ bit_xor (repeat_power 10 (4127 - k) ∙ ap power (moved k (All-head (λ j. j < 4128) k ks h))) (raised-is ks (All-tail (λ j. j < 4128) k ks h))
  where
    moved : (k : ℕ) → k < 4128 → 10 + (4127 - k) ≡ 4137 - k
    moved k h = omega arith
