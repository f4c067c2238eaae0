-- Windows of 11 in a cycle of 21.
use Rattle.std.proofs.Common.{◌≡◌, ℕ, zero, suc, ◌+◌, ◌-◌, ◌*◌, ◌^◌, ◌<◌, ◌≤◌, refl, sym, ap, ap₂, ◌∙◌, arith, ◌⊎◌, inl, inr, pow-suc, mul_assoc, mod-eq_of_lt, lt_of_lt_of_le, pow_mono}
use Rattle.std.proofs.lemmas.Nat.{shl_below, mul-le}
use Rattle.std.proofs.lemmas.Bool.{cases_lt}
use Rattle.std.proofs.lemmas.Nat.Bits.{bit_at_above}
use lib.Bits.{bit_xor, xor_zero_r}
use Rattle.fire_code.specs.Residue.{clock}
use Rattle.fire_code.specs.Remainder.{repeat}
use Rattle.fire_code.proofs.Linear.{linear_id}
use Rattle.fire_code.proofs.Register.{clock-linear, repeat_linear, repeat_add}
use Rattle.fire_code.proofs.Fold.{same_by_test, clock_ring}

-- a step that lets no bit fall out doubles
pub clock-small : (m back v : ℕ) → v < 2 ^ m → clock m back v ≡ v * 2
unfolding clock
clock-small m back v h =
    ap₂ bit_xor (mod-eq_of_lt (omega (arith, pow-suc 2 m, h))) (ap (λ z. z * back) (bit_at_above v m m h (omega arith)) ∙ zero_mul back)
    ∙ xor_zero_r (v * 2)
  where
    zero_mul : (n : ℕ) → 0 * n ≡ 0
    zero_mul n = omega arith

-- c * 2 ^ k has not reached the top after k more steps
pub repeat-small : (m back c a : ℕ) → c < 2 ^ a → (k : ℕ) → a + k ≤ suc m → repeat (clock m back) k c ≡ c * 2 ^ k
unfolding repeat
repeat-small m back c a h zero fits = omega arith
repeat-small m back c a h (suc k) fits =
    ap (clock m back) (repeat-small m back c a h k (omega arith))
    ∙ clock-small m back (c * 2 ^ k) (lt_of_lt_of_le (shl_below c a k h) (pow_mono {i = a + k} {j = m} (omega arith)))
    ∙ mul_assoc c (2 ^ k) 2 ∙ ap (λ z. c * z) (sym (pow-suc 2 k))

-- 21 steps go once round
pub ring_round : (v : ℕ) → v < 2 ^ 21 → repeat clock_ring 21 v ≡ v
unfolding clock repeat
ring_round = same_by_test (repeat clock_ring 21) (λ v. v) (repeat_linear clock_ring (clock-linear 20 1) 21) linear_id 21 refl

-- a window of 11 that ends in its top bit is carried to another one by no clock of 1 to 20
window_stays_low : (b c k : ℕ) → b < 2 ^ 11 → 2 ^ 10 ≤ c → c < 2 ^ 11 → k < 11 → repeat clock_ring k c ≡ b → k ≡ 0
window_stays_low b c zero hb tc hc hk q = refl
window_stays_low b c (suc k) hb tc hc hk q =
    absurd (omega (arith, sym (repeat-small 20 1 c 11 hc (suc k) (omega arith)) ∙ q, mul-le (2 ^ 10) 2 c (2 ^ suc k) tc (pow_mono {i = 1} {j = suc k} (omega arith))))

pub window_stays : (b c k : ℕ) → 2 ^ 10 ≤ b → b < 2 ^ 11 → 2 ^ 10 ≤ c → c < 2 ^ 11 → k < 21 → repeat clock_ring k c ≡ b → k ≡ 0
window_stays b c k tb hb tc hc hk q = at (cases_lt k 11)
  where
    back : 11 ≤ k → 21 - k ≡ 0
    back h = window_stays_low c b (21 - k) hc tb hb (omega arith)
        (ap (repeat clock_ring (21 - k)) (sym q) ∙ sym (repeat_add clock_ring (21 - k) k c)
        ∙ ap (λ z. repeat clock_ring z c) (whole h) ∙ ring_round c (lt_of_lt_of_le hc (pow_mono {i = 11} {j = 21} (omega arith))))
      where
        whole : 11 ≤ k → 21 - k + k ≡ 21
        whole p = omega arith

    at : (k < 11) ⊎ (11 ≤ k) → k ≡ 0
    at (inl h) = window_stays_low b c k hb tc hc h q
    at (inr h) = omega (arith, back h)
