-- The cycle of x modulo x^11 + x^2 + 1.
use Rattle.std.proofs.Common.{◌≡◌, ℕ, zero, suc, ◌+◌, ◌-◌, ◌%◌, ◌^◌, ◌<◌, Bool, true, not, ◌&&◌, eqb, refl, sym, ap, ◌∙◌, arith, ◌⊎◌, inl, inr, bit_or, max}
use Rattle.std.specs.Int.{bit_at}
use Rattle.std.proofs.lemmas.Nat.{mod_below}
use Rattle.std.proofs.lemmas.Bool.{cases_eq, and_parts, not-true, eq-eqb, both_ways}
use Rattle.std.proofs.lemmas.Nat.Bits.{bit_at_or, bit_at-zero, bit_at-pow_other, bit_at_mask_inside}
use Rattle.std.proofs.Math.Nat.{zero-max}
use Rattle.fire_code.specs.Residue.{clock, clock_cycle}
use Rattle.fire_code.specs.Remainder.{repeat}
use Rattle.fire_code.proofs.Register.{repeat_add, repeat_comm, repeat_mod}

-- the numbers that n steps of f reach from v, as the bits of one number
unfoldable visited : (ℕ → ℕ) → ℕ → ℕ → ℕ
visited f zero v = 0
visited f (suc n) v = bit_or (2 ^ v) (visited f n (f v))

-- no step of n from v is at 1
unfoldable apart : (ℕ → ℕ) → ℕ → ℕ → Bool
apart f zero v = true
apart f (suc n) v = not (eqb v 1) && apart f n (f v)

all_visited : visited clock_cycle 2047 1 ≡ 2 ^ 2048 - 2 ^ 1
unfolding visited clock
all_visited = refl

all_apart : apart clock_cycle 2046 (clock_cycle 1) ≡ true
unfolding apart clock
all_apart = refl

pub cycle_round : repeat clock_cycle 2047 1 ≡ 1
unfolding repeat clock
cycle_round = refl

visited_tells : (f : ℕ → ℕ) (n v b : ℕ) → bit_at (visited f n v) b ≡ 1 → (i : ℕ) × (i < n) × (repeat f i v ≡ b)
unfolding visited repeat
visited_tells f zero v b h = let e : 0 ≡ 1 = sym (bit_at-zero b) ∙ h in absurd (omega (arith, e))
visited_tells f (suc n) v b h = at (cases_eq b v) (visited_tells f n (f v) b)
  where
    later : (b ≡ v → ⊥) → bit_at (visited f n (f v)) b ≡ 1
    later ne =
        sym (ap (λ z. max z (bit_at (visited f n (f v)) b)) (bit_at-pow_other v b ne) ∙ zero-max (bit_at (visited f n (f v)) b))
        ∙ sym (bit_at_or (2 ^ v) (visited f n (f v)) b) ∙ h

    at : (b ≡ v) ⊎ (b ≡ v → ⊥) → (bit_at (visited f n (f v)) b ≡ 1 → (i : ℕ) × (i < n) × (repeat f i (f v) ≡ b)) → (i : ℕ) × (i < suc n) × (repeat f i v ≡ b)
    at (inl e) ih = (0, omega arith, sym e)
    at (inr ne) ih = let (i, lt, e) = ih (later ne) in (suc i, omega arith, repeat_comm f 1 i v ∙ e)

-- each number of 11 bits but 0 is a power of x
pub each_reached : (w : ℕ) → 0 < w → w < 2 ^ 11 → (i : ℕ) × (i < 2047) × (repeat clock_cycle i 1 ≡ w)
each_reached w pos h = visited_tells clock_cycle 2047 1 w (ap (λ z. bit_at z w) all_visited ∙ bit_at_mask_inside 1 2048 w pos h)

apart_tells : (f : ℕ → ℕ) (n v i : ℕ) → apart f n v ≡ true → i < n → repeat f i v ≡ 1 → ⊥
unfolding apart repeat
apart_tells f zero v i t h q = omega arith
apart_tells f (suc n) v zero t h q = both_ways (eqb v 1) (not-true (eqb v 1) (and_parts (not (eqb v 1)) (apart f n (f v)) t).0) (eq-eqb v 1 q)
apart_tells f (suc n) v (suc i) t h q =
    apart_tells f n (f v) i (and_parts (not (eqb v 1)) (apart f n (f v)) t).1 (omega arith) (sym (repeat_comm f 1 i v) ∙ q)

-- the order of x is 2047
order_divides : (d : ℕ) → repeat clock_cycle d 1 ≡ 1 → d % 2047 ≡ 0
unfolding repeat
order_divides d q = at (d % 2047) (mod_below d 2047 (omega arith)) (sym (repeat_mod clock_cycle 2047 1 cycle_round d) ∙ q)
  where
    at : (k : ℕ) → k < 2047 → repeat clock_cycle k 1 ≡ 1 → k ≡ 0
    at zero h e = refl
    at (suc k) h e = absurd (apart_tells clock_cycle 2046 (clock_cycle 1) k all_apart (omega arith) (sym (repeat_comm clock_cycle 1 k 1) ∙ e))

-- a number of 11 bits but 0 comes back only after a multiple of 2047 steps
pub comes_back : (d w : ℕ) → 0 < w → w < 2 ^ 11 → repeat clock_cycle d w ≡ w → d % 2047 ≡ 0
comes_back d w pos h q = let (i, lt, e) = each_reached w pos h in order_divides d (round i lt e)
  where
    once : (i : ℕ) → i < 2047 → repeat clock_cycle (2047 - i) (repeat clock_cycle i 1) ≡ 1
    once i lt = sym (repeat_add clock_cycle (2047 - i) i 1) ∙ ap (λ z. repeat clock_cycle z 1) (whole i lt) ∙ cycle_round
      where
        whole : (i : ℕ) → i < 2047 → 2047 - i + i ≡ 2047
        whole i lt = omega arith

    round : (i : ℕ) → i < 2047 → repeat clock_cycle i 1 ≡ w → repeat clock_cycle d 1 ≡ 1
    round i lt e =
        ap (repeat clock_cycle d) (sym (once i lt) ∙ ap (repeat clock_cycle (2047 - i)) e)
        ∙ repeat_comm clock_cycle d (2047 - i) w
        ∙ ap (repeat clock_cycle (2047 - i)) (q ∙ sym e)
        ∙ once i lt
