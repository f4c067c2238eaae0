-- the burst law on numbers: a number of just 11 bits, times x^s, is known by its remainder.
use Rattle.std.proofs.Common.{◌≡◌, ℕ, zero, suc, ◌+◌, ◌-◌, ◌*◌, ◌/◌, ◌%◌, ◌^◌, ◌<◌, ◌≤◌, sym, ap, ap₂, ◌∙◌, arith, ◌⊎◌, inl, inr, mod-eq_of_lt}
use Rattle.std.proofs.lemmas.Nat.{mod_below}
use Rattle.std.proofs.lemmas.Bool.{cases_lt}
use lib.Bits.{bit_xor, xor_mod, xor_zero_r}
use Rattle.fire_code.specs.Remainder.{times_x, repeat}
use Rattle.fire_code.specs.Residue.{clock, clock_cycle, ring_of}
use Rattle.fire_code.proofs.Linear.{linear_at_zero}
use Rattle.fire_code.proofs.Register.{repeat_add, repeat_comm, repeat_mod, repeat_linear, repeat_carried}
use Rattle.fire_code.proofs.Fold.{times_x-lt, times_x-linear, ring_of-times_x, doubled, doubled-times_x, clock-lt, repeat_times_x-inj, repeat_times_x-lt, clock_ring}
use Rattle.fire_code.proofs.Window.{ring_round, window_stays, repeat-small}
use Rattle.fire_code.proofs.Cycle.{comes_back}

pub ring_of-small : (c : ℕ) → c < 2 ^ 21 → ring_of c ≡ c
unfolding ring_of
ring_of-small c h = ap₂ bit_xor (mod-eq_of_lt h) (high c h) ∙ xor_zero_r c
  where
    high : (n : ℕ) → n < 2 ^ 21 → n / 2 ^ 21 ≡ 0
    high n p = omega arith

doubled-low : (w : ℕ) → w < 2 ^ 11 → doubled w % 2 ^ 21 ≡ w
unfolding doubled
doubled-low w h = xor_mod w (w * 2 ^ 21) 21 ∙ ap₂ bit_xor (mod-eq_of_lt (omega (arith, h))) (high w) ∙ xor_zero_r w
  where
    high : (n : ℕ) → n * 2 ^ 21 % 2 ^ 21 ≡ 0
    high n = omega arith

doubled-inj : (u w : ℕ) → u < 2 ^ 11 → w < 2 ^ 11 → doubled u ≡ doubled w → u ≡ w
doubled-inj u w hu hw q = sym (doubled-low u hu) ∙ ap (λ z. z % 2 ^ 21) q ∙ doubled-low w hw

-- a number of 11 bits and that number times x^21, both at once
doubled-is : (w : ℕ) → w < 2 ^ 11 → doubled w ≡ bit_xor w (repeat times_x 21 w)
unfolding doubled times_x clock
doubled-is w h = ap (bit_xor w) (sym (repeat-small 31 0x00A00805 w 11 h 21 (omega arith)))

pub repeat_cycle-lt : (d w : ℕ) → w < 2 ^ 11 → repeat clock_cycle d w < 2 ^ 11
unfolding repeat
repeat_cycle-lt zero w h = h
repeat_cycle-lt (suc d) w h = clock-lt 10 5 (repeat clock_cycle d w) (omega arith)

-- what comes back modulo the generator comes back modulo x^11 + x^2 + 1
pub back_in_cycle : (d b : ℕ) → b < 2 ^ 11 → repeat times_x d b ≡ b → repeat clock_cycle d b ≡ b
back_in_cycle d b hb q = doubled-inj (repeat clock_cycle d b) b (repeat_cycle-lt d b hb) hb (carried ∙ stays)
  where
    carried : doubled (repeat clock_cycle d b) ≡ repeat times_x d (doubled b)
    carried = repeat_carried (λ z. z < 2 ^ 11) clock_cycle times_x doubled (λ v _. clock-lt 10 5 v (omega arith)) doubled-times_x d b hb

    stays : repeat times_x d (doubled b) ≡ doubled b
    stays =
        ap (repeat times_x d) (doubled-is b hb)
        ∙ repeat_linear times_x times_x-linear d b (repeat times_x 21 b)
        ∙ ap₂ bit_xor q (repeat_comm times_x d 21 b ∙ ap (repeat times_x 21) q)
        ∙ sym (doubled-is b hb)

pub in_window : (d b c : ℕ) → b < 2 ^ 11 → c < 2 ^ 11 → repeat times_x d c ≡ b → repeat clock_ring d c ≡ b
in_window d b c hb hc q =
    ap (repeat clock_ring d) (sym (ring_of-small c (wide c hc)))
    ∙ sym (repeat_carried (λ z. z < 2 ^ 32) times_x clock_ring ring_of (λ v _. times_x-lt v) ring_of-times_x d c (wider c hc))
    ∙ ap ring_of q ∙ ring_of-small b (wide b hb)
  where
    wide : (n : ℕ) → n < 2 ^ 11 → n < 2 ^ 21
    wide n h = omega arith

    wider : (n : ℕ) → n < 2 ^ 11 → n < 2 ^ 32
    wider n h = omega arith

pub both_periods : (d : ℕ) → d < 42987 → d % 21 ≡ 0 → d % 2047 ≡ 0 → d ≡ 0
both_periods d h p q = omega arith

-- x^d times a number of just 11 bits is one only where d is 0
pub same_start : (d b c : ℕ) → d < 42987 → b < 2 ^ 11 → c < 2 ^ 11 → 2 ^ 10 ≤ b → 2 ^ 10 ≤ c → repeat times_x d c ≡ b → (d ≡ 0) × (c ≡ b)
unfolding repeat
same_start d b c hd hb hc tb tc q = (both_periods d hd clocked (comes_back d b (top_pos b tb) hb (back_in_cycle d b hb same_back)), same)
  where
    top_pos : (n : ℕ) → 2 ^ 10 ≤ n → 0 < n
    top_pos n o = omega arith

    reduced : repeat clock_ring (d % 21) c ≡ b
    reduced = sym (repeat_mod clock_ring 21 c (ring_round c (omega (arith, hc))) d) ∙ in_window d b c hb hc q

    clocked : d % 21 ≡ 0
    clocked = window_stays b c (d % 21) tb hb tc hc (mod_below d 21 (omega arith)) reduced

    same : c ≡ b
    same = sym (ap (λ z. repeat clock_ring z c) clocked) ∙ reduced

    same_back : repeat times_x d b ≡ b
    same_back = ap (repeat times_x d) (sym same) ∙ q

-- no number of just 11 bits has remainder zero
pub shifted_not_zero : (s b : ℕ) → b < 2 ^ 11 → 2 ^ 10 ≤ b → repeat times_x s b ≡ 0 → ⊥
shifted_not_zero s b hb tb q = zero_top b tb (repeat_times_x-inj s b 0 (omega (arith, hb)) (omega arith) (q ∙ sym (linear_at_zero (repeat times_x s) (repeat_linear times_x times_x-linear s))))
  where
    zero_top : (n : ℕ) → 2 ^ 10 ≤ n → n ≡ 0 → ⊥
    zero_top n o e = omega arith

after : (s t b c : ℕ) → s ≤ t → t < 42987 → b < 2 ^ 11 → c < 2 ^ 11 → 2 ^ 10 ≤ b → 2 ^ 10 ≤ c → repeat times_x s b ≡ repeat times_x t c → (s ≡ t) × (b ≡ c)
after s t b c le ht hb hc tb tc q = let (d, e) = same_start (t - s) b c (omega arith) hb hc tb tc (sym apart) in (omega arith, sym e)
  where
    whole : (s t : ℕ) → s ≤ t → s + (t - s) ≡ t
    whole s t le = omega arith

    cut : repeat times_x t c ≡ repeat times_x s (repeat times_x (t - s) c)
    cut = ap (λ z. repeat times_x z c) (sym (whole s t le)) ∙ repeat_add times_x s (t - s) c

    apart : b ≡ repeat times_x (t - s) c
    apart = repeat_times_x-inj s b (repeat times_x (t - s) c) (omega (arith, hb)) (repeat_times_x-lt (t - s) c (omega (arith, hc))) (q ∙ cut)

-- the burst law
pub shifted_unique : (s t b c : ℕ) → s < 42987 → t < 42987 → b < 2 ^ 11 → c < 2 ^ 11 → 2 ^ 10 ≤ b → 2 ^ 10 ≤ c → repeat times_x s b ≡ repeat times_x t c → (s ≡ t) × (b ≡ c)
shifted_unique s t b c hs ht hb hc tb tc q = at (cases_lt s t)
  where
    at : (s < t) ⊎ (t ≤ s) → (s ≡ t) × (b ≡ c)
    at (inl h) = after s t b c (omega arith) ht hb hc tb tc q
    at (inr h) = let (e, f) = after t s c b h hs hc hb tc tb (sym q) in (sym e, sym f)
