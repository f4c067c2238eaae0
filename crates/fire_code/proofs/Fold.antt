-- The register modulo the generator beside those modulo x^21 + 1 and x^11 + x^2 + 1.
use Rattle.std.proofs.Common.{◌≡◌, ℕ, zero, suc, ◌*◌, ◌/◌, ◌%◌, ◌^◌, ◌<◌, true, eqb, refl, sym, ap, ◌∙◌, arith, ◌⊎◌, inl, inr}
use Rattle.std.specs.Int.{bit_at}
use Rattle.std.proofs.lemmas.Nat.{mod_below, pow_pos}
use Rattle.std.proofs.lemmas.Bool.{agree_below, agree_below_at, eqb-true}
use lib.Bits.{bit_xor, xor_lt}
use Rattle.fire_code.specs.Remainder.{times_x, repeat}
use Rattle.fire_code.specs.Residue.{clock, clock_cycle, ring_of}
use Rattle.fire_code.proofs.Linear.{IsLinear, linear_after, linear_xor, linear_mod, linear_div, linear_shl, linear_id, same_linear, bit_cases}
use Rattle.fire_code.proofs.Register.{clock-linear, repeat_keeps, bit_times-linear}

-- x * v modulo x^21 + 1: a ring of 21 bits, clocked once
abbrev pub clock_ring : ℕ → ℕ
clock_ring = clock 20 1

-- two linear maps that a computed test finds equal at the powers of two
pub same_by_test : (f g : ℕ → ℕ) → IsLinear f → IsLinear g → (n : ℕ) → agree_below (λ j. eqb (f (2 ^ j)) (g (2 ^ j))) (λ _. true) n ≡ true → (v : ℕ) → v < 2 ^ n → f v ≡ g v
same_by_test f g lf lg n t =
    same_linear f g lf lg n (λ j h. eqb-true (f (2 ^ j)) (g (2 ^ j)) (agree_below_at (λ i. eqb (f (2 ^ i)) (g (2 ^ i))) (λ _. true) n j t h))

pub times_x-linear : IsLinear times_x
unfolding times_x clock
times_x-linear = clock-linear 31 0x00A00805

-- a register's value stays within its places
pub clock-lt : (m back v : ℕ) → back < 2 ^ suc m → clock m back v < 2 ^ suc m
unfolding clock
clock-lt m back v h =
    xor_lt (suc m) (v * 2 % 2 ^ suc m) (bit_at v m * back) (mod_below (v * 2) (2 ^ suc m) (pow_pos (suc m)))
    (times (bit_at v m) (bit_cases (bit_at v m) (mod_below (v / 2 ^ m) 2 (omega arith))))
  where
    times : (x : ℕ) → (x ≡ 0) ⊎ (x ≡ 1) → x * back < 2 ^ suc m
    times x (inl e) = rw e (omega (arith, pow_pos (suc m)))
    times x (inr e) = rw e (omega (arith, h))

pub times_x-lt : (v : ℕ) → times_x v < 2 ^ 32
unfolding times_x clock
times_x-lt v = clock-lt 31 0x00A00805 v (omega arith)

pub ring_of-linear : IsLinear ring_of
unfolding ring_of
ring_of-linear = linear_xor (λ v. v % 2 ^ 21) (λ v. v / 2 ^ 21) (linear_mod 21) (linear_div 21)

pub ring_of-times_x : (v : ℕ) → v < 2 ^ 32 → ring_of (times_x v) ≡ clock_ring (ring_of v)
unfolding ring_of times_x clock
ring_of-times_x =
    same_by_test (λ v. ring_of (times_x v)) (λ v. clock_ring (ring_of v))
    (linear_after ring_of times_x ring_of-linear times_x-linear)
    (linear_after clock_ring ring_of (clock-linear 20 1) ring_of-linear) 32 refl

-- a number of 11 bits times x^21 + 1: where x acts as it does modulo x^11 + x^2 + 1
unfoldable pub doubled : ℕ → ℕ
doubled w = bit_xor w (w * 2 ^ 21)

doubled-linear : IsLinear doubled
unfolding doubled
doubled-linear = linear_xor (λ v. v) (λ v. v * 2 ^ 21) linear_id (linear_shl 21)

pub doubled-times_x : (w : ℕ) → w < 2 ^ 11 → doubled (clock_cycle w) ≡ times_x (doubled w)
unfolding doubled times_x clock
doubled-times_x =
    same_by_test (λ w. doubled (clock_cycle w)) (λ w. times_x (doubled w))
    (linear_after doubled clock_cycle doubled-linear (clock-linear 10 5))
    (linear_after times_x doubled times_x-linear doubled-linear) 11 refl

-- division by x: a step back of the register
unfoldable pub over_x : ℕ → ℕ
over_x v = bit_xor (v / 2 ^ 1) (bit_at v 0 * 0x80500402)

pub over_x-linear : IsLinear over_x
unfolding over_x
over_x-linear = linear_xor (λ v. v / 2 ^ 1) (λ v. bit_at v 0 * 0x80500402) (linear_div 1) (bit_times-linear 0 0x80500402)

pub over_x-times_x : (v : ℕ) → v < 2 ^ 32 → over_x (times_x v) ≡ v
unfolding over_x times_x
over_x-times_x = same_by_test (λ v. over_x (times_x v)) (λ v. v) (linear_after over_x times_x over_x-linear times_x-linear) linear_id 32 refl

pub times_x-over_x : (v : ℕ) → v < 2 ^ 32 → times_x (over_x v) ≡ v
unfolding over_x times_x
times_x-over_x = same_by_test (λ v. times_x (over_x v)) (λ v. v) (linear_after times_x over_x times_x-linear over_x-linear) linear_id 32 refl

pub repeat_times_x-lt : (e v : ℕ) → v < 2 ^ 32 → repeat times_x e v < 2 ^ 32
repeat_times_x-lt e v h = repeat_keeps (λ z. z < 2 ^ 32) times_x (λ z _. times_x-lt z) e v h

-- times x^e is one to one
pub repeat_times_x-inj : (e u v : ℕ) → u < 2 ^ 32 → v < 2 ^ 32 → repeat times_x e u ≡ repeat times_x e v → u ≡ v
unfolding repeat
repeat_times_x-inj zero u v hu hv q = q
repeat_times_x-inj (suc e) u v hu hv q =
    repeat_times_x-inj e u v hu hv
    (sym (over_x-times_x (repeat times_x e u) (below u hu)) ∙ ap over_x q ∙ over_x-times_x (repeat times_x e v) (below v hv))
  where
    below : (w : ℕ) → w < 2 ^ 32 → repeat times_x e w < 2 ^ 32
    below w h = repeat_keeps (λ z. z < 2 ^ 32) times_x (λ z _. times_x-lt z) e w h
