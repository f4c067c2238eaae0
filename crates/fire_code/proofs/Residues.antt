-- A remainder by its residues modulo x^21 + 1 and x^11 + x^2 + 1.
use Rattle.std.proofs.Common.{◌≡◌, ℕ, zero, suc, ◌+◌, ◌*◌, ◌/◌, ◌%◌, ◌^◌, ◌<◌, refl, sym, ap, ap₂, ◌∙◌, arith}
use Rattle.std.specs.Int.{bit_at}
use lib.Bits.{bit_xor}
use Rattle.fire_code.specs.Remainder.{times_x, repeat}
use Rattle.fire_code.specs.Residue.{clock, clock_cycle, ring_of, cycle_of}
use Rattle.fire_code.proofs.Linear.{IsLinear, linear_after, linear_xor, linear_mod, linear_div, linear_shl, linear_id}
use Rattle.fire_code.proofs.Register.{clock-linear, repeat_add, repeat_mod, repeat_carried, bit_times-linear}
use Rattle.fire_code.proofs.Fold.{times_x-linear, times_x-lt, ring_of-linear, ring_of-times_x, same_by_test, clock_ring}
use Rattle.fire_code.proofs.Cycle.{cycle_round}
use Rattle.fire_code.proofs.Powers.{repeat_times_x-linear}

pub cycle_of-linear : IsLinear cycle_of
unfolding cycle_of
cycle_of-linear = linear_after (λ v. v % 2 ^ 21) (λ v. bit_xor v (repeat times_x 21 v)) (linear_mod 21) (linear_xor (λ v. v) (repeat times_x 21) linear_id (repeat_times_x-linear 21))

zero_linear : IsLinear (λ v. 0)
zero_linear a b = refl

cycle_of-high : (v : ℕ) → v < 2 ^ 32 → cycle_of v / 2 ^ 11 ≡ 0
unfolding cycle_of times_x repeat
cycle_of-high = same_by_test (λ v. cycle_of v / 2 ^ 11) (λ v. 0) (linear_after (λ v. v / 2 ^ 11) cycle_of (linear_div 11) cycle_of-linear) zero_linear 32 refl

pub cycle_of-times_x : (v : ℕ) → v < 2 ^ 32 → cycle_of (times_x v) ≡ clock_cycle (cycle_of v)
unfolding cycle_of times_x repeat clock
cycle_of-times_x =
    same_by_test (λ v. cycle_of (times_x v)) (λ v. clock_cycle (cycle_of v))
    (linear_after cycle_of times_x cycle_of-linear times_x-linear) (linear_after clock_cycle cycle_of (clock-linear 10 5) cycle_of-linear) 32 refl

pub cycle_of-small : (w : ℕ) → w < 2 ^ 11 → cycle_of w ≡ w
unfolding cycle_of times_x repeat
cycle_of-small = same_by_test cycle_of (λ w. w) cycle_of-linear linear_id 11 refl

-- the sum of the multiples of k that the bits of v name
unfoldable combined : ℕ → ℕ → ℕ → ℕ
combined zero k v = 0
combined (suc n) k v = bit_xor (bit_at v n * repeat times_x n k) (combined n k v)

combined-linear : (n k : ℕ) → IsLinear (combined n k)
unfolding combined
combined-linear zero k = zero_linear
combined-linear (suc n) k = linear_xor (λ v. bit_at v n * repeat times_x n k) (combined n k) (bit_times-linear n (repeat times_x n k)) (combined-linear n k)

-- a value from its two residues
abbrev rejoined : ℕ → ℕ
rejoined v = bit_xor (combined 21 0xBC0005E1 (ring_of v)) (combined 11 0xBC0005E0 (cycle_of v))

rejoined-is : (v : ℕ) → v < 2 ^ 32 → rejoined v ≡ v
unfolding combined cycle_of ring_of times_x repeat
rejoined-is =
    same_by_test rejoined (λ v. v)
    (linear_xor (λ v. combined 21 0xBC0005E1 (ring_of v)) (λ v. combined 11 0xBC0005E0 (cycle_of v))
    (linear_after (combined 21 0xBC0005E1) ring_of (combined-linear 21 0xBC0005E1) ring_of-linear)
    (linear_after (combined 11 0xBC0005E0) cycle_of (combined-linear 11 0xBC0005E0) cycle_of-linear))
    linear_id 32 refl

-- two values with the same residues are one
pub same_residues : (u v : ℕ) → u < 2 ^ 32 → v < 2 ^ 32 → ring_of u ≡ ring_of v → cycle_of u ≡ cycle_of v → u ≡ v
same_residues u v hu hv a b =
    sym (rejoined-is u hu) ∙ ap₂ (λ x y. bit_xor (combined 21 0xBC0005E1 x) (combined 11 0xBC0005E0 y)) a b ∙ rejoined-is v hv

pub cycle_of-lt : (v : ℕ) → v < 2 ^ 32 → cycle_of v < 2 ^ 11
cycle_of-lt v h = small (cycle_of v) (cycle_of-high v h)
  where
    small : (c : ℕ) → c / 2 ^ 11 ≡ 0 → c < 2 ^ 11
    small c e = omega arith

-- the residues of w times x^e
pub ring_of-repeat : (e w : ℕ) → w < 2 ^ 32 → ring_of (repeat times_x e w) ≡ repeat clock_ring e (ring_of w)
ring_of-repeat e w h = repeat_carried (λ z. z < 2 ^ 32) times_x clock_ring ring_of (λ v _. times_x-lt v) ring_of-times_x e w h

pub cycle_of-repeat : (e w : ℕ) → w < 2 ^ 32 → cycle_of (repeat times_x e w) ≡ repeat clock_cycle e (cycle_of w)
cycle_of-repeat e w h = repeat_carried (λ z. z < 2 ^ 32) times_x clock_cycle cycle_of (λ v _. times_x-lt v) cycle_of-times_x e w h

-- logarithms add up
pub by_logarithms : (e f a b w c : ℕ) → repeat clock_cycle a 1 ≡ w → repeat clock_cycle b 1 ≡ c → (e + a) % 2047 ≡ (f + b) % 2047 → repeat clock_cycle e w ≡ repeat clock_cycle f c
by_logarithms e f a b w c hw hc q =
    ap (repeat clock_cycle e) (sym hw)
    ∙ sym (repeat_add clock_cycle e a 1)
    ∙ repeat_mod clock_cycle 2047 1 cycle_round (e + a)
    ∙ ap (λ z. repeat clock_cycle z 1) q
    ∙ sym (repeat_mod clock_cycle 2047 1 cycle_round (f + b))
    ∙ repeat_add clock_cycle f b 1
    ∙ ap (repeat clock_cycle f) hc

-- a fold of the bits from x^11 on
abbrev pub fold : ℕ → ℕ
fold v = bit_xor (bit_xor (v % 2 ^ 11) (v / 2 ^ 11)) (v / 2 ^ 11 * 2 ^ 2 % 2 ^ 32)

fold-linear : IsLinear fold
fold-linear =
    linear_xor (λ v. bit_xor (v % 2 ^ 11) (v / 2 ^ 11)) (λ v. v / 2 ^ 11 * 2 ^ 2 % 2 ^ 32)
    (linear_xor (λ v. v % 2 ^ 11) (λ v. v / 2 ^ 11) (linear_mod 11) (linear_div 11))
    (linear_after (λ v. v % 2 ^ 32) (λ v. v / 2 ^ 11 * 2 ^ 2) (linear_mod 32) (linear_after (λ v. v * 2 ^ 2) (λ v. v / 2 ^ 11) (linear_shl 2) (linear_div 11)))

pub fold-cycle : (v : ℕ) → v < 2 ^ 32 → fold (fold (fold v)) ≡ cycle_of v
unfolding cycle_of times_x repeat
fold-cycle =
    same_by_test (λ v. fold (fold (fold v))) cycle_of
    (linear_after (λ v. fold (fold v)) fold (linear_after fold fold fold-linear fold-linear) fold-linear) cycle_of-linear 32 refl

-- ten clocks at once
abbrev pub ten_clocks : ℕ → ℕ
ten_clocks v = bit_xor (v * 2 ^ 10 % 2 ^ 32 % 2 ^ 21) (v / 2 ^ 11)

ten_clocks-linear : IsLinear ten_clocks
ten_clocks-linear =
    linear_xor (λ v. v * 2 ^ 10 % 2 ^ 32 % 2 ^ 21) (λ v. v / 2 ^ 11)
    (linear_after (λ v. v % 2 ^ 21) (λ v. v * 2 ^ 10 % 2 ^ 32) (linear_mod 21) (linear_after (λ v. v % 2 ^ 32) (λ v. v * 2 ^ 10) (linear_mod 32) (linear_shl 10)))
    (linear_div 11)

pub ring_of-ten : (v : ℕ) → v < 2 ^ 32 → ten_clocks (ring_of v) ≡ ring_of (repeat times_x 10 v)
unfolding ring_of times_x repeat
ring_of-ten =
    same_by_test (λ v. ten_clocks (ring_of v)) (λ v. ring_of (repeat times_x 10 v))
    (linear_after ten_clocks ring_of ten_clocks-linear ring_of-linear)
    (linear_after ring_of (repeat times_x 10) ring_of-linear (repeat_times_x-linear 10)) 32 refl
