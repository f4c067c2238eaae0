-- The search for a burst by residues.
use Rattle.std.proofs.Common.{◌≡◌, ℕ, ◌+◌, ◌-◌, ◌*◌, ◌/◌, ◌%◌, ◌^◌, ◌<◌, ◌≤◌, ◌≢◌, List, get_or, refl, sym, ap, ◌∙◌, subst, arith, ◌⊎◌, inl, inr}
use Rattle.std.specs.Int.{bit_at}
use Rattle.std.proofs.lemmas.Bool.{cases_eq}
use Rattle.std.proofs.lemmas.Nat.{mod_below}
use lib.Bits.{bit_xor, xor_shifted, xor_comm, xor_lt}
use Rattle.fire_code.specs.Remainder.{times_x, remainder, repeat}
use Rattle.fire_code.specs.Burst.{IsShortBurst, IsUncorrectable, reversed}
use Rattle.fire_code.specs.Residue.{clock, clock_cycle, ring_of, IsWindow, cycle_of}
use Rattle.fire_code.proofs.Linear.{linear_at_zero, linear_after, linear_xor, linear_div, linear_id}
use Rattle.fire_code.proofs.Register.{clock-linear, repeat_add, repeat_mod, repeat_linear, bit_times-linear}
use Rattle.fire_code.proofs.Fold.{same_by_test, repeat_times_x-lt, clock_ring}
use Rattle.fire_code.proofs.Window.{ring_round}
use Rattle.fire_code.proofs.Shifted.{shifted_unique, ring_of-small}
use Rattle.fire_code.proofs.Bursts.{HasPattern, pattern_from, raised_burst, reversed-lt, reversed_11, reversed_twice}
use Rattle.fire_code.proofs.Residues.{cycle_of-small, same_residues, ring_of-repeat, cycle_of-repeat, by_logarithms}

-- one clock back of a ring of 21 bits
clock_back : ℕ → ℕ
clock_back v = bit_xor (v / 2 ^ 1) (bit_at v 0 * 2 ^ 20)

clocked_back : (v : ℕ) → v < 2 ^ 21 → clock_ring (clock_back v) ≡ v
unfolding clock_back clock
clocked_back =
    same_by_test (λ v. clock_ring (clock_back v)) (λ v. v)
    (linear_after clock_ring clock_back (clock-linear 20 1) (linear_xor (λ v. v / 2 ^ 1) (λ v. bit_at v 0 * 2 ^ 20) (linear_div 1) (bit_times-linear 0 (2 ^ 20)))) linear_id 21 refl

clock_back-is : (v : ℕ) → v < 2 ^ 21 → v / 2 + v % 2 * 2 ^ 20 ≡ clock_back v
unfolding clock_back
clock_back-is v h = swapped (v / 2) (v % 2 * 2 ^ 20) ∙ sym (xor_shifted (v % 2) 20 (v / 2) (omega arith)) ∙ xor_comm (v % 2 * 2 ^ 20) (v / 2) ∙ ap (λ z. bit_xor (v / 2) (z % 2 * 2 ^ 20)) (whole v)
  where
    swapped : (a b : ℕ) → a + b ≡ b + a
    swapped a b = omega arith

    whole : (v : ℕ) → v ≡ v / 2 ^ 0
    whole v = omega arith

clock_back-lt : (v : ℕ) → v < 2 ^ 21 → v / 2 + v % 2 * 2 ^ 20 < 2 ^ 21
clock_back-lt v h = omega arith

-- clocking a ring of 21 bits is one to one
clock-inj : (t u v : ℕ) → t ≤ 21 → u < 2 ^ 21 → v < 2 ^ 21 → repeat clock_ring t u ≡ repeat clock_ring t v → u ≡ v
clock-inj t u v h hu hv q = sym (round u hu) ∙ ap (repeat clock_ring (21 - t)) q ∙ round v hv
  where
    whole : (t : ℕ) → t ≤ 21 → 21 - t + t ≡ 21
    whole t h = omega arith

    round : (w : ℕ) → w < 2 ^ 21 → repeat clock_ring (21 - t) (repeat clock_ring t w) ≡ w
    round w hw = sym (repeat_add clock_ring (21 - t) t w) ∙ ap (λ z. repeat clock_ring z w) (whole t h) ∙ ring_round w hw

-- the state of the search after t clocks back
pub record IsClocked (r t w : ℕ) : Type 0 where
  pub small : w < 2 ^ 21
  pub is : repeat clock_ring t w ≡ ring_of (repeat times_x 10 r)
  pub none : (ks : List ℕ) → IsShortBurst ks → remainder ks ≡ r → t ≤ (4127 - get_or ks 0 0) % 21

ring_of-lt : (v : ℕ) → v < 2 ^ 32 → ring_of v < 2 ^ 21
unfolding ring_of
ring_of-lt v h = xor_lt 21 (v % 2 ^ 21) (v / 2 ^ 21) (mod_below v (2 ^ 21) (omega arith)) (omega arith)

pub clocked_start : (r w : ℕ) → r < 2 ^ 32 → w ≡ ring_of (repeat times_x 10 r) → IsClocked r 0 w
unfolding repeat
clocked_start r w h e = record {
  small = subst (λ z. z < 2 ^ 21) (sym e) (ring_of-lt (repeat times_x 10 r) (repeat_times_x-lt 10 r h));
  is = e;
  none = λ ks b q. omega arith;
}

-- a burst's reversed pattern is the window after as many clocks as its exponent has modulo 21
burst_window : (r : ℕ) → (ks : List ℕ) → IsShortBurst ks → remainder ks ≡ r → (k : HasPattern ks) → repeat clock_ring ((4127 - get_or ks 0 0) % 21) (reversed 11 k.pattern) ≡ ring_of (repeat times_x 10 r)
burst_window r ks b q k =
    sym (repeat_mod clock_ring 21 (reversed 11 k.pattern) (ring_round (reversed 11 k.pattern) (wide (reversed 11 k.pattern) (reversed-lt 11 k.pattern))) (4127 - get_or ks 0 0))
    ∙ ap (repeat clock_ring (4127 - get_or ks 0 0)) (sym (ring_of-small (reversed 11 k.pattern) (wide (reversed 11 k.pattern) (reversed-lt 11 k.pattern))))
    ∙ sym (ring_of-repeat (4127 - get_or ks 0 0) (reversed 11 k.pattern) (wider (reversed 11 k.pattern) (reversed-lt 11 k.pattern)))
    ∙ ap ring_of (ap (λ z. repeat times_x z (reversed 11 k.pattern)) (exponent k.first (get_or ks 0 0) k.is_first k.within) ∙ sym (raised_burst ks b k) ∙ ap (repeat times_x 10) q)
  where
    wide : (n : ℕ) → n < 2 ^ 11 → n < 2 ^ 21
    wide n l = omega arith

    wider : (n : ℕ) → n < 2 ^ 11 → n < 2 ^ 32
    wider n l = omega arith

    exponent : (f g : ℕ) → f ≡ g → f < 4128 → 4127 - g ≡ 4138 - (11 + f)
    exponent f g p l = omega arith

pub clocked_next : (r t w : ℕ) → t < 21 → IsClocked r t w → (2 ^ 10 ≤ w → w < 2 ^ 11 → ⊥) → IsClocked r (t + 1) (w / 2 + w % 2 * 2 ^ 20)
unfolding repeat
clocked_next r t w ht h fails = record {
  small = clock_back-lt w h.small;
  is = repeat_add clock_ring t 1 (w / 2 + w % 2 * 2 ^ 20) ∙ ap (repeat clock_ring t) (ap clock_ring (clock_back-is w h.small) ∙ clocked_back w h.small) ∙ h.is;
  none = λ ks b q. more ks b q (cases_eq ((4127 - get_or ks 0 0) % 21) t);
}
  where
    more : (ks : List ℕ) → IsShortBurst ks → remainder ks ≡ r → ((4127 - get_or ks 0 0) % 21 ≡ t) ⊎ ((4127 - get_or ks 0 0) % 21 ≡ t → ⊥) → t + 1 ≤ (4127 - get_or ks 0 0) % 21
    more ks b q (inl eq) =
        let k : HasPattern ks = pattern_from ks b in
        let same : w ≡ reversed 11 k.pattern = clock-inj t w (reversed 11 k.pattern) (omega arith) h.small (wide (reversed 11 k.pattern) (reversed-lt 11 k.pattern))
        (h.is ∙ sym (burst_window r ks b q k) ∙ ap (λ z. repeat clock_ring z (reversed 11 k.pattern)) eq) in
        absurd (fails (subst (λ z. 2 ^ 10 ≤ z) (sym same) (reversed_11 k.pattern k.small k.odd)) (subst (λ z. z < 2 ^ 11) (sym same) (reversed-lt 11 k.pattern)))
      where
        wide : (n : ℕ) → n < 2 ^ 11 → n < 2 ^ 21
        wide n l = omega arith
    more ks b q (inr ne) = let l : t ≤ (4127 - get_or ks 0 0) % 21 = h.none ks b q in omega arith

pub clocked_none : (r w : ℕ) → r ≢ 0 → IsClocked r 21 w → IsUncorrectable r
clocked_none r w wrong h = record {
  wrong = wrong;
  no_burst = λ ks b q. let l : 21 ≤ (4127 - get_or ks 0 0) % 21 = h.none ks b q in omega arith;
}

-- with both residues the window is that of the search by places
pub clocked_found : (r t w e m a b : ℕ) → r < 2 ^ 32 → IsClocked r t w → w < 2 ^ 11 → e % 21 ≡ t → e % 2047 ≡ m
    → m ≡ (b + 10 + 2047 - a) % 2047 → a < 2047 → repeat clock_cycle a 1 ≡ w → repeat clock_cycle b 1 ≡ cycle_of r → IsWindow r e w
clocked_found r t w e m a b hr h small et em is la ea eb = record { small = wider w small; is = same }
  where
    wider : (n : ℕ) → n < 2 ^ 11 → n < 2 ^ 32
    wider n l = omega arith

    windows : ring_of (repeat times_x e w) ≡ ring_of (repeat times_x 10 r)
    windows =
        ring_of-repeat e w (wider w small)
        ∙ ap (repeat clock_ring e) (ring_of-small w h.small)
        ∙ repeat_mod clock_ring 21 w (ring_round w h.small) e
        ∙ ap (λ z. repeat clock_ring z w) et
        ∙ h.is

    sums : (x a b k : ℕ) → x % 2047 ≡ k → k ≡ (b + 10 + 2047 - a) % 2047 → a < 2047 → (x + a) % 2047 ≡ (10 + b) % 2047
    sums x a b k p q la = omega arith

    cycles : cycle_of (repeat times_x e w) ≡ cycle_of (repeat times_x 10 r)
    cycles =
        cycle_of-repeat e w (wider w small)
        ∙ ap (repeat clock_cycle e) (cycle_of-small w small)
        ∙ by_logarithms e 10 a b w (cycle_of r) ea eb (sums e a b m em is la)
        ∙ sym (cycle_of-repeat 10 r hr)

    same : repeat times_x e w ≡ repeat times_x 10 r
    same = same_residues (repeat times_x e w) (repeat times_x 10 r) (repeat_times_x-lt e w (wider w small)) (repeat_times_x-lt 10 r hr) windows cycles

cycle_whole : (w : ℕ) → w < 2 ^ 11 → repeat clock_cycle 2047 w ≡ w
unfolding repeat clock
cycle_whole = same_by_test (repeat clock_cycle 2047) (λ w. w) (repeat_linear clock_cycle (clock-linear 10 5) 2047) linear_id 11 refl

cycle_not_zero : (s w : ℕ) → w < 2 ^ 11 → repeat clock_cycle s w ≡ 0 → w ≡ 0
cycle_not_zero s w h q =
    sym (cycle_whole w h) ∙ ap (λ z. repeat clock_cycle z w) (sym (whole (s % 2047) (mod_below s 2047 (omega arith))))
    ∙ repeat_add clock_cycle (2047 - s % 2047) (s % 2047) w
    ∙ ap (repeat clock_cycle (2047 - s % 2047)) (sym (repeat_mod clock_cycle 2047 w (cycle_whole w h) s) ∙ q)
    ∙ linear_at_zero (repeat clock_cycle (2047 - s % 2047)) (repeat_linear clock_cycle (clock-linear 10 5) (2047 - s % 2047))
  where
    whole : (k : ℕ) → k < 2047 → 2047 - k + k ≡ 2047
    whole k h = omega arith

-- a burst's cycle is not 0
pub cycle_zero : (r : ℕ) → r < 2 ^ 32 → r ≢ 0 → cycle_of r ≡ 0 → IsUncorrectable r
cycle_zero r hr wrong z = record { wrong = wrong; no_burst = λ ks b q. at ks b q (pattern_from ks b) }
  where
    at : (ks : List ℕ) → IsShortBurst ks → remainder ks ≡ r → HasPattern ks → ⊥
    at ks b q k = top (reversed 11 k.pattern) (reversed_11 k.pattern k.small k.odd)
        (cycle_not_zero (4138 - (11 + k.first)) (reversed 11 k.pattern) (reversed-lt 11 k.pattern)
        (ap (repeat clock_cycle (4138 - (11 + k.first))) (sym (cycle_of-small (reversed 11 k.pattern) (reversed-lt 11 k.pattern)))
        ∙ sym (cycle_of-repeat (4138 - (11 + k.first)) (reversed 11 k.pattern) (wider (reversed 11 k.pattern) (reversed-lt 11 k.pattern)))
        ∙ ap cycle_of (sym (raised_burst ks b k) ∙ ap (repeat times_x 10) q)
        ∙ cycle_of-repeat 10 r hr ∙ ap (repeat clock_cycle 10) z
        ∙ linear_at_zero (repeat clock_cycle 10) (repeat_linear clock_cycle (clock-linear 10 5) 10)))
      where
        wider : (n : ℕ) → n < 2 ^ 11 → n < 2 ^ 32
        wider n l = omega arith

        top : (n : ℕ) → 2 ^ 10 ≤ n → n ≡ 0 → ⊥
        top n l p = omega arith

-- where a window is found, a burst can only be that one
pub only_burst : (r e w : ℕ) → e < 42987 → 2 ^ 10 ≤ w → w < 2 ^ 11 → IsWindow r e w → (ks : List ℕ) → IsShortBurst ks → remainder ks ≡ r → (k : HasPattern ks) → (k.first + e ≡ 4127) × (reversed 11 w ≡ k.pattern)
only_burst r e w he top small h ks b q k = (omega (arith, both.0, k.within), ap (reversed 11) both.1 ∙ reversed_twice k.pattern k.small)
  where
    both : (e ≡ 4138 - (11 + k.first)) × (w ≡ reversed 11 k.pattern)
    both = shifted_unique e (4138 - (11 + k.first)) w (reversed 11 k.pattern) he (omega arith) small (reversed-lt 11 k.pattern) top (reversed_11 k.pattern k.small k.odd)
        (h.is ∙ ap (repeat times_x 10) (sym q) ∙ raised_burst ks b k)

pub too_early : (r e w : ℕ) → r ≢ 0 → e < 42987 → 4127 < e → 2 ^ 10 ≤ w → w < 2 ^ 11 → IsWindow r e w → IsUncorrectable r
too_early r e w wrong he early top small h = record {
  wrong = wrong;
  no_burst = λ ks b q. let p : (k : HasPattern ks) × Unit {0} = (pattern_from ks b, tt) in absurd (omega (arith, (only_burst r e w he top small h ks b q (pattern_from ks b)).0));
}

pub no_room : (r e w : ℕ) → r ≢ 0 → e < 4128 → 2 ^ 10 ≤ w → w < 2 ^ 11 → IsWindow r e w → (reversed 11 w < 2 ^ (4128 - (4127 - e)) → ⊥) → IsUncorrectable r
no_room r e w wrong he top small h fails = record {
  wrong = wrong;
  no_burst = λ ks b q. at ks b q (pattern_from ks b);
}
  where
    at : (ks : List ℕ) → IsShortBurst ks → remainder ks ≡ r → HasPattern ks → ⊥
    at ks b q k =
        fails (subst (λ z. z < 2 ^ (4128 - (4127 - e))) (sym both.1) (subst (λ z. k.pattern < 2 ^ (4128 - z)) place k.fits))
      where
        both : (k.first + e ≡ 4127) × (reversed 11 w ≡ k.pattern)
        both = only_burst r e w (omega arith) top small h ks b q k

        place : k.first ≡ 4127 - e
        place = omega (arith, both.0)
