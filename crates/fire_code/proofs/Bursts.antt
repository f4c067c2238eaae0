-- Short bursts as lists of places, and the burst law for them.
use Rattle.std.proofs.Common.{◌≡◌, ℕ, zero, suc, ◌+◌, ◌-◌, ◌*◌, ◌/◌, ◌%◌, ◌^◌, ◌<◌, ◌≤◌, ◌≢◌, List, [], ◌∷◌, get_or, refl, sym, ap, ap₂, ◌∙◌, arith, ◌⊎◌, inl, inr, eqb, true, pow-suc}
use Rattle.std.proofs.lemmas.Bool.{agree_below, agree_below_at, eqb-true}
use Rattle.std.proofs.lemmas.Nat.{mod_below}
use lib.Bits.{bit_xor, xor_shifted}
use Rattle.fire_code.specs.Remainder.{times_x, power, remainder, repeat}
use Rattle.fire_code.specs.Burst.{IsShortBurst, places_of, reversed}
use Rattle.fire_code.proofs.Linear.{linear_at_zero}
use Rattle.fire_code.proofs.Powers.{repeat_bit, repeat_times_x-linear, raised, raised-is}
use Rattle.fire_code.proofs.Rising.{Rising, IsShortBurst-near, IsPlaces-rising, places_of-odd, places_of-even, parity, pattern_of, pattern_of-lt, pattern_of-odd, places_of-pattern_of, places_of-zero}
use Rattle.fire_code.proofs.Shifted.{shifted_unique, shifted_not_zero}

pub reversed-lt : (n q : ℕ) → reversed n q < 2 ^ n
unfolding reversed
reversed-lt zero q = omega arith
reversed-lt (suc n) q = bound (q % 2) (reversed n (q / 2)) (mod_below q 2 (omega arith)) (reversed-lt n (q / 2)) (parity q)
  where
    bound : (x r : ℕ) → x < 2 → r < 2 ^ n → (x ≡ 1) ⊎ (x ≡ 0) → x * 2 ^ n + r < 2 ^ suc n
    bound x r hx hr (inl e) = rw e (omega (arith, pow-suc 2 n))
    bound x r hx hr (inr e) = rw e (omega (arith, pow-suc 2 n))

reversed-odd : (n q : ℕ) → q % 2 ≡ 1 → reversed (suc n) q ≡ bit_xor (1 * 2 ^ n) (reversed n (q / 2))
unfolding reversed
reversed-odd n q o = ap (λ z. z * 2 ^ n + reversed n (q / 2)) o ∙ sym (xor_shifted 1 n (reversed n (q / 2)) (reversed-lt n (q / 2)))

reversed-even : (n q : ℕ) → q % 2 ≡ 0 → reversed (suc n) q ≡ reversed n (q / 2)
unfolding reversed
reversed-even n q o = ap (λ z. z * 2 ^ n + reversed n (q / 2)) o ∙ drop (2 ^ n) (reversed n (q / 2))
  where
    drop : (a b : ℕ) → 0 * a + b ≡ b
    drop a b = omega arith

raised-nil : raised [] ≡ 0
unfolding raised
raised-nil = refl

raised-cons : (k : ℕ) (ks : List ℕ) → raised (k ∷ ks) ≡ bit_xor (power (4137 - k)) (raised ks)
unfolding raised
raised-cons k ks = refl

reversed-zero : (q : ℕ) → reversed zero q ≡ 0
unfolding reversed
reversed-zero q = refl

next_place : (n first q : ℕ) → n ≤ 10 → suc n + first ≤ 4138 → raised (places_of n (first + 1) (q / 2)) ≡ repeat times_x (4138 - (n + (first + 1))) (reversed n (q / 2)) → (q % 2 ≡ 1) ⊎ (q % 2 ≡ 0)
    → raised (places_of (suc n) first q) ≡ repeat times_x (4138 - (suc n + first)) (reversed (suc n) q)
next_place n first q small fits rest (inl o) =
    ap raised (places_of-odd n first q o) ∙ raised-cons first (places_of n (first + 1) (q / 2))
    ∙ ap₂ bit_xor
    (sym (ap (repeat times_x (4138 - (suc n + first))) (one_times (2 ^ n)) ∙ repeat_bit (4138 - (suc n + first)) n (omega arith) ∙ ap power (moved n first fits)))
    (rest ∙ ap (λ z. repeat times_x (4138 - z) (reversed n (q / 2))) (shifted n first))
    ∙ sym (repeat_times_x-linear (4138 - (suc n + first)) (1 * 2 ^ n) (reversed n (q / 2)))
    ∙ ap (repeat times_x (4138 - (suc n + first))) (sym (reversed-odd n q o))
  where
    one_times : (a : ℕ) → 1 * a ≡ a
    one_times a = omega arith

    moved : (n first : ℕ) → suc n + first ≤ 4138 → 4138 - (suc n + first) + n ≡ 4137 - first
    moved n first fits = omega arith

    shifted : (n first : ℕ) → n + (first + 1) ≡ suc n + first
    shifted n first = omega arith
next_place n first q small fits rest (inr o) =
    ap raised (places_of-even n first q o) ∙ rest ∙ ap (λ z. repeat times_x (4138 - z) (reversed n (q / 2))) (shifted n first)
    ∙ ap (repeat times_x (4138 - (suc n + first))) (sym (reversed-even n q o))
  where
    shifted : (n first : ℕ) → n + (first + 1) ≡ suc n + first
    shifted n first = omega arith

-- a pattern's places, raised, are the reversed pattern times a power of x
pub raised-places_of : (n first q : ℕ) → n ≤ 11 → n + first ≤ 4138 → raised (places_of n first q) ≡ repeat times_x (4138 - (n + first)) (reversed n q)
raised-places_of zero first q small fits =
    ap raised (places_of-zero first q) ∙ raised-nil ∙ sym (linear_at_zero (repeat times_x (4138 - (0 + first))) (repeat_times_x-linear (4138 - (0 + first))))
    ∙ ap (repeat times_x (4138 - (0 + first))) (sym (reversed-zero q))
raised-places_of (suc n) first q small fits =
    next_place n first q (omega arith) fits (raised-places_of n (first + 1) (q / 2) (omega arith) (omega arith)) (parity q)

-- ---- reversal of 11 bits, by a test of each number
pub by_test : (f g : ℕ → ℕ) (n : ℕ) → agree_below (λ v. eqb (f v) (g v)) (λ _. true) n ≡ true → (v : ℕ) → v < n → f v ≡ g v
by_test f g n t v h = eqb-true (f v) (g v) (agree_below_at (λ i. eqb (f i) (g i)) (λ _. true) n v t h)

pub reversed_twice : (v : ℕ) → v < 2 ^ 11 → reversed 11 (reversed 11 v) ≡ v
unfolding reversed
reversed_twice = by_test (λ v. reversed 11 (reversed 11 v)) (λ v. v) 2048 refl

reversed_top : (v : ℕ) → v < 2 ^ 11 → reversed 11 v / 2 ^ 10 ≡ v % 2
unfolding reversed
reversed_top = by_test (λ v. reversed 11 v / 2 ^ 10) (λ v. v % 2) 2048 refl

pub reversed_low : (v : ℕ) → v < 2 ^ 11 → reversed 11 v % 2 ≡ v / 2 ^ 10
unfolding reversed
reversed_low = by_test (λ v. reversed 11 v % 2) (λ v. v / 2 ^ 10) 2048 refl

pub reversed_11 : (q : ℕ) → q < 2 ^ 11 → q % 2 ≡ 1 → 2 ^ 10 ≤ reversed 11 q
reversed_11 q h o = top (reversed 11 q) (reversed_top q h ∙ o)
  where
    top : (r : ℕ) → r / 2 ^ 10 ≡ 1 → 2 ^ 10 ≤ r
    top r e = omega arith

-- ---- a short burst has a first place and a pattern
pub record HasPattern (ks : List ℕ) : Type 0 where
  pub first : ℕ
  pub pattern : ℕ
  pub odd : pattern % 2 ≡ 1
  pub small : pattern < 2 ^ 11
  pub within : first < 4128
  pub fits : pattern < 2 ^ (4128 - first)
  pub is_first : first ≡ get_or ks 0 0
  pub is : ks ≡ places_of 11 first pattern

pub pattern_from : (ks : List ℕ) → IsShortBurst ks → HasPattern ks
pattern_from [] h = absurd (omega (arith, h.not_empty))
pattern_from (k ∷ ks) h = record {
  first = k;
  pattern = pattern_of 11 k (k ∷ ks);
  odd = pattern_of-odd 10 k ks;
  small = pattern_of-lt 11 11 k (k + 11) (k ∷ ks) near (omega arith);
  within = place;
  fits = pattern_of-lt 11 (4128 - k) k 4128 (k ∷ ks) far (omega arith);
  is_first = refl;
  is = sym (places_of-pattern_of 11 k (k + 11) (k ∷ ks) near (omega arith));
}
  where
    near : Rising k (k + 11) (k ∷ ks)
    near = IsShortBurst-near k ks h

    far : Rising k 4128 (k ∷ ks)
    far = IsPlaces-rising k ks h.set

    place : k < 4128
    place = far.1

-- its remainder, raised
pub raised_burst : (ks : List ℕ) → IsShortBurst ks → (h : HasPattern ks) → repeat times_x 10 (remainder ks) ≡ repeat times_x (4138 - (11 + h.first)) (reversed 11 h.pattern)
raised_burst ks b h = raised-is ks b.set.in_word ∙ ap raised h.is ∙ raised-places_of 11 h.first h.pattern (omega arith) (omega (arith, h.within))

-- the burst law: short bursts with one remainder are one
pub same_burst : (ks ls : List ℕ) → IsShortBurst ks → IsShortBurst ls → remainder ks ≡ remainder ls → ks ≡ ls
same_burst ks ls b c q = joined (pattern_from ks b) (pattern_from ls c)
  where
    joined : HasPattern ks → HasPattern ls → ks ≡ ls
    joined h l = g.is ∙ ap₂ (places_of 11) firsts patterns ∙ sym l.is
      where
        g : HasPattern ks
        g = h

        both : (4138 - (11 + h.first) ≡ 4138 - (11 + l.first)) × (reversed 11 h.pattern ≡ reversed 11 l.pattern)
        both = shifted_unique (4138 - (11 + h.first)) (4138 - (11 + l.first)) (reversed 11 h.pattern) (reversed 11 l.pattern) (omega arith) (omega arith)
            (reversed-lt 11 h.pattern) (reversed-lt 11 l.pattern) (reversed_11 h.pattern h.small h.odd) (reversed_11 l.pattern l.small l.odd)
            (sym (raised_burst ks b h) ∙ ap (repeat times_x 10) q ∙ raised_burst ls c l)

        firsts : h.first ≡ l.first
        firsts = omega (arith, both.0, h.within, l.within)

        patterns : h.pattern ≡ l.pattern
        patterns = sym (reversed_twice h.pattern h.small) ∙ ap (reversed 11) both.1 ∙ reversed_twice l.pattern l.small

-- the burst law: no short burst has remainder zero
pub burst_not_zero : (ks : List ℕ) → IsShortBurst ks → remainder ks ≢ 0
burst_not_zero ks b q =
    let h : HasPattern ks = pattern_from ks b in
    shifted_not_zero (4138 - (11 + h.first)) (reversed 11 h.pattern) (reversed-lt 11 h.pattern) (reversed_11 h.pattern h.small h.odd)
    (sym (raised_burst ks b h) ∙ ap (repeat times_x 10) q ∙ linear_at_zero (repeat times_x 10) (repeat_times_x-linear 10))
