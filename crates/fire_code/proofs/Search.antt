-- The search for a burst: at each exponent of its first place, one window.
use Rattle.std.proofs.Common.{◌≡◌, ℕ, ◌+◌, ◌-◌, ◌/◌, ◌%◌, ◌^◌, ◌<◌, ◌≤◌, List, length, get_or, sym, ap, ap₂, ◌∙◌, subst, arith, ◌⊎◌, inl, inr}
use Rattle.std.proofs.lemmas.Bool.{cases_eq}
use Rattle.fire_code.specs.Residue.{IsWindow}
use Rattle.fire_code.specs.Remainder.{times_x, remainder, repeat}
use Rattle.fire_code.specs.Burst.{IsShortBurst, IsBurst, places_of, reversed}
use Rattle.fire_code.proofs.Register.{repeat_add}
use Rattle.fire_code.proofs.Fold.{repeat_times_x-inj, repeat_times_x-lt}
use Rattle.fire_code.proofs.Powers.{raised-is, remainder-lt}
use Rattle.fire_code.proofs.Rising.{Rising, IsShortBurst-from, places_of-odd, places_of-Rising}
use Rattle.fire_code.proofs.Bursts.{reversed-lt, reversed_twice, reversed_low, reversed_11, raised-places_of, raised_burst, HasPattern, pattern_from}

pub window_start : (r w : ℕ) → r < 2 ^ 32 → w ≡ repeat times_x 10 r → IsWindow r 0 w
unfolding repeat
window_start r w h q = record { small = subst (λ z. z < 2 ^ 32) (sym q) (repeat_times_x-lt 10 r h); is = q }

pub window_next : (r e w next : ℕ) → next < 2 ^ 32 → times_x next ≡ w → IsWindow r e w → IsWindow r (e + 1) next
unfolding repeat
window_next r e w next small q h = record { small = small; is = repeat_add times_x e 1 next ∙ ap (repeat times_x e) q ∙ h.is }

-- a window that passes the test is a burst
pub window_found : (r e w : ℕ) → r < 2 ^ 32 → e < 4128 → IsWindow r e w → 2 ^ 10 ≤ w → w < 2 ^ 11 → reversed 11 w < 2 ^ (4128 - (4127 - e)) → IsBurst (4127 - e + 1) (reversed 11 w) r
window_found r e w hr he h top small fits = record {
  counted = omega arith;
  odd = odd;
  small = reversed-lt 11 w;
  burst = subst (λ z. IsShortBurst (places_of 11 z q)) (back p) burst;
  is = subst (λ z. remainder (places_of 11 z q) ≡ r) (back p) is;
}
  where
    p : ℕ
    p = 4127 - e

    q : ℕ
    q = reversed 11 w

    back : (n : ℕ) → n ≡ n + 1 - 1
    back n = omega arith

    odd : reversed 11 w % 2 ≡ 1
    odd = one w (reversed 11 w) top small (reversed_low w small)
      where
        one : (w v : ℕ) → 2 ^ 10 ≤ w → w < 2 ^ 11 → v % 2 ≡ w / 2 ^ 10 → v % 2 ≡ 1
        one w v a b c = omega arith

    far : Rising (4127 - e) 4128 (places_of 11 (4127 - e) (reversed 11 w))
    far = places_of-Rising 11 (4128 - (4127 - e)) (4127 - e) 4128 (reversed 11 w) fits (omega arith)

    not_empty : 0 < length (places_of 11 (4127 - e) (reversed 11 w))
    not_empty = rw (places_of-odd 10 (4127 - e) (reversed 11 w) odd) (omega arith)

    burst : IsShortBurst (places_of 11 (4127 - e) (reversed 11 w))
    burst = IsShortBurst-from (4127 - e) (places_of 11 (4127 - e) (reversed 11 w)) not_empty
        (places_of-Rising 11 11 (4127 - e) (4127 - e + 11) (reversed 11 w) (reversed-lt 11 w) (omega arith)) far

    is : remainder (places_of 11 (4127 - e) (reversed 11 w)) ≡ r
    is = repeat_times_x-inj 10 (remainder (places_of 11 (4127 - e) (reversed 11 w))) r (remainder-lt (places_of 11 (4127 - e) (reversed 11 w))) hr
        (raised-is (places_of 11 (4127 - e) (reversed 11 w)) burst.set.in_word
        ∙ raised-places_of 11 (4127 - e) (reversed 11 w) (omega arith) (omega arith)
        ∙ ap₂ (repeat times_x) (exponent e he) (reversed_twice w small) ∙ h.is)
      where
        exponent : (e : ℕ) → e < 4128 → 4138 - (11 + (4127 - e)) ≡ e
        exponent e he = omega arith

-- what the search has left: each short burst of the remainder begins before the places seen
abbrev pub NoneBefore : ℕ → ℕ → Type 0
NoneBefore r e = (ks : List ℕ) → IsShortBurst ks → remainder ks ≡ r → get_or ks 0 0 + e < 4128

pub none_at_start : (r : ℕ) → NoneBefore r 0
none_at_start r ks b q = let h : HasPattern ks = pattern_from ks b in omega (arith, h.within, h.is_first)

-- a window that fails the test is the first place of no burst
pub none_next : (r e w : ℕ) → e < 4128 → IsWindow r e w → (2 ^ 10 ≤ w → w < 2 ^ 11 → reversed 11 w < 2 ^ (4128 - (4127 - e)) → ⊥) → NoneBefore r e → NoneBefore r (e + 1)
none_next r e w he h fails before ks b q = at (cases_eq (get_or ks 0 0 + e) 4127)
  where
    found : HasPattern ks → get_or ks 0 0 + e ≡ 4127 → ⊥
    found k eq = fails (subst (λ z. 2 ^ 10 ≤ z) (sym same) (reversed_11 k.pattern k.small k.odd)) (subst (λ z. z < 2 ^ 11) (sym same) (reversed-lt 11 k.pattern))
        (subst (λ z. z < 2 ^ (4128 - (4127 - e))) (sym mirrored) (subst (λ z. k.pattern < 2 ^ (4128 - z)) (place (get_or ks 0 0) eq k.first k.is_first) k.fits))
      where
        place : (g : ℕ) → g + e ≡ 4127 → (f : ℕ) → f ≡ g → f ≡ 4127 - e
        place g p f i = omega arith

        exponent : (g : ℕ) → g + e ≡ 4127 → (f : ℕ) → f ≡ g → 4138 - (11 + f) ≡ e
        exponent g p f i = omega arith

        same : w ≡ reversed 11 k.pattern
        same = repeat_times_x-inj e w (reversed 11 k.pattern) h.small (wide (reversed 11 k.pattern) (reversed-lt 11 k.pattern))
            (h.is ∙ ap (repeat times_x 10) (sym q) ∙ raised_burst ks b k ∙ ap (λ z. repeat times_x z (reversed 11 k.pattern)) (exponent (get_or ks 0 0) eq k.first k.is_first))
          where
            wide : (n : ℕ) → n < 2 ^ 11 → n < 2 ^ 32
            wide n l = omega arith

        mirrored : reversed 11 w ≡ k.pattern
        mirrored = ap (reversed 11) same ∙ reversed_twice k.pattern k.small

    at : (get_or ks 0 0 + e ≡ 4127) ⊎ (get_or ks 0 0 + e ≡ 4127 → ⊥) → get_or ks 0 0 + (e + 1) < 4128
    at (inl eq) = absurd (found (pattern_from ks b) eq)
    at (inr ne) = let l : get_or ks 0 0 + e < 4128 = before ks b q in omega arith
