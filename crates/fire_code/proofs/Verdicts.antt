-- Each remainder has a verdict: the search of all places and patterns finds it.
use Rattle.std.proofs.Common.{◌≡◌, ℕ, zero, suc, ◌+◌, ◌-◌, ◌%◌, ◌^◌, ◌<◌, ◌≤◌, ◌⊎◌, inl, inr, Bool, true, false, List, [], ◌∷◌, length, refl, sym, ap, ◌∙◌, subst, arith, All, eqb, ltb, ◌&&◌, Option, Some, None}
use Rattle.std.specs.List.{list_all}
use Rattle.std.specs.Prelude.{if◌then◌else◌}
use Rattle.std.specs.Prelude.{unwrap_or}
use Rattle.std.proofs.lemmas.Bool.{and_parts, and_from, cases_lt, cond_both, cond-true, both_ways, ltb-true, lt-ltb, eqb-true, eq-eqb}
use Rattle.std.proofs.lemmas.Option.{none-some, cond_some}
use Rattle.std.proofs.lemmas.List.Elements.{All-head, All-tail, All-cons, All-nil}
use Rattle.fire_code.specs.Remainder.{remainder}
use Rattle.fire_code.specs.Burst.{IsShortBurst, IsBurst, places_of}
use Rattle.fire_code.specs.Verdict.{Judges, is_burst, or_else, found_below, verdict_of}
use Rattle.fire_code.specs.declared.Verdict.{Verdict}
use Rattle.fire_code.specs.declared.Verdict.TheVariants.{Clean, Burst, Uncorrectable}
use Rattle.fire_code.proofs.Rising.{Rising, IsShortBurst-from, places_of-Rising, places_of-odd}
use Rattle.fire_code.proofs.Bursts.{HasPattern, pattern_from}

-- A TEST OF ALL PLACES.
pub all_pass : (test : ℕ → Bool) (P : ℕ → Type 0) → ((k : ℕ) → test k ≡ true → P k) → (ks : List ℕ) → list_all test ks ≡ true → All P ks
all_pass test P means [] h = All-nil P
all_pass test P means (k ∷ ks) h =
    let parts = and_parts (test k) (list_all test ks) h in
    All-cons P k ks (means k parts.0) (all_pass test P means ks parts.1)

pub pass_all : (test : ℕ → Bool) (P : ℕ → Type 0) → ((k : ℕ) → P k → test k ≡ true) → (ks : List ℕ) → All P ks → list_all test ks ≡ true
pass_all test P means [] h = refl
pass_all test P means (k ∷ ks) h = and_from (test k) (list_all test ks) (means k (All-head P k ks h)) (pass_all test P means ks (All-tail P k ks h))

-- WHAT IS FOUND BELOW n is found at a number below n, and where nothing is found there is nothing.
record FoundAt (n : ℕ) (at : ℕ → Option Verdict) (v : Verdict) : Type 0 where
  number : ℕ
  below : number < n
  is : at number ≡ Some v

found_at : (n : ℕ) (at : ℕ → Option Verdict) (v : Verdict) → found_below n at ≡ Some v → FoundAt n at v
unfolding found_below
found_at zero at v h = absurd (none-some v h)
found_at (suc n) at v h = by (at n) refl h (λ later. found_at n at v later)
  where
    by : (here : Option Verdict) → at n ≡ here → or_else here (found_below n at) ≡ Some v → (found_below n at ≡ Some v → FoundAt n at v) → FoundAt (suc n) at v
    by (Some first) is h rest = record { number = n; below = omega arith; is = is ∙ h }
    by None is h rest = let p : FoundAt n at v = rest h in record { number = p.number; below = omega (arith, p.below); is = p.is }

none_below : (n : ℕ) (at : ℕ → Option Verdict) (k : ℕ) → found_below n at ≡ None → k < n → at k ≡ None
unfolding found_below
none_below zero at k h lt = absurd (omega arith)
none_below (suc n) at k h lt = by (at n) refl h (cases_lt k n) (λ later less. none_below n at k later less)
  where
    by : (here : Option Verdict) → at n ≡ here → or_else here (found_below n at) ≡ None → (k < n) ⊎ (n ≤ k) → (found_below n at ≡ None → k < n → at k ≡ None) → at k ≡ None
    by (Some first) is h cases rest = absurd (none-some first (sym h))
    by None is h (inl less) rest = rest h less
    by None is h (inr top) rest = let here : n ≡ k = omega arith in subst (λ (i : ℕ). at i ≡ None) here is

-- A PATTERN that is written from a place on is a short burst of the word with this remainder.
narrowed : (lo hi top : ℕ) (ks : List ℕ) → Rising lo hi ks → All (λ k. k < top) ks → Rising lo top ks
narrowed lo hi top [] rises below = tt
narrowed lo hi top (k ∷ ks) (a, b, c) below = (a, All-head (λ k. k < top) k ks below, narrowed (suc k) hi top ks c (All-tail (λ k. k < top) k ks below))

burst_is : (r first pattern : ℕ) → pattern < 2 ^ 11 → is_burst r first pattern ≡ true → IsBurst (first + 1) pattern r
unfolding is_burst
burst_is r first pattern small h =
    let outer = and_parts (eqb (pattern % 2) 1) (list_all (λ k. ltb k 4128) (places_of 11 first pattern) && eqb (remainder (places_of 11 first pattern)) r) h in
    let inner = and_parts (list_all (λ k. ltb k 4128) (places_of 11 first pattern)) (eqb (remainder (places_of 11 first pattern)) r) outer.1 in
    let odd : pattern % 2 ≡ 1 = eqb-true (pattern % 2) 1 outer.0 in
    let some : 0 < length (places_of 11 first pattern) = rw (places_of-odd 10 first pattern odd) (omega arith) in
    let near : Rising first (first + 11) (places_of 11 first pattern) = places_of-Rising 11 11 first (first + 11) pattern (omega arith) (omega arith) in
    let in_word : All (λ k. k < 4128) (places_of 11 first pattern) =
    all_pass (λ k. ltb k 4128) (λ k. k < 4128) (λ k t. ltb-true k 4128 t) (places_of 11 first pattern) inner.0 in
    let at : first ≡ (first + 1) - 1 = omega arith in
    record {
      counted = omega arith;
      odd = odd;
      small = small;
      burst = subst (λ (n : ℕ). IsShortBurst (places_of 11 n pattern)) at
          (IsShortBurst-from first (places_of 11 first pattern) some near (narrowed first (first + 11) 4128 (places_of 11 first pattern) near in_word));
      is = subst (λ (n : ℕ). remainder (places_of 11 n pattern) ≡ r) at (eqb-true (remainder (places_of 11 first pattern)) r inner.1);
    }

is_burst-from : (r : ℕ) (places : List ℕ) → IsShortBurst places → remainder places ≡ r → (h : HasPattern places) → is_burst r h.first h.pattern ≡ true
unfolding is_burst
is_burst-from r places short e h =
    and_from (eqb (h.pattern % 2) 1) (list_all (λ k. ltb k 4128) (places_of 11 h.first h.pattern) && eqb (remainder (places_of 11 h.first h.pattern)) r)
    (eq-eqb (h.pattern % 2) 1 h.odd)
    (and_from (list_all (λ k. ltb k 4128) (places_of 11 h.first h.pattern)) (eqb (remainder (places_of 11 h.first h.pattern)) r)
    (subst (λ (ks : List ℕ). list_all (λ k. ltb k 4128) ks ≡ true) h.is (pass_all (λ k. ltb k 4128) (λ k. k < 4128) (λ k l. lt-ltb k 4128 l) places short.set.in_word))
    (eq-eqb (remainder (places_of 11 h.first h.pattern)) r (sym (ap remainder h.is) ∙ e)))

-- THE SEARCH over so many first places and so many patterns
abbrev pattern_told : (r first pattern : ℕ) → Option Verdict
pattern_told r first pattern = if is_burst r first pattern then Some (Burst (first + 1) pattern) else None

abbrev burst_found : (m n r : ℕ) → Option Verdict
burst_found m n r = found_below m (λ first. found_below n (λ pattern. pattern_told r first pattern))

burst_judges : (m n r : ℕ) (v : Verdict) → n ≤ 2 ^ 11 → burst_found m n r ≡ Some v → Judges v r
burst_judges m n r v few h =
    let place : FoundAt m (λ first. found_below n (λ pattern. pattern_told r first pattern)) v =
    found_at m (λ first. found_below n (λ pattern. pattern_told r first pattern)) v h in
    let pattern : FoundAt n (λ pattern. pattern_told r place.number pattern) v = found_at n (λ pattern. pattern_told r place.number pattern) v place.is in
    let told = cond_some (is_burst r place.number pattern.number) (Burst (place.number + 1) pattern.number) v pattern.is in
    subst (λ (w : Verdict). Judges w r) told.1 (burst_is r place.number pattern.number (within pattern.number n pattern.below few) told.0)
  where
    within : (a n : ℕ) → a < n → n ≤ 2 ^ 11 → a < 2 ^ 11
    within a n less few = omega (arith, less, few)

none_judges : (m n r : ℕ) → 4128 ≤ m → 2 ^ 11 ≤ n → burst_found m n r ≡ None → (places : List ℕ) → IsShortBurst places → remainder places ≡ r → ⊥
none_judges m n r all_places all_patterns none places short e =
    let h : HasPattern places = pattern_from places short in
    let there : pattern_told r h.first h.pattern ≡ None =
    none_below n (λ pattern. pattern_told r h.first pattern) h.pattern
    (none_below m (λ first. found_below n (λ pattern. pattern_told r first pattern)) h.first none (omega (arith, h.within))) (omega (arith, h.small)) in
    none-some (Burst (h.first + 1) h.pattern)
    (sym there ∙ cond-true (is_burst r h.first h.pattern) (Some (Burst (h.first + 1) h.pattern)) None (is_burst-from r places short e h))

found_judges : (m n r : ℕ) → 4128 ≤ m → 2 ^ 11 ≤ n → n ≤ 2 ^ 11 → (eqb r 0 ≡ false) → Judges (unwrap_or (burst_found m n r) Uncorrectable) r
found_judges m n r all_places all_patterns few wrong = by (burst_found m n r) refl
  where
    by : (found : Option Verdict) → burst_found m n r ≡ found → Judges (unwrap_or found Uncorrectable) r
    by (Some v) is = burst_judges m n r v few is
    by None is = record {
      wrong = λ e. both_ways (eqb r 0) wrong (eq-eqb r 0 e);
      no_burst = none_judges m n r all_places all_patterns is;
    }

pub verdict_judges : (r : ℕ) → Judges (verdict_of r) r
unfolding verdict_of
verdict_judges r =
    cond_both (eqb r 0) Clean (unwrap_or (burst_found 4128 2048 r) Uncorrectable) (λ (v : Verdict). Judges v r)
    (λ right. eqb-true r 0 right)
    (λ wrong. found_judges 4128 2048 r (omega arith) (omega arith) (omega arith) wrong)
