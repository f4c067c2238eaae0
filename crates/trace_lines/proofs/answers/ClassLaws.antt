-- The class of noise is the one that it has.
use Rattle.std.proofs.Common.{◌≡◌, ℕ, ◌+◌, ◌-◌, ◌<◌, ◌≤◌, true, false, cond, List, [], ◌∷◌, refl, arith, leb}
use Rattle.std.proofs.lemmas.Bool.{cond_both, both_ways, leb-true, le-leb}
use Rattle.std.proofs.lemmas.List.Elements.{All-tail, All-cons}
use Rattle.fire_code.specs.Remainder.{remainder}
use Rattle.fire_code.specs.Burst.{IsPlaces, IsShortBurst, IsUncorrectable, places_of}
use Rattle.fire_code.specs.Noise.{IsNoise, Classes}
use Rattle.fire_code.specs.declared.NoiseClass.{NoiseClass}
use Rattle.fire_code.specs.declared.NoiseClass.TheVariants.{Short, Shown, Alias}
use Rattle.fire_code.proofs.Rising.{Rising, Rising-from, Rising-All, IsShortBurst-from, IsShortBurst-near, IsPlaces-rising}
use Rattle.fire_code.proofs.Verdicts.{all_pass, pass_all, verdict_judges}
use Rattle.fire_code.specs.Verdict.{Judges, verdict_of}
use Rattle.fire_code.specs.declared.Verdict.{Verdict}
use Rattle.fire_code.specs.declared.Verdict.TheVariants.{Clean, Burst, Uncorrectable}
use Rattle.fire_code.proofs.Laws.{class_unique}
use Rattle.trace_lines.specs.answers.Classes.{are_near, looks_right, class_of}

-- SHORT BURSTS.
near_rises : (first : ℕ) (places : List ℕ) → IsPlaces (first ∷ places) → are_near (first ∷ places) ≡ true → Rising first (first + 11) (first ∷ places)
near_rises first places is near =
    Rising-from first (first + 11) (first ∷ places) is.ascending
    (All-cons (λ k. k < first + 11) first places (omega arith) (all_pass (λ k. leb k (first + 10)) (λ k. k < first + 11) (λ k h. closer k (leb-true k (first + 10) h)) places near))
    (λ l. omega arith)
  where
    closer : (k : ℕ) → k ≤ first + 10 → k < first + 11
    closer k h = omega arith

near_short : (places : List ℕ) → IsNoise places → are_near places ≡ true → IsShortBurst places
near_short [] noise near = absurd (omega (arith, noise.not_empty))
near_short (first ∷ places) noise near =
    IsShortBurst-from first (first ∷ places) (omega arith) (near_rises first places noise.set near) (IsPlaces-rising first places noise.set)

short_near : (places : List ℕ) → IsShortBurst places → are_near places ≡ true
short_near [] short = refl
short_near (first ∷ places) short =
    pass_all (λ k. leb k (first + 10)) (λ k. k < first + 11) (λ k h. le-leb k (first + 10) (closer k h)) places
    (All-tail (λ k. k < first + 11) first places (Rising-All first (first + 11) (λ k. k < first + 11) (λ k a b. b) (first ∷ places) (IsShortBurst-near first places short)))
  where
    closer : (k : ℕ) → k < first + 11 → k ≤ first + 10
    closer k h = omega arith

-- A VERDICT hides what it says looks right, and shows the other.
right_hides : (v : Verdict) (r : ℕ) → Judges v r → looks_right v ≡ true → IsUncorrectable r → ⊥
right_hides Clean r judges h u = u.wrong judges
right_hides (Burst at pattern) r judges h u = u.no_burst (places_of 11 (at - 1) pattern) judges.burst judges.is
right_hides Uncorrectable r judges h u = both_ways false refl h

wrong_shows : (v : Verdict) (r : ℕ) → Judges v r → looks_right v ≡ false → IsUncorrectable r
wrong_shows Uncorrectable r judges h = judges
wrong_shows other r judges h = absurd (both_ways true h refl)

-- THE CLASS that is computed is one that the places have.
class_of-has : (places : List ℕ) → IsNoise places → Classes (class_of places) places
unfolding class_of
class_of-has places noise =
    cond_both (are_near places) Short (cond (looks_right (verdict_of (remainder places))) Alias Shown) (λ (c : NoiseClass). Classes c places)
    (λ near. near_short places noise near)
    (λ far. cond_both (looks_right (verdict_of (remainder places))) Alias Shown (λ (c : NoiseClass). Classes c places)
    (λ right. record { long = λ short. both_ways (are_near places) far (short_near places short); hidden = right_hides (verdict_of (remainder places)) (remainder places) (verdict_judges (remainder places)) right })
    (λ wrong. wrong_shows (verdict_of (remainder places)) (remainder places) (verdict_judges (remainder places)) wrong))

pub class_of-is : (places : List ℕ) (class : NoiseClass) → IsNoise places → Classes class places → class_of places ≡ class
class_of-is places class noise has = class_unique (class_of places) class places (class_of-has places noise) has
