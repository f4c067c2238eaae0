-- Places of a noise, read one by one.
use Rattle.std.proofs.Common.{◌≡◌, ℕ, zero, suc, ◌+◌, ◌<◌, ◌≤◌, Bool, true, false, List, [], ◌∷◌, ◌++◌, length, get_or, refl, sym, ap, subst, ◌∙◌, arith, append_assoc, append-nil, length-append, Result, Ok, Err, All}
use Rattle.std.specs.Prelude.{if◌then◌else◌, ◌&&◌, ◌==◌, nat_le}
use Rattle.std.specs.List.Sorted.{IsStrictlyIncreasing}
use Rattle.std.proofs.lemmas.Bool.Decides.{nat_tests}
use Rattle.std.proofs.lemmas.List.Elements.{All-nil, All-cons}
use Rattle.fire_code.specs.Noise.{IsNoise}
use Rattle.mass_text.specs.Numbers.{number_of}
use Rattle.mass_text.specs.declared.numbers.Radix.TheVariants.{Decimal}
use Rattle.mass_text.specs.declared.numbers.NumberFault.{NumberFault}
use Rattle.script_lines.specs.declared.kinds.ScriptKind.{ScriptKind}
use Rattle.script_lines.specs.declared.kinds.ScriptKind.TheVariants.{Bits}
use Rattle.script_lines.specs.Fields.{and_then, or_kind, place_field}
use Rattle.script_lines.specs.Places.{numbers_of, ahead, is_rising, are_noise}
use Rattle.script_lines.specs.Forms.{noise_or, places_form}
use Rattle.script_lines.proofs.Results.{same_Err}

-- RISING places are strictly increasing, and the other way round.
rising_first : (low p : ℕ) (ps : List ℕ) → is_rising low (p ∷ ps) ≡ true → (low ≤ p) × (is_rising (p + 1) ps ≡ true)
rising_first low p ps e = at (nat_le low p) refl e
  where
    at : (b : Bool) → nat_le low p ≡ b → (b && is_rising (p + 1) ps) ≡ true → (low ≤ p) × (is_rising (p + 1) ps ≡ true)
    at true t f = (grind (arith, nat_tests), f)
    at false t f = absurd (cc)

after_one : (p : ℕ) (xs : List ℕ) (k : ℕ) → get_or (p ∷ xs) (suc k + 1) 0 ≡ get_or xs (k + 1) 0
after_one p xs k = let e : suc k + 1 ≡ suc (k + 1) = omega arith in ap (λ (i : ℕ). get_or (p ∷ xs) i 0) e

increasing_cons : (p q : ℕ) (qs : List ℕ) → p < q → IsStrictlyIncreasing (q ∷ qs) → IsStrictlyIncreasing (p ∷ q ∷ qs)
increasing_cons p q qs lt inc zero h = lt
increasing_cons p q qs lt inc (suc k) h = subst (λ (n : ℕ). get_or (q ∷ qs) k 0 < n) (sym (after_one p (q ∷ qs) k)) (inc k (omega (arith, h)))

rising_increasing : (low : ℕ) (ps : List ℕ) → is_rising low ps ≡ true → IsStrictlyIncreasing ps
rising_increasing low [] e k h = absurd (omega (arith, h))
rising_increasing low (p ∷ []) e k h = absurd (omega (arith, h))
rising_increasing low (p ∷ q ∷ qs) e k h =
    let first = rising_first low p (q ∷ qs) e in
    let second = rising_first (p + 1) q qs first.1 in
    increasing_cons p q qs (omega (arith, second.0)) (rising_increasing (p + 1) (q ∷ qs) first.1) k h

increasing_tail : (p : ℕ) (xs : List ℕ) → IsStrictlyIncreasing (p ∷ xs) → IsStrictlyIncreasing xs
increasing_tail p xs inc k h = subst (λ (n : ℕ). get_or xs k 0 < n) (after_one p xs k) (inc (suc k) (omega (arith, h)))

both_true : (a b : Bool) → a ≡ true → b ≡ true → (a && b) ≡ true
both_true a b e f = ap (λ (x : Bool). x && b) e ∙ f

increasing_rising : (low p : ℕ) (ps : List ℕ) → low ≤ p → IsStrictlyIncreasing (p ∷ ps) → is_rising low (p ∷ ps) ≡ true
increasing_rising low p [] le inc = both_true (nat_le low p) true (grind (arith, nat_tests)) refl
increasing_rising low p (q ∷ qs) le inc =
    let lt : p < q = inc 0 (omega arith) in
    both_true (nat_le low p) (is_rising (p + 1) (q ∷ qs)) (grind (arith, nat_tests)) (increasing_rising (p + 1) q qs (omega (arith, lt)) (increasing_tail p (q ∷ qs) inc))

-- SMALL places, up to 4127
abbrev pub AreSmall : List ℕ → Type 0
AreSmall [] = Unit {0}
AreSmall (p ∷ ps) = (p ≤ 4127) × AreSmall ps

pub small_more : (ps : List ℕ) (p : ℕ) → AreSmall ps → p ≤ 4127 → AreSmall (ps ++ p ∷ [])
small_more [] p all le = (le, tt)
small_more (x ∷ ps) p all le = (all.0, small_more ps p all.1 le)

all_small : (ps : List ℕ) → AreSmall ps → All (λ k. k < 4128) ps
all_small [] all = All-nil (λ k. k < 4128)
all_small (p ∷ ps) all = All-cons (λ k. k < 4128) p ps (omega (arith, all.0)) (all_small ps all.1)

-- NOISE
noise_true : (places : List ℕ) → are_noise places ≡ true → (is_rising 0 places ≡ true) × (length places ≤ 64)
noise_true places e = at (is_rising 0 places) refl e
  where
    at : (b : Bool) → is_rising 0 places ≡ b → (b && nat_le (length places) 64) ≡ true → (is_rising 0 places ≡ true) × (length places ≤ 64)
    at true t f = (t, grind (arith, nat_tests))
    at false t f = absurd (cc)

pub is_noise : (places : List ℕ) → AreSmall places → 0 < length places → are_noise places ≡ true → IsNoise places
is_noise places small some e =
    let both = noise_true places e in record {
      set = record { ascending = rising_increasing 0 places both.0; in_word = all_small places small };
      not_empty = some;
      bounded = both.1;
    }

noise_is : (places : List ℕ) → IsNoise places → are_noise places ≡ true
noise_is [] n = absurd (omega (arith, n.not_empty))
noise_is (p ∷ ps) n =
    let few : length (p ∷ ps) ≤ 64 = n.bounded in
    both_true (is_rising 0 (p ∷ ps)) (nat_le (length (p ∷ ps)) 64) (increasing_rising 0 p ps (omega arith) n.set.ascending) (grind (arith, nat_tests))

pub noise_read : (places : List ℕ) → IsNoise places → noise_or places ≡ Ok (places, [])
noise_read places n = ap (λ (b : Bool). if b then Ok (places, []) else Err Bits) (noise_is places n)

no_noise : (places : List ℕ) (b : Bool) → are_noise places ≡ b → (are_noise places ≡ true → ⊥) → noise_or places ≡ Err Bits
no_noise places true e no_one = absurd (no_one e)
no_noise places false e no_one = ap (λ (b : Bool). if b then Ok (places, []) else Err Bits) e

pub noise_refused : (places : List ℕ) → AreSmall places → 0 < length places → ¬ IsNoise places → noise_or places ≡ Err Bits
noise_refused places small some none = no_noise places (are_noise places) refl (λ e. none (is_noise places small some e))

-- READING. What places so far and the fields that are left come to.
pub ahead_more : (done : List ℕ) (field : List ℕ) (fields : List (List ℕ)) (p : ℕ) → place_field field ≡ Ok p → ahead done (field ∷ fields) ≡ ahead (done ++ p ∷ []) fields
ahead_more done field fields p e =
    ap (λ (r : Result ℕ ScriptKind). and_then (and_then r (λ place. and_then (numbers_of fields) (λ places. Ok (place ∷ places)))) (λ ps. Ok (done ++ ps))) e ∙ at (numbers_of fields)
  where
    at : (r : Result (List ℕ) ScriptKind) → and_then (and_then r (λ places. Ok (p ∷ places))) (λ ps. Ok (done ++ ps)) ≡ and_then r (λ ps. Ok ((done ++ p ∷ []) ++ ps))
    at (Ok ps) = ap (λ (xs : List ℕ). Ok xs) (sym (append_assoc done (p ∷ []) ps))
    at (Err kind) = refl

too_many : (ps : List ℕ) → 64 < length ps → noise_or ps ≡ Err Bits
too_many ps much = no_noise ps (are_noise ps) refl (λ e. absurd (omega (arith, (noise_true ps e).1, much)))

bits : (r : Result ℕ NumberFault) (kind : ScriptKind) → or_kind Bits r ≡ Err kind → kind ≡ Bits
bits (Ok n) kind f = absurd (cc)
bits (Err fault) kind f = cc

then_bits : (r : Result ℕ ScriptKind) (s : Result (List ℕ) ScriptKind) (kind : ScriptKind) → ((k : ScriptKind) → r ≡ Err k → k ≡ Bits) → ((k : ScriptKind) → s ≡ Err k → k ≡ Bits)
    → and_then r (λ place. and_then s (λ places. Ok (place ∷ places))) ≡ Err kind → kind ≡ Bits
then_bits (Ok p) (Ok ps) kind a b e = absurd (cc)
then_bits (Ok p) (Err k) kind a b e = b kind e
then_bits (Err k) s kind a b e = sym (same_Err k kind e) ∙ a k refl

-- whatever is wrong with a place is a fault of places
numbers_bits : (fields : List (List ℕ)) (kind : ScriptKind) → numbers_of fields ≡ Err kind → kind ≡ Bits
numbers_bits [] kind e = absurd (cc)
numbers_bits (field ∷ fields) kind e = then_bits (place_field field) (numbers_of fields) kind (bits (number_of Decimal 4127 field)) (numbers_bits fields) e

full_result : (done : List ℕ) (r : Result (List ℕ) ScriptKind) → ((kind : ScriptKind) → r ≡ Err kind → kind ≡ Bits) → 64 < length done → and_then (and_then r (λ ps. Ok (done ++ ps))) noise_or ≡ Err Bits
full_result done (Ok ps) b full = too_many (done ++ ps) (omega (arith, length-append done ps, full))
full_result done (Err kind) b full = ap (λ (k : ScriptKind). Err k) (b kind refl)

pub ahead_full : (done : List ℕ) (field : List ℕ) (fields : List (List ℕ)) (p : ℕ) → place_field field ≡ Ok p → 64 ≤ length done → and_then (ahead done (field ∷ fields)) noise_or ≡ Err Bits
ahead_full done field fields p e full =
    ap (λ (r : Result (List ℕ) ScriptKind). and_then r noise_or) (ahead_more done field fields p e)
    ∙ full_result (done ++ p ∷ []) (numbers_of fields) (numbers_bits fields) (omega (arith, length-append done (p ∷ []), full))

pub ahead_end : (done : List ℕ) → ahead done [] ≡ Ok done
ahead_end done = let e : done ++ [] ≡ done = append-nil done in ap (λ (ps : List ℕ). Ok ps) e

pub ahead_start : (all : List (List ℕ)) (text : List ℕ) (fields : List (List ℕ)) (p : ℕ) (done : List ℕ) → all ≡ text ∷ fields → place_field text ≡ Ok p → done ≡ p ∷ [] → places_form all ≡ and_then (ahead done fields) noise_or
unfolding places_form
ahead_start all text fields p done is e d =
    ap places_form is
    ∙ ap (λ (r : Result (List ℕ) ScriptKind). and_then r noise_or) (start (numbers_of (text ∷ fields)) ∙ ahead_more [] text fields p e)
    ∙ ap (λ (ps : List ℕ). and_then (ahead ps fields) noise_or) (sym d)
  where
    start : (r : Result (List ℕ) ScriptKind) → r ≡ and_then r (λ ps. Ok ([] ++ ps))
    start (Ok ps) = refl
    start (Err kind) = refl

pub start_fault : (all : List (List ℕ)) (text : List ℕ) (fields : List (List ℕ)) (kind : ScriptKind) → all ≡ text ∷ fields → place_field text ≡ Err kind → places_form all ≡ Err kind
unfolding places_form
start_fault all text fields kind is e =
    ap places_form is ∙ ap (λ (r : Result ℕ ScriptKind). and_then (and_then r (λ place. and_then (numbers_of fields) (λ places. Ok (place ∷ places)))) noise_or) e

pub is_full : (b : Bool) (n : ℕ) → b ≡ true → b ≡ (n == 64) → 64 ≤ n
is_full b n t e = let f : (n == 64) ≡ true = sym e ∙ t in grind (arith, nat_tests)
