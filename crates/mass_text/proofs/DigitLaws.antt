-- The digits of a number, one after another.
use Rattle.std.proofs.Common.{◌≡◌, ℕ, zero, suc, ◌+◌, ◌*◌, ◌/◌, ◌%◌, ◌^◌, ◌<◌, ◌≤◌, ◌==◌, ◌⊎◌, inl, inr, Bool, true, false, cond, List, [], ◌∷◌, ◌++◌, length, arith, refl, sym, ◌∙◌, ap, append_assoc, length-append}
use Rattle.std.specs.Fmt.{digit_glyph, digits, digits_onto}
use Rattle.std.proofs.Math.Nat.{div-eq_of_lt, lt-mul-div-succ, mod-eq_of_lt, mul-div-le, mul-le-mul_left, pow-suc, pow-zero}
use Rattle.std.proofs.lemmas.Bool.{cases_lt}

-- what is written in front of a text is written in front of it
onto_by : (k base n : ℕ) (acc : List ℕ) (last : Bool)
    → ((more : List ℕ) → digits_onto k base false (n / base) more ≡ digits_onto k base false (n / base) [] ++ more)
    → cond last (digit_glyph false (n % base) ∷ acc) (digits_onto k base false (n / base) (digit_glyph false (n % base) ∷ acc))
    ≡ cond last (digit_glyph false (n % base) ∷ []) (digits_onto k base false (n / base) (digit_glyph false (n % base) ∷ [])) ++ acc
onto_by k base n acc true front = refl
onto_by k base n acc false front =
    front (digit_glyph false (n % base) ∷ acc)
    ∙ sym (ap (λ text. text ++ acc) (front (digit_glyph false (n % base) ∷ []))
    ∙ append_assoc (digits_onto k base false (n / base) []) (digit_glyph false (n % base) ∷ []) acc)

digits_onto-append : (k base n : ℕ) (acc : List ℕ) → digits_onto k base false n acc ≡ digits_onto k base false n [] ++ acc
digits_onto-append zero base n acc = refl
digits_onto-append (suc k) base n acc = onto_by k base n acc (n / base == 0) (λ more. digits_onto-append k base (n / base) more)

div_small : (n base power : ℕ) → 0 < base → n < base * power → n / base < power
div_small n base power b h =
    elim (cases_lt (n / base) power) [
      | inl small ↦ small
      | inr large ↦ absurd (omega (arith, mul-le-mul_left base large, mul-div-le n base))
    ]

quotient_test : (n base : ℕ) → 0 < base → base ≤ n → (n / base == 0) ≡ false
quotient_test n base b large =
    elim (cases_lt 0 (n / base)) [
      | inl some ↦ grind arith
      | inr none ↦
          let zero_is : n / base ≡ 0 = omega arith in
          let less : n < base * (n / base + 1) = lt-mul-div-succ n b in
          let under : n < base * (0 + 1) = rw zero_is at less in
          absurd (omega arith)
    ]

more_digits : (k base n : ℕ) → (n / base == 0) ≡ false → n / base < base ^ k → 0 < k
more_digits zero base n e small = grind (arith, pow-zero)
more_digits (suc k) base n e small = omega arith

if_off : (test : Bool) (x y : List ℕ) → test ≡ false → cond test x y ≡ y
if_off true x y e = cc
if_off false x y e = refl

-- a number with few digits needs no more
enough_by : (k base n : ℕ) (acc : List ℕ) (last : Bool) → (n / base == 0) ≡ last → 0 < base → n < base ^ suc k
    → ((more : List ℕ) → 0 < k → n / base < base ^ k → digits_onto (suc k) base false (n / base) more ≡ digits_onto k base false (n / base) more)
    → cond last (digit_glyph false (n % base) ∷ acc) (digits_onto (suc k) base false (n / base) (digit_glyph false (n % base) ∷ acc))
    ≡ cond last (digit_glyph false (n % base) ∷ acc) (digits_onto k base false (n / base) (digit_glyph false (n % base) ∷ acc))
enough_by k base n acc true e b h less = refl
enough_by k base n acc false e b h less =
    let power : base ^ suc k ≡ base * base ^ k = omega (arith, pow-suc base k) in
    let small : n / base < base ^ k = div_small n base (base ^ k) b (rw power at h) in
    less (digit_glyph false (n % base) ∷ acc) (more_digits k base n e small) small

digits_onto-enough : (k base n : ℕ) (acc : List ℕ) → 0 < k → 0 < base → n < base ^ k → digits_onto (suc k) base false n acc ≡ digits_onto k base false n acc
digits_onto-enough zero base n acc k b h = absurd (omega arith)
digits_onto-enough (suc k) base n acc some b h =
    enough_by k base n acc (n / base == 0) refl b h (λ more positive small. digits_onto-enough k base (n / base) more positive b small)

onto_last : (k base n : ℕ) → 0 < base → n < base → digits_onto (suc k) base false n [] ≡ digit_glyph false n ∷ []
onto_last k base n b small =
    let quotient : n / base ≡ 0 = div-eq_of_lt small in
    let remainder : n % base ≡ n = mod-eq_of_lt small in
    rw (quotient, remainder) refl

onto_step : (k base n : ℕ) → 0 < k → 0 < base → base ≤ n → n / base < base ^ k
    → digits_onto (suc k) base false n [] ≡ digits_onto (suc k) base false (n / base) [] ++ digit_glyph false (n % base) ∷ []
onto_step k base n some b large small =
    if_off (n / base == 0) _ (digits_onto k base false (n / base) (digit_glyph false (n % base) ∷ [])) (quotient_test n base b large)
    ∙ digits_onto-append k base (n / base) (digit_glyph false (n % base) ∷ [])
    ∙ ap (λ text. text ++ digit_glyph false (n % base) ∷ []) (sym (digits_onto-enough k base (n / base) [] some b small))

digits_by : (k base n : ℕ) → k ≡ 64 → digits base false n ≡ digits_onto k base false n []
unfolding digits
digits_by k base n e = rw e refl

-- a number below the base is one digit
pub digits-last : (base n : ℕ) → 0 < base → n < base → digits base false n ≡ digit_glyph false n ∷ []
digits-last base n b small = last_by 63 refl
  where
    last_by : (k : ℕ) → suc k ≡ 64 → digits base false n ≡ digit_glyph false n ∷ []
    last_by k e = digits_by (suc k) base n e ∙ onto_last k base n b small

enough_digits : (base n : ℕ) → (base ≡ 8) ⊎ (base ≡ 16) → n < 2 ^ 64 → n / base < base ^ 63
enough_digits base n (inl octal) fits = rw octal (omega arith)
enough_digits base n (inr hex) fits = rw hex (omega arith)

step_by : (k base n : ℕ) → suc k ≡ 64 → 0 < base → base ≤ n → n / base < base ^ k
    → digits base false n ≡ digits base false (n / base) ++ digit_glyph false (n % base) ∷ []
step_by k base n e b large small =
    digits_by (suc k) base n e ∙ onto_step k base n (omega arith) b large small
    ∙ ap (λ text. text ++ digit_glyph false (n % base) ∷ []) (sym (digits_by (suc k) base (n / base) e))

-- another is the digits of its quotient, and its remainder
pub digits-step : (base n : ℕ) → (base ≡ 8) ⊎ (base ≡ 16) → n < 2 ^ 64 → base ≤ n
    → digits base false n ≡ digits base false (n / base) ++ digit_glyph false (n % base) ∷ []
digits-step base n b fits large =
    let some : 0 < base = grind arith in
    step_by 63 base n refl some large (enough_digits base n b fits)

pub quotient_less : (base n : ℕ) → (base ≡ 8) ⊎ (base ≡ 16) → base ≤ n → n / base < n
quotient_less base n (inl octal) large = let here : 8 ≤ n = omega arith in rw octal (omega arith)
quotient_less base n (inr hex) large = let here : 16 ≤ n = omega arith in rw hex (omega arith)

pub length-digits-step : (base n : ℕ) → (base ≡ 8) ⊎ (base ≡ 16) → n < 2 ^ 64 → base ≤ n
    → length (digits base false n) ≡ length (digits base false (n / base)) + 1
length-digits-step base n b fits large =
    ap length (digits-step base n b fits large) ∙ length-append (digits base false (n / base)) (digit_glyph false (n % base) ∷ [])

length_by : (k base n : ℕ) → (base ≡ 8) ⊎ (base ≡ 16) → n < 2 ^ 64 → n < base ^ suc k → (base ≤ n → n / base < 2 ^ 64 → n / base < base ^ k → length (digits base false (n / base)) ≤ k)
    → (n < base) ⊎ (base ≤ n) → length (digits base false n) ≤ suc k
length_by k base n b fits small less (inl last) =
    let some : 0 < base = grind arith in
    omega (arith, ap length (digits-last base n some last))
length_by k base n b fits small less (inr more) =
    let some : 0 < base = grind arith in
    let power : base ^ suc k ≡ base * base ^ k = omega (arith, pow-suc base k) in
    let step = length-digits-step base n b fits more in
    let quotient = quotient_less base n b more in
    let room = less more (omega (arith, quotient)) (div_small n base (base ^ k) some (rw power at small)) in
    omega (arith, step, room)

-- a number below a power of the base has at most so many digits, where it has one at all
pub length-digits-le : (k base n : ℕ) → (base ≡ 8) ⊎ (base ≡ 16) → n < 2 ^ 64 → n < base ^ suc k → length (digits base false n) ≤ suc k
length-digits-le zero base n b fits small =
    let some : 0 < base = grind arith in
    let power = rw (pow-zero base) at (pow-suc base 0) in
    omega (arith, ap length (digits-last base n some (omega (arith, power))))
length-digits-le (suc k) base n b fits small =
    length_by (suc k) base n b fits small (λ more wide narrow. length-digits-le k base (n / base) b wide narrow) (cases_lt n base)

-- and one of 64 bits at most 22
pub length-digits-22 : (base n : ℕ) → (base ≡ 8) ⊎ (base ≡ 16) → n < 2 ^ 64 → length (digits base false n) ≤ 22
length-digits-22 base n b fits = length-digits-le 21 base n b fits (wide b)
  where
    wide : (base ≡ 8) ⊎ (base ≡ 16) → n < base ^ 22
    wide (inl octal) = rw octal (omega (arith, fits))
    wide (inr hex) = rw hex (omega (arith, fits))
