-- Numbers without a zero too many: each word that is read is what is written of its number, and what is written is read.
use Rattle.std.proofs.Common.{◌≡◌, ◌≢◌, ℕ, zero, suc, ◌+◌, ◌*◌, ◌/◌, ◌%◌, ◌^◌, ◌<◌, ◌≤◌, ◌==◌, ◌&&◌, inl, inr, Bool, true, false, cond, Result, Ok, Err, List, [], ◌∷◌, ◌++◌, length, get_or, Option, None, Some, arith, refl, sym, ap, ◌∙◌, append_assoc, append-nil, subst}
use Rattle.std.specs.Prelude.{nat_lt}
use Rattle.std.specs.Char.{digit_value}
use Rattle.std.specs.Fmt.{decimal, digits, digit_glyph}
use Rattle.std.specs.Str.Parse.{AllDigits, digits_value, digits_value_after}
use Rattle.std.proofs.lemmas.Bool.{cases_lt}
use Rattle.std.proofs.lemmas.Bool.Decides.{nat_tests}
use Rattle.std.proofs.lemmas.Fmt.{decimal_digit, decimal-digits_value, first_decimal}
use Rattle.std.proofs.lemmas.Str.{digit_value_digit}
use Rattle.std.proofs.lemmas.Str.Parse.{digit_from_value, numerals_by_value, tells_digits}
use Rattle.mass_text.specs.Numbers.{base_of, fault_or, first_other, number_of, numeral, up_to}
use Rattle.mass_text.specs.declared.numbers.NumberFault.{NumberFault}
use Rattle.mass_text.specs.declared.numbers.NumberFault.TheVariants.{Empty, Large}
use Rattle.mass_text.specs.declared.numbers.Radix.{Radix}
use Rattle.mass_text.specs.declared.numbers.Radix.TheVariants.{Octal, Decimal}
use Rattle.mass_text.proofs.DigitLaws.{digits-last, digits-step, quotient_less}
use Rattle.mass_text.proofs.NumberLaws.{all_digits, number_of-numeral}
use Rattle.trace_reader.specs.declared.fault.TraceKind.TheVariants.{Word}
use Rattle.trace_reader.specs.Reading.{at_least, decimal_in, is_padded, number_in}

-- WHAT A NUMBER THAT WAS READ SAYS of its word
too_large : (max n : ℕ) → max < n → up_to max n ≡ Err Large
too_large max n h = grind (arith, nat_tests)

fits : (max n : ℕ) → n ≤ max → up_to max n ≡ Ok n
fits max n h = grind (arith, nat_tests)

up_gives : (max value n : ℕ) → up_to max value ≡ Ok n → (n ≡ value) × (n ≤ max)
up_gives max value n e =
    elim (cases_lt max value) [
      | inl large ↦ let other : up_to max value ≡ Err Large = too_large max value large in absurd (cc)
      | inr small ↦
          let is : up_to max value ≡ Ok value = fits max value small in
          let same : value ≡ n = cc in
          (sym same, omega (arith, same, small))
    ]

by_parts : (max value n : ℕ) (empty : Bool) (at : Option ℕ) → cond empty (Err Empty) (fault_or at (up_to max value)) ≡ Ok n
    → (empty ≡ false) × (at ≡ None) × (up_to max value ≡ Ok n)
by_parts max value n true at e = absurd (cc)
by_parts max value n false (Some i) e = absurd (cc)
by_parts max value n false None e = (refl, refl, e)

not_empty : (n : ℕ) → (n == 0) ≡ false → 0 < n
not_empty n e = grind (arith, nat_tests)

pub record IsNumberOf (radix : Radix) (high : ℕ) (word : List ℕ) (n : ℕ) : Type 0 where
  pub some : 0 < length word
  pub digits : first_other radix word ≡ None
  pub value : n ≡ digits_value (base_of radix) word
  pub small : n ≤ high

number_gives : (radix : Radix) (high : ℕ) (word : List ℕ) (n : ℕ) → number_of radix high word ≡ Ok n → IsNumberOf radix high word n
number_gives radix high word n e =
    let parts = by_parts high (digits_value (base_of radix) word) n (length word == 0) (first_other radix word) e in
    let up = up_gives high (digits_value (base_of radix) word) n parts.2 in
    record { some = not_empty (length word) parts.0; digits = parts.1; value = up.0; small = up.1 }

low_faulty : (low m : ℕ) → m < low → at_least {E = NumberFault} low (Ok m) ≡ Err Word
low_faulty low m h = grind (arith, nat_tests)

pub high_enough : (low m : ℕ) → low ≤ m → at_least {E = NumberFault} low (Ok m) ≡ Ok m
high_enough low m h = grind (arith, nat_tests)

least_gives : (low n : ℕ) (r : Result ℕ NumberFault) → at_least low r ≡ Ok n → (r ≡ Ok n) × (low ≤ n)
least_gives low n (Err fault) e = absurd (cc)
least_gives low n (Ok m) e =
    elim (cases_lt m low) [
      | inl less ↦ let other : at_least {E = NumberFault} low (Ok m) ≡ Err Word = low_faulty low m less in absurd (cc)
      | inr more ↦
          let is : at_least {E = NumberFault} low (Ok m) ≡ Ok m = high_enough low m more in
          let same : m ≡ n = cc in
          (subst (λ (k : ℕ). ◌≡◌ {A = Result ℕ NumberFault} (Ok m) (Ok k)) same refl, omega (arith, same, more))
    ]

padded_by : (low n : ℕ) (r : Result ℕ NumberFault) (b : Bool) → cond b (Err Word) (at_least low r) ≡ Ok n → (b ≡ false) × (r ≡ Ok n) × (low ≤ n)
padded_by low n r true e = absurd (cc)
padded_by low n r false e = let g = least_gives low n r e in (refl, g.0, g.1)

in_gives : (radix : Radix) (low high : ℕ) (word : List ℕ) (n : ℕ) → number_in radix low high word ≡ Ok n
    → (is_padded word ≡ false) × (number_of radix high word ≡ Ok n) × (low ≤ n)
unfolding number_in
in_gives radix low high word n e = padded_by low n (number_of radix high word) (is_padded word) e

long : (n : ℕ) → nat_lt 1 (suc (suc n)) ≡ true
long n = grind (arith, nat_tests)

is_same : (c d : ℕ) → c ≡ d → (c == d) ≡ true
is_same c d e = grind (arith, nat_tests)

no_both : (a b : Bool) → a ≡ true → b ≡ true → a && b ≡ false → ⊥
no_both true true e h p = cc
no_both true false e h p = cc
no_both false b e h p = cc

last_false : (a b : Bool) → b ≡ false → a && b ≡ false
last_false true b e = e
last_false false b e = refl

lead : (word : List ℕ) → is_padded word ≡ false → 0 < length word → get_or word 0 0 ≡ 48 → length word ≡ 1
lead [] p some zero_is = absurd (omega arith)
lead (c ∷ []) p some zero_is = refl
lead (c ∷ d ∷ ds) p some zero_is = absurd (no_both (nat_lt 1 (suc (suc (length ds)))) (c == 48) (long (length ds)) (is_same c 48 zero_is) p)

digits_all : (base : ℕ) (word : List ℕ) → ((i : ℕ) → i < length word → digit_value (get_or word i 0) < base) → AllDigits base word
digits_all base [] each = tt
digits_all base (c ∷ cs) each = (each 0 (omega arith), digits_all base cs (λ i l. each (suc i) (omega arith)))

-- a decimal word that is read is what is written of its number
pub decimal_sound : (low high n : ℕ) (word : List ℕ) → high < 2 ^ 64 → decimal_in low high word ≡ Ok n → (low ≤ n) × (n ≤ high) × (word ≡ decimal n)
decimal_sound low high n word wide e =
    let parts = in_gives Decimal low high word n e in
    let is = number_gives Decimal high word n parts.1 in
    let all : AllDigits 10 word = digits_all 10 word (all_digits 10 word is.digits) in
    let small : digits_value 10 word < 2 ^ 64 = omega (arith, is.value, is.small, wide) in
    let spelled : decimal (digits_value 10 word) ≡ word = decimal-digits_value (numerals_by_value _ tells_digits) word all is.some (lead word parts.0 is.some) small in
    (parts.2, is.small, sym (ap decimal is.value ∙ spelled))

-- the same in octal
glyph : (k : ℕ) → k < 10 → digit_glyph false k ≡ 48 + k
glyph k h = grind (arith, nat_tests)

le_value_after : (n : ℕ) (ds : List ℕ) → n ≤ digits_value_after 8 n ds
le_value_after n [] = omega arith
le_value_after n (c ∷ cs) = omega (arith, le_value_after (n * 8 + digit_value c) cs)

octal_after : (n : ℕ) (ds : List ℕ) → 0 < n → AllDigits 8 ds → digits_value_after 8 n ds < 2 ^ 64 → digits 8 false (digits_value_after 8 n ds) ≡ digits 8 false n ++ ds
octal_after n [] some d small = sym (append-nil (digits 8 false n))
octal_after n (c ∷ cs) some d small =
    let m : ℕ = n * 8 + digit_value c in
    let k = digit_value_digit c (digit_from_value c (omega (arith, d.0))) in
    let front : m / 8 ≡ n = omega (arith, d.0) in
    let last : m % 8 ≡ digit_value c = omega (arith, d.0) in
    let end : digit_glyph false (m % 8) ≡ c = glyph (m % 8) (omega (arith, d.0, last)) ∙ omega (arith, k, last) in
    octal_after m cs (omega arith) d.1 small
    ∙ ap (λ x. x ++ cs) (digits-step 8 m (inl refl) (omega (arith, le_value_after m cs)) (omega arith) ∙ (λ i. digits 8 false (front i) ++ (end i ∷ [])))
    ∙ append_assoc (digits 8 false n) (c ∷ []) cs

octal_digits : (ds : List ℕ) → AllDigits 8 ds → 0 < length ds → (get_or ds 0 0 ≡ 48 → length ds ≡ 1) → digits_value 8 ds < 2 ^ 64 → digits 8 false (digits_value 8 ds) ≡ ds
octal_digits [] d some lead small = absurd (omega arith)
octal_digits (c ∷ []) d some lead small =
    let k = digit_value_digit c (digit_from_value c (omega (arith, d.0))) in
    digits-last 8 (0 * 8 + digit_value c) (omega arith) (omega (arith, d.0)) ∙ ap (λ x. x ∷ []) (glyph (0 * 8 + digit_value c) (omega (arith, d.0)) ∙ omega (arith, k))
octal_digits (c ∷ e ∷ cs) d some lead small =
    let k = digit_value_digit c (digit_from_value c (omega (arith, d.0))) in
    let no : c ≡ 48 → ⊥ = λ z. omega (arith, lead z) in
    let is : digit_glyph false (0 * 8 + digit_value c) ≡ c = glyph (0 * 8 + digit_value c) (omega (arith, d.0)) ∙ omega (arith, k) in
    octal_after (0 * 8 + digit_value c) (e ∷ cs) (omega arith) d.1 small
    ∙ ap (λ x. x ++ (e ∷ cs)) (digits-last 8 (0 * 8 + digit_value c) (omega arith) (omega (arith, d.0)) ∙ ap (λ x. x ∷ []) is)

pub octal_sound : (low high n : ℕ) (word : List ℕ) → high < 2 ^ 64 → number_in Octal low high word ≡ Ok n → (low ≤ n) × (n ≤ high) × (word ≡ numeral Octal n)
octal_sound low high n word wide e =
    let parts = in_gives Octal low high word n e in
    let is = number_gives Octal high word n parts.1 in
    let all : AllDigits 8 word = digits_all 8 word (all_digits 8 word is.digits) in
    let small : digits_value 8 word < 2 ^ 64 = omega (arith, is.value, is.small, wide) in
    let spelled : digits 8 false (digits_value 8 word) ≡ word = octal_digits word all is.some (lead word parts.0 is.some) small in
    (parts.2, is.small, sym (ap (λ (k : ℕ). digits 8 false k) is.value ∙ spelled))

-- WHAT IS WRITTEN IS READ
other : (c d : ℕ) → c ≢ d → (c == d) ≡ false
other c d ne = grind (arith, nat_tests)

padded_not : (word : List ℕ) → get_or word 0 0 ≢ 48 → is_padded word ≡ false
padded_not [] ne = refl
padded_not (c ∷ ds) ne = last_false (nat_lt 1 (length (c ∷ ds))) (c == 48) (other c 48 ne)

not_padded : (n : ℕ) → n < 2 ^ 64 → is_padded (decimal n) ≡ false
not_padded zero h = ap is_padded (decimal_digit 0 (omega arith))
not_padded (suc n) h = let first = first_decimal (suc n) (omega arith) h in padded_not (decimal (suc n)) (λ e. omega (arith, e, first))

read_by : (radix : Radix) (low high n : ℕ) (word : List ℕ) → is_padded word ≡ false → number_of radix high word ≡ Ok n → low ≤ n → number_in radix low high word ≡ Ok n
unfolding number_in
read_by radix low high n word p is h = rw (p, is) (high_enough low n h)

pub decimal_complete : (low high n : ℕ) → high < 2 ^ 64 → low ≤ n → n ≤ high → decimal_in low high (decimal n) ≡ Ok n
decimal_complete low high n wide above below =
    read_by Decimal low high n (decimal n) (not_padded n (omega arith)) (number_of-numeral Decimal n high (omega arith) below) above

first_kept : (ds : List ℕ) (c : ℕ) → 0 < length ds → get_or (ds ++ c ∷ []) 0 0 ≡ get_or ds 0 0
first_kept [] c some = absurd (omega arith)
first_kept (d ∷ ds) c some = refl

some_more : (ds : List ℕ) (c : ℕ) → 0 < length (ds ++ c ∷ [])
some_more [] c = omega arith
some_more (d ∷ ds) c = omega arith

-- the first octal digit of a number that is not 0 is none
first_octal : (k n : ℕ) → n < 2 ^ 64 → n ≤ k → 0 < n → (0 < length (digits 8 false n)) × (get_or (digits 8 false n) 0 0 ≢ 48)
first_octal zero n wide bound some = absurd (omega arith)
first_octal (suc k) n wide bound some =
    elim (cases_lt n 8) [
      | inl small ↦
          let e : digits 8 false n ≡ digit_glyph false n ∷ [] = digits-last 8 n (omega arith) small in
          let g : digit_glyph false n ≡ 48 + n = glyph n (omega arith) in
          rw (e, g) (omega arith, λ is. omega (arith, is))
      | inr large ↦
          let e : digits 8 false n ≡ digits 8 false (n / 8) ++ digit_glyph false (n % 8) ∷ [] = digits-step 8 n (inl refl) wide large in
          let less : n / 8 < n = quotient_less 8 n (inl refl) large in
          let ih = first_octal k (n / 8) (omega arith) (omega arith) (omega arith) in
          rw e (some_more (digits 8 false (n / 8)) (digit_glyph false (n % 8)), λ is. ih.1 (sym (first_kept (digits 8 false (n / 8)) (digit_glyph false (n % 8)) ih.0) ∙ is))
    ]

pub octal_complete : (low high n : ℕ) → high < 2 ^ 64 → 0 < n → low ≤ n → n ≤ high → number_in Octal low high (numeral Octal n) ≡ Ok n
octal_complete low high n wide some above below =
    let first = first_octal n n (omega arith) (omega arith) some in
    read_by Octal low high n (numeral Octal n) (padded_not (numeral Octal n) first.1) (number_of-numeral Octal n high (omega arith) below) above
