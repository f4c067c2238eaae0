-- Laws of numbers as text.
use Rattle.std.proofs.Common.{◌≡◌, ◌==◌, ℕ, suc, ◌+◌, ◌*◌, ◌<◌, ◌≤◌, inl, inr, ◌^◌, Bool, false, not, cond, Ok, Err, List, [], ◌∷◌, length, take, get_or, Option, None, arith, refl, sym}
use Rattle.std.specs.Prelude.{position}
use Rattle.std.specs.Char.{digit_value, is_digit}
use Rattle.std.specs.List.{position_or_len}
use Rattle.std.specs.Str.Parse.{digits_value, AllDigits}
use Rattle.std.proofs.lemmas.Fmt.{digits_is_IsNumeral, length-decimal-le}
use Rattle.std.proofs.lemmas.Int.Digits.{digits_value_more}
use Rattle.std.proofs.lemmas.List.Sums.{fails_before_first}
use Rattle.std.proofs.lemmas.Str.Parse.{digits_value-take-le}
use Rattle.mass_text.proofs.DigitLaws.{length-digits-le}
use Rattle.mass_text.specs.Numbers.{base_of, fault_or, first_other, number_of, numeral, up_to}
use Rattle.mass_text.specs.declared.numbers.NumberFault.TheVariants.{Empty}
use Rattle.mass_text.specs.declared.numbers.Radix.{Radix}
use Rattle.mass_text.specs.declared.numbers.Radix.TheVariants.{Octal, Decimal, Hex}

-- the value with one more digit
pub next_value : (radix : ℕ) (ds : List ℕ) (i value base digit : ℕ) → i < length ds → value ≡ digits_value radix (take i ds) → base ≡ radix → digit ≡ digit_value (get_or ds i 0)
    → value * base + digit ≡ digits_value radix (take (i + 1) ds)
next_value radix ds i value base digit h v b d = rw (v, b, d) (sym (digits_value_more radix ds i h))

-- a front above a bound puts the whole above it
pub too_large : (radix : ℕ) (ds : List ℕ) (i next max : ℕ) → 1 ≤ radix → next ≡ digits_value radix (take (i + 1) ds) → max < next → digits_value radix ds ≤ max → ⊥
too_large radix ds i next max one n above below = omega (arith, digits_value-take-le radix ds (i + 1) one)

-- where no place fails, each passes
pub none_fails : (p : ℕ → Bool) (xs : List ℕ) → position p xs ≡ None → (i : ℕ) → i < length xs → p (get_or xs i 0) ≡ false
none_fails p xs h i small = fails_before_first p xs i 0 (grind arith)

below_base : (c base : ℕ) → not (is_digit c base) ≡ false → digit_value c < base
below_base c base h = grind arith

-- where no place is other than a digit, each byte is one
pub all_digits : (base : ℕ) (xs : List ℕ) → position (λ c. not (is_digit c base)) xs ≡ None → (i : ℕ) → i < length xs → digit_value (get_or xs i 0) < base
all_digits base xs h i small = below_base (get_or xs i 0) base (none_fails (λ c. not (is_digit c base)) xs h i small)

base_low : (radix : Radix) → 2 ≤ base_of radix
base_low Octal = omega arith
base_low other = omega arith

base_high : (radix : Radix) → base_of radix ≤ 16
base_high Octal = omega arith
base_high other = omega arith

pub base_small : (radix : Radix) → 1 ≤ base_of radix
base_small Octal = omega arith
base_small other = omega arith

position_by : (base c n m : ℕ) → digit_value c < base → n ≡ m → cond (not (not (is_digit c base))) (1 + n) 0 ≡ suc m
position_by base c n m digit e = grind arith

none_other : (base : ℕ) (ds : List ℕ) → AllDigits base ds → position_or_len (λ c. not (is_digit c base)) ds ≡ length ds
none_other base [] all = refl
none_other base (c ∷ cs) all = position_by base c (position_or_len (λ d. not (is_digit d base)) cs) (length cs) all.0 (none_other base cs all.1)

no_position : (p : ℕ → Bool) (xs : List ℕ) → position_or_len p xs ≡ length xs → position p xs ≡ None
no_position p xs e = grind arith

wide : (radix : Radix) (n : ℕ) → n < 2 ^ 64 → n < base_of radix ^ 64
wide Octal n fits = omega arith
wide other n fits = omega arith

number_by : (max n : ℕ) (test : Bool) (at : Option ℕ) (value : ℕ) → test ≡ false → at ≡ None → value ≡ n → n ≤ max
    → cond test (Err Empty) (fault_or at (up_to max value)) ≡ Ok n
number_by max n test at value t a v small = rw (t, a, v) (grind arith)

-- what is written is read again
pub number_of-numeral : (radix : Radix) (n max : ℕ) → n < 2 ^ 64 → n ≤ max → number_of radix max (numeral radix n) ≡ Ok n
number_of-numeral radix n max fits small =
    let base : ℕ = base_of radix in
    let text : List ℕ = numeral radix n in
    let spelled = digits_is_IsNumeral base false (base_low radix) (base_high radix) n (wide radix n fits) in
    let some : 0 < length text = spelled.0.0 in
    number_by max n (length text == 0) (first_other radix text) (digits_value base text) (grind arith)
    (no_position (λ c. not (is_digit c base)) text (none_other base text spelled.0.1)) spelled.1 small

-- a number of 64 bits has at most 22 digits
pub length-numeral-le : (radix : Radix) (n : ℕ) → n < 2 ^ 64 → length (numeral radix n) ≤ 22
length-numeral-le Octal n fits = length-digits-le 21 8 n (inl refl) fits (omega arith)
length-numeral-le Decimal n fits = omega (arith, length-decimal-le 20 n (omega arith) (omega arith) fits)
length-numeral-le Hex n fits = omega (arith, length-digits-le 15 16 n (inr refl) fits (omega arith))
