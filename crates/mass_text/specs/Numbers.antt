-- Numbers as text.
use Rattle.std.specs.Prelude.{ℕ, ◌==◌, nat_le, not, false, if◌then◌else◌, List, length, Option, None, Some, Result, Ok, Err, position}
use Rattle.std.specs.Char.{is_digit}
use Rattle.std.specs.Fmt.{digits}
use Rattle.std.specs.Str.Parse.{digits_value}
use Rattle.mass_text.specs.declared.numbers.Radix.{Radix}
use Rattle.mass_text.specs.declared.numbers.Radix.TheVariants.{Octal, Decimal, Hex}
use Rattle.mass_text.specs.declared.numbers.NumberFault.{NumberFault}
use Rattle.mass_text.specs.declared.numbers.NumberFault.TheVariants.{Empty, Digit, Large}

abbrev pub base_of : Radix → ℕ
base_of Octal = 8
base_of Decimal = 10
base_of Hex = 16

-- the digits that write a number, with no leading zero; those of 0 are one zero
abbrev pub numeral : Radix → ℕ → List ℕ
numeral radix n = digits (base_of radix) false n

-- the first place that is no digit; a hexadecimal digit is of either case
abbrev pub first_other : Radix → List ℕ → Option ℕ
first_other radix text = position (λ c. not (is_digit c (base_of radix))) text

-- a number up to a bound
abbrev pub up_to : ℕ → ℕ → Result ℕ NumberFault
up_to max n = if nat_le n max then Ok n else Err Large

-- the fault at a place, or else what the digits give
abbrev pub fault_or : Option ℕ → Result ℕ NumberFault → Result ℕ NumberFault
fault_or (Some at) result = Err (Digit at)
fault_or None result = result

-- what a text gives as a number up to a bound
abbrev pub number_of : Radix → ℕ → List ℕ → Result ℕ NumberFault
number_of radix max text =
    if length text == 0 then Err Empty
    else fault_or (first_other radix text) (up_to max (digits_value (base_of radix) text))
