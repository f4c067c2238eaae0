-- The fields that several commands have.
use Rattle.std.specs.Prelude.{ℕ, List, [], ◌∷◌, Option, None, Some}
use Rattle.std.specs.List.{find}
use Rattle.std.specs.Result.{result_ok}
use Rattle.std.specs.Str.{bytes_eq}
use Rattle.pack_geometry.specs.declared.DriveKind.{DriveKind}
use Rattle.pack_geometry.specs.declared.DriveKind.TheVariants.{Rp06, Rm03, Rm05}
use Rattle.pack_geometry.specs.Geometry.{kind_word}
use Rattle.mass_text.specs.Numbers.{number_of}
use Rattle.mass_text.specs.declared.numbers.Radix.TheVariants.{Decimal}

-- a unit is 0 to 31, in decimal
abbrev pub unit_named : List ℕ → Option ℕ
unit_named word = result_ok (number_of Decimal 31 word)

-- `rp06`, `rm03` or `rm05`
abbrev pub kinds : List DriveKind
kinds = Rp06 ∷ Rm03 ∷ Rm05 ∷ []

abbrev pub kind_named : List ℕ → Option DriveKind
kind_named word = find (λ kind. bytes_eq word (kind_word kind)) kinds

-- what two words say together, or three, where each of them names something
abbrev pub of_two : {A B C : Type 0} → (A → B → C) → Option A → Option B → Option C
of_two make (Some first) (Some second) = Some (make first second)
of_two make first second = None

abbrev pub of_three : {A B C D : Type 0} → (A → B → C → D) → Option A → Option B → Option C → Option D
of_three make (Some first) (Some second) (Some third) = Some (make first second third)
of_three make first second third = None
