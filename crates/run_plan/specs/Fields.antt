-- LINES OF FIELDS: a tab stands between two of them, and LF behind the last.
use Rattle.std.specs.Prelude.{ℕ, ◌/◌, ◌%◌, List, ◌++◌, fold, codes, decimal}
use Rattle.run_plan.specs.declared.fields.Field.{Field}
use Rattle.run_plan.specs.declared.fields.Field.TheVariants as field

-- a number with two digits behind its point
abbrev pub hundredths : ℕ → ℕ → List ℕ
hundredths whole rest = decimal whole ++ codes "." ++ decimal (rest / 10 % 10) ++ decimal (rest % 10)

abbrev pub field_text : Field → List ℕ
field_text (field.Number n) = decimal n
field_text (field.Word word) = word.now
field_text (field.Hundredths whole rest) = hundredths whole rest

abbrev pub with_field : List ℕ → List ℕ → List ℕ
with_field text field = text ++ codes "\t" ++ field

-- behind a text, a line of a first field and others
abbrev pub with_line : List ℕ → List (List ℕ) → List ℕ → List ℕ
with_line first others text = fold with_field (text ++ first) others ++ codes "\n"
