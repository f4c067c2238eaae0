-- The text of an exercise.
use Rattle.std.specs.Prelude.{ℕ, List, ◌++◌, codes, decimal}
use Rattle.trace_lines.specs.declared.answers.tally.Tally.{Tally}

-- `exercise N`, `requests R`, `answers A ok K` and `text B sum S`
unfoldable pub exercise_text : ℕ → Tally → List ℕ
exercise_text number tally =
    codes "exercise " ++ decimal number ++ codes "\nrequests " ++ decimal tally.requests ++ codes "\nanswers " ++ decimal tally.answers
    ++ codes " ok " ++ decimal tally.ok ++ codes "\ntext " ++ decimal tally.text ++ codes " sum " ++ decimal tally.sum ++ codes "\n"
