-- One field of a line.
use Rattle.std.proofs.Common.{◌≡◌, ℕ, List, ◌∷◌, sym, ap, ◌∙◌, Result, Ok, Err}
use Rattle.script_lines.specs.declared.kinds.ScriptKind.{ScriptKind}
use Rattle.script_lines.specs.Fields.{and_then}
use Rattle.script_lines.specs.Forms.{Form, field, Parses}

-- what a reader says of the first field is what the form of one field says
pub field_read : {A : Type 0} (reads : List ℕ → Result A ScriptKind) (before : List (List ℕ)) (text : List ℕ) (after : List (List ℕ)) (result : Result A ScriptKind) → before ≡ text ∷ after → result ≡ reads text → Parses (field reads) before result after
field_read reads before text after (Ok a) is e = ap (field reads) is ∙ ap (λ r. and_then r (λ a. Ok (a, after))) (sym e)
field_read reads before text after (Err kind) is e = ap (field reads) is ∙ ap (λ r. and_then r (λ a. Ok (a, after))) (sym e)

-- a form that says the same of other fields
pub parses_as : {A : Type 0} (form other : Form A) (before between : List (List ℕ)) (result : Result A ScriptKind) (after : List (List ℕ)) → form before ≡ other between → Parses other between result after → Parses form before result after
parses_as form other before between (Ok a) after e p = e ∙ p
parses_as form other before between (Err kind) after e p = e ∙ p
