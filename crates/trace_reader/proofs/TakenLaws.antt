-- One word that was taken, in front of those behind it.
use Rattle.std.proofs.Common.{◌≡◌, ℕ, List, [], ◌∷◌, refl, sym, ap, ◌∙◌, Result, Ok, Err}
use Rattle.script_lines.specs.Fields.{and_then}
use Rattle.trace_reader.specs.declared.fault.TraceKind.{TraceKind}
use Rattle.trace_reader.specs.Reading.{Form, first}
use Rattle.trace_reader.specs.Taken.{one, Takes}

-- what a reader says of the first word
pub one_taken : {A : Type 0} (reads : List ℕ → Result A TraceKind) (before : List (List ℕ)) (word : List ℕ) (after : List (List ℕ)) (result : Result A TraceKind) → before ≡ word ∷ after → result ≡ reads word → Takes reads before result after
one_taken reads before word after (Ok a) is e = ap (one reads) is ∙ ap (λ r. and_then r (λ a. Ok (a, after))) (sym e)
one_taken reads before word after (Err kind) is e = ap (one reads) is ∙ ap (λ r. and_then r (λ a. Ok (a, after))) (sym e)

-- a form of a first word, by what was taken
joined : {A B : Type 0} (reads : List ℕ → Result A TraceKind) (rest : A → Form B) (before : List (List ℕ)) → first reads rest before ≡ and_then (one reads before) (λ p. rest p.0 p.1)
joined reads rest [] = refl
joined {A} {B} reads rest (word ∷ words) = at (reads word)
  where
    at : (r : Result A TraceKind) → and_then r (λ a. rest a words) ≡ and_then {A = A × List (List ℕ)} (and_then r (λ a. Ok (a, words))) (λ p. rest p.0 p.1)
    at (Ok a) = refl
    at (Err kind) = refl

pub first_taken : {A B : Type 0} (reads : List ℕ → Result A TraceKind) (rest : A → Form B) (before after : List (List ℕ)) (a : A) (result : Result B TraceKind) → one reads before ≡ Ok (a, after) → result ≡ rest a after → result ≡ first reads rest before
first_taken reads rest before after a result e f = f ∙ sym (joined reads rest before ∙ ap (λ r. and_then r (λ p. rest p.0 p.1)) e)

pub first_fault : {A B : Type 0} (reads : List ℕ → Result A TraceKind) (rest : A → Form B) (before : List (List ℕ)) (kind : TraceKind) → one reads before ≡ Err kind → ◌≡◌ {A = Result B TraceKind} (Err kind) (first reads rest before)
first_fault reads rest before kind e = sym (joined reads rest before ∙ ap (λ r. and_then r (λ p. rest p.0 p.1)) e)
