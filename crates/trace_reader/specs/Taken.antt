-- One word that a reader takes from the front of some.
use Rattle.std.specs.Prelude.{◌≡◌, ℕ, List, Result, Ok, Err}
use Rattle.trace_reader.specs.declared.fault.TraceKind.{TraceKind}
use Rattle.trace_reader.specs.Reading.{Form, first}

-- what one word says, and the words behind it
abbrev pub one : {A : Type 0} → (List ℕ → Result A TraceKind) → Form (A × List (List ℕ))
one reads = first reads (λ a words. Ok (a, words))

-- a reader took from some words what the first one says
abbrev pub Takes : {A : Type 0} → (List ℕ → Result A TraceKind) → List (List ℕ) → Result A TraceKind → List (List ℕ) → Type 0
Takes reads before (Ok a) after = one reads before ≡ Ok (a, after)
Takes reads before (Err kind) after = one reads before ≡ Err kind
