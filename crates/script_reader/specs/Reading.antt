-- How the reader goes through a script, line by line: an inner form, which is proved to give what the grammar says.
use Rattle.std.specs.Prelude.{◌≡◌, ℕ, ◌+◌, List, [], ◌∷◌, Result, Ok, Err}
use Rattle.script_lines.specs.declared.kinds.ScriptKind.{ScriptKind}
use Rattle.script_reader.specs.declared.fault.ReadFault.{ReadFault}
use Rattle.script_reader.specs.declared.fault.ReadFault.TheVariants.{Memory, Refused}
use Rattle.script_lines.specs.declared.dialect.Dialect.{Dialect}
use Rattle.script_lines.specs.Known.{Numbered, known_of}
use Rattle.script_reader.specs.Grammar.{line_says, more, IsRefused}

-- the number of the first faulty line, and what is wrong with it
pub record Refusal : Type 0 where
  pub line : ℕ
  pub kind : ScriptKind

-- the lines that were read, and the number of the next one
pub record Read : Type 0 where
  pub lines : List Numbered
  pub next : ℕ

abbrev pub on : {A B C : Type 0} → Result A B → (A → C) → (B → C) → C
on (Ok a) f g = f a
on (Err b) f g = g b

-- the lines of a script, after those that were read
abbrev pub reading : Dialect → List Numbered → ℕ → List (List ℕ) → Result Read Refusal
reading dialect lines n [] = Ok (record { lines = lines; next = n })
reading dialect lines n (text ∷ texts) =
    on (line_says dialect (known_of lines) n text) (λ entry. reading dialect (more lines n entry) (n + 1) texts) (λ kind. Err (record { line = n; kind = kind }))

-- what a reader refuses is what it found, unless memory ran out
abbrev pub Finds : ReadFault → Result Read Refusal → Type 0
Finds Memory found = Unit {0}
Finds (Refused line kind) found = found ≡ Err (record { line = line; kind = kind })

-- a fault of reading says which line is the first faulty one, or that there was no memory
abbrev pub Refuses : Dialect → ReadFault → List ℕ → Type 0
Refuses dialect Memory bytes = Unit {0}
Refuses dialect (Refused line kind) bytes = IsRefused dialect bytes line kind
