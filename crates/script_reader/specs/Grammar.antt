-- The grammar of a script: which numbered lines its bytes spell, or which line is the first faulty one. `dialect` says
-- which lines a script may have.
use Rattle.std.specs.Prelude.{◌≡◌, ◌⊎◌, ℕ, ◌+◌, ◌<◌, ◌≤◌, ◌==◌, nat_lt, Bool, if◌then◌else◌, List, [], ◌∷◌, ◌++◌, length, slice_index, Option, None, Some, Result, Ok, Err}
use Rattle.mass_text.specs.Pieces.{pieces}
use Rattle.script_lines.specs.declared.kinds.ScriptKind.{ScriptKind}
use Rattle.script_lines.specs.declared.kinds.ScriptKind.TheVariants.{Word, TooMany, LineLong, ScriptLong}
use Rattle.script_lines.specs.declared.dialect.Dialect.{Dialect}
use Rattle.script_lines.specs.Fields.{and_then, some_or}
use Rattle.script_lines.specs.Dialects.{said, word_of, verbs_of}
use Rattle.script_lines.specs.Known.{Known, Said, Numbered, known_of}
use Rattle.script_reader.specs.Lines.{lines_of}
use Rattle.script_lines.specs.Words.{named}

-- ONE LINE. What fields say; a line with none is passed over
abbrev pub entry : Dialect → Known → List (List ℕ) → Result (Option Said) ScriptKind
entry dialect known [] = Ok None
entry dialect known (word ∷ fields) =
    and_then (some_or Word (named (word_of dialect) (verbs_of dialect) word)) (λ verb. and_then (said dialect known verb fields) (λ s. Ok (Some s)))

-- the first byte is `#`
abbrev pub is_comment : List ℕ → Bool
is_comment text = slice_index text 0 == 35

-- what line number `n` says, or None where it is passed over
abbrev pub line_says : Dialect → Known → ℕ → List ℕ → Result (Option Said) ScriptKind
line_says dialect known n text =
    if nat_lt 1000000 n then Err TooMany
    else if nat_lt 140000 (length text) then Err LineLong
    else if is_comment text then Ok None
    else entry dialect known (pieces text)

-- WHOLE TEXTS. The lines so far, with what line number `n` says.
abbrev pub more : List Numbered → ℕ → Option Said → List Numbered
more lines n None = lines
more lines n (Some statement) = lines ++ record { number = n; statement = statement } ∷ []

-- behind some lines, these texts, of which the first has number `n`, say the rest of `all`
abbrev pub SayTheRest : Dialect → List Numbered → ℕ → List (List ℕ) → List Numbered → Type 0
SayTheRest dialect lines n [] all = lines ≡ all
SayTheRest dialect lines n (text ∷ texts) all =
    (entry : Option Said) × (line_says dialect (known_of lines) n text ≡ Ok entry) × SayTheRest dialect (more lines n entry) (n + 1) texts all

-- Bytes spell these lines, and the number of all lines is `count`, those that are passed over among them.
pub record Spells (dialect : Dialect) (bytes : List ℕ) (lines : List Numbered) (count : ℕ) : Type 0 where
  pub short : length bytes ≤ 16777216
  pub says : SayTheRest dialect [] 1 (lines_of bytes) lines
  pub counted : count ≡ length (lines_of bytes)

-- the first faulty text, by its number from 1
pub record FirstFault (dialect : Dialect) (texts : List (List ℕ)) (number : ℕ) (kind : ScriptKind) : Type 0 where
  pub before : List (List ℕ)
  pub text : List ℕ
  pub behind : List (List ℕ)
  pub lines : List Numbered
  pub place : texts ≡ before ++ text ∷ behind
  pub good : SayTheRest dialect [] 1 before lines
  pub number_is : number ≡ length before + 1
  pub faulty : line_says dialect (known_of lines) number text ≡ Err kind

-- Bytes spell no script: they are too many, or there is a first faulty line.
abbrev pub IsRefused : Dialect → List ℕ → ℕ → ScriptKind → Type 0
IsRefused dialect bytes number kind =
    ((16777216 < length bytes) × (number ≡ 0) × (kind ≡ ScriptLong))
    ⊎ ((length bytes ≤ 16777216) × FirstFault dialect (lines_of bytes) number kind)
