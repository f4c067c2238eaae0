-- What is stored of a line, and what it stands for.
use Rattle.std.specs.Prelude.{◌≡◌, ℕ, Box, List, [], ◌∷◌, ◌++◌, Option, None, Some, map, slice_range, slice_index_or}
use Rattle.std.specs.Box.{box_value}
use Rattle.std.specs.declared.alloc.Global.{Global}
use Rattle.mass_text.specs.Pieces.{pieces}
use Rattle.script_lines.specs.declared.statement.Line.{Line}
use Rattle.script_lines.specs.declared.statement.Span.{Span}
use Rattle.script_lines.specs.declared.statement.Statement.{Statement}
use Rattle.script_lines.specs.Renamed.{renamed}
use Rattle.script_lines.specs.Known.{Numbered}

-- the digits on a line of the text: its eighth field
abbrev pub digits_at : List ℕ → Span → List ℕ
digits_at text span = slice_index_or (pieces (slice_range text span.start span.end)) 7 []

-- a line as it is stored, and what it stands for in a text
abbrev pub Kept : Type 0
Kept = Line Span (Box (List ℕ) Global)

abbrev pub seen : List ℕ → Kept → Numbered
seen text line = record { number = line.number; statement = renamed (digits_at text) box_value line.statement }

-- a script as it is stored: its text, its lines, and how many lines the text has
pub record Stored : Type 0 where
  pub text : List ℕ
  pub lines : List Kept
  pub count : ℕ

-- the lines that a stored script stands for
abbrev pub lines_in : Stored → List Numbered
lines_in script = map (seen script.text) script.lines

-- What was read of a line goes behind what is stored; where nothing was, all stays.
abbrev pub StoresRead : ℕ → Statement Span (List ℕ) → List Kept → List Kept → Type 0
StoresRead n read old new =
    (text : List ℕ) → map (seen text) new ≡ map (seen text) old ++ record { number = n; statement = renamed (digits_at text) (λ places. places) read } ∷ []

abbrev pub Stores : ℕ → Option (Statement Span (List ℕ)) → List Kept → List Kept → Type 0
Stores n None old new = new ≡ old
Stores n (Some read) old new = StoresRead n read old new
