-- A trace that is read a line at a time.
use Rattle.std.specs.Prelude.{◌≡◌, ℕ, ◌≤◌, List, [], ◌∷◌, ◌++◌, length, Option, Some, None}
use Rattle.script_reader.specs.Lines.{pieces_of}
use Rattle.script_reader.specs.Stored.{Stored}
use Rattle.trace_reader.specs.declared.line.TraceLine.{TraceLine}
use Rattle.trace_reader.specs.declared.line.ReadLine.{ReadLine}
use Rattle.trace_reader.specs.declared.ended.Ended.{Ended}
use Rattle.trace_reader.specs.Ended.{KeepsEnds}
use Rattle.trace_reader.specs.Grammar.{Says, Spells, last_number}
use Rattle.trace_reader.specs.Reading.{reading}

-- HOW FAR IT WAS READ: of a trace's bytes the texts to come, with the number of the line before, the requests that have ended, and
-- the number of the next text
pub record Left : Type 0 where
  pub script : Stored
  pub bytes : List ℕ
  pub texts : List (List ℕ)
  pub before : ℕ
  pub ended : Ended
  pub number : ℕ

-- Just these lines were read: with those to come they are what all of its texts say, or its first fault is to come.
pub record HasRead (left : Left) (lines : List TraceLine) : Type 0 where
  pub short : length left.bytes ≤ 268435456
  pub before : left.before ≡ last_number lines
  pub ended : KeepsEnds left.ended lines
  pub same : reading left.script lines left.number left.texts ≡ reading left.script [] 1 (pieces_of left.bytes)

-- A LINE MORE: the next text, and what it says
pub record ReadsOn (old new : Left) (line : TraceLine) (text : List ℕ) : Type 0 where
  pub says : Says text line
  pub texts : old.texts ≡ text ∷ new.texts
  pub script : new.script ≡ old.script
  pub bytes : new.bytes ≡ old.bytes
  pub read : (lines : List TraceLine) → HasRead old lines → HasRead new (lines ++ line ∷ [])

-- or, where no text is left, the lines so far are those of the whole trace
abbrev pub Reads : Left → Left → Option ReadLine → Type 0
Reads old new None = (lines : List TraceLine) → HasRead old lines → Spells old.script old.bytes lines
Reads old new (Some found) = ReadsOn old new found.line found.text.now
