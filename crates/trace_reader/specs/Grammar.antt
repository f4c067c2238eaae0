-- The grammar of a trace: which lines its bytes spell, or which of its lines is the first faulty one. A trace is read beside a
-- script, of which `script` are the lines that say something, and `count` is the number of all lines.
use Rattle.std.specs.Prelude.{◌≡◌, ◌⊎◌, ℕ, ◌+◌, ◌<◌, ◌≤◌, true, false, List, [], ◌∷◌, ◌++◌, length}
use Rattle.script_reader.specs.Lines.{pieces_of}
use Rattle.script_reader.specs.Stored.{Stored}
use Rattle.trace_reader.specs.declared.fault.TraceFault.{TraceFault}
use Rattle.trace_reader.specs.declared.fault.TraceFault.TheVariants.{Memory, Refused}
use Rattle.trace_reader.specs.declared.fault.TraceKind.{TraceKind}
use Rattle.trace_reader.specs.declared.fault.TraceKind.TheVariants.{Long, Word, Order, Script, Ended}
use Rattle.trace_reader.specs.declared.line.TraceLine.{TraceLine}
use Rattle.trace_reader.specs.Asked.{is_of_script}
use Rattle.trace_reader.specs.Ended.{is_under_way}
use Rattle.trace_reader.specs.Lines.{IsLine, line_text, line_number}

-- ONE LINE. A text says a line where it is just that line's text, and each of its numbers is in its range.
pub record Says (text : List ℕ) (line : TraceLine) : Type 0 where
  pub is_line : IsLine line
  pub spelled : text ++ 10 ∷ [] ≡ line_text line

-- the number of the last of some lines; 0 where there is none
abbrev pub last_behind : ℕ → List TraceLine → ℕ
last_behind number [] = number
last_behind number (line ∷ lines) = last_behind (line_number line) lines

abbrev pub last_number : List TraceLine → ℕ
last_number lines = last_behind 0 lines

-- A LINE MAY STAND behind others: its number is not below that of the last of them, it is of the script's run, and none of them
-- has ended its request.
pub record MayStand (script : Stored) (before : List TraceLine) (line : TraceLine) : Type 0 where
  pub ordered : last_number before ≤ line_number line
  pub of_script : is_of_script script.lines script.count line ≡ true
  pub under_way : is_under_way script.count before line ≡ true

-- What is wrong with a text behind some lines: it says no line; or its line's number falls; or, where that does not, its line is
-- none of the script's run; or, where it is, a line before has ended its request.
abbrev pub IsFaulty : Stored → List TraceLine → List ℕ → TraceKind → Type 0
IsFaulty script before text Word = (line : TraceLine) → ¬ Says text line
IsFaulty script before text Order = (line : TraceLine) × Says text line × (line_number line < last_number before)
IsFaulty script before text Script =
    (line : TraceLine) × Says text line × (last_number before ≤ line_number line) × (is_of_script script.lines script.count line ≡ false)
IsFaulty script before text Ended =
    (line : TraceLine) × Says text line × (last_number before ≤ line_number line) × (is_of_script script.lines script.count line ≡ true)
    × (is_under_way script.count before line ≡ false)
IsFaulty script before text Long = ⊥

-- WHOLE TRACES. Texts say these lines, one each, behind others.
abbrev pub Say : Stored → List TraceLine → List (List ℕ) → List TraceLine → Type 0
Say script before [] [] = Unit {0}
Say script before [] (line ∷ lines) = ⊥
Say script before (text ∷ texts) [] = ⊥
Say script before (text ∷ texts) (line ∷ lines) = Says text line × MayStand script before line × Say script (before ++ line ∷ []) texts lines

-- Bytes spell these lines. The texts are ended by LF each, but for the last, which may stand without it.
pub record Spells (script : Stored) (bytes : List ℕ) (lines : List TraceLine) : Type 0 where
  pub short : length bytes ≤ 268435456
  pub says : Say script [] (pieces_of bytes) lines

-- the first faulty text, by its number from 1
pub record FirstFault (script : Stored) (texts : List (List ℕ)) (number : ℕ) (kind : TraceKind) : Type 0 where
  pub before : List (List ℕ)
  pub text : List ℕ
  pub behind : List (List ℕ)
  pub lines : List TraceLine
  pub place : texts ≡ before ++ text ∷ behind
  pub good : Say script [] before lines
  pub number_is : number ≡ length before + 1
  pub faulty : IsFaulty script lines text kind

-- Bytes spell no trace of the script: they are too many, or there is a first faulty line.
abbrev pub IsRefused : Stored → List ℕ → ℕ → TraceKind → Type 0
IsRefused script bytes number kind =
    ((268435456 < length bytes) × (number ≡ 0) × (kind ≡ Long)) ⊎ ((length bytes ≤ 268435456) × FirstFault script (pieces_of bytes) number kind)

-- a fault of reading says which line is the first faulty one, or that there was no memory
abbrev pub Refuses : Stored → List ℕ → TraceFault → Type 0
Refuses script bytes Memory = Unit {0}
Refuses script bytes (Refused line kind) = IsRefused script bytes line kind
