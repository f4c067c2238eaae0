-- What is seen of a run: the lines of the script, and the lines of the trace with the answers that they make.
use Rattle.std.specs.Prelude.{ℕ, Bool, List, [], ◌∷◌}
use Rattle.drive_registers.specs.declared.OffsetCode.{OffsetCode}
use Rattle.hardware_table.specs.declared.Moved.{Moved}
use Rattle.trace_replay.specs.requests.Requests.{Answer}
use Rattle.trace_replay.specs.Script.{Input, Numbered}

-- What is done at a unit: the commands, and what the unit, its adapter and its request come to. `Transfer` is WCOM or RCOM
-- for so many sectors from a block of the pack on; a sector was tried with its verdict; a try has the block that failed and
-- how often it has; `End` makes the request's answer.
pub data Deed : Type 0 where
  Search : (cylinder sector : ℕ) → Deed
  Seek : (cylinder : ℕ) → Deed
  Recal : Deed
  Offset : (code : OffsetCode) → Deed
  Centre : Deed
  Clear : Deed
  Pack : Deed
  Transfer : (write : Bool) (block count : ℕ) → Deed
  Arrive : Deed
  Sector : (block : ℕ) (verdict : Moved) → Deed
  Intr : Deed
  Try : (block failures : ℕ) → Deed
  Attn : Deed
  End : (answer : Answer) → Deed

-- A line of the script is played; a line of the trace says a deed at a unit for the request of an id; an event found nothing
-- to do. Each has the number of the script's line.
pub data Moment : Type 0 where
  Played : (line : ℕ) (input : Input) → Moment
  Told : (line unit id : ℕ) (deed : Deed) → Moment
  Idle : (line : ℕ) → Moment

-- the lines of the script that are played, in order
abbrev pub played : List Moment → List Numbered
played [] = []
played (Played line input ∷ ms) = record { line = line; input = input } ∷ played ms
played (Told line unit id deed ∷ ms) = played ms
played (Idle line ∷ ms) = played ms

-- an answer, with its line and its id
pub record Answered : Type 0 where
  pub line : ℕ
  pub id : ℕ
  pub answer : Answer

-- THE ANSWERS of a run: those of its end lines, in their order.
abbrev pub answers_in : List Moment → List Answered
answers_in [] = []
answers_in (Told line unit id (End answer) ∷ ms) = record { line = line; id = id; answer = answer } ∷ answers_in ms
answers_in (m ∷ ms) = answers_in ms
