-- The oldest answer that waits, as it is said.
use Rattle.std.specs.Prelude.{◌≡◌, ℕ, ◌≤◌, List, [], ◌∷◌, length, Some, slice_index_or}
use Rattle.trace_replay.specs.Moments.{Answered}
use Rattle.trace_replay.specs.declared.requests.answers.Answer.{Answer}
use Rattle.trace_replay.specs.declared.requests.answers.AnswerKind.{AnswerKind}
use Rattle.driver_machine.specs.declared.Made.{Made}
use Rattle.driver_machine.specs.World.{World}
use Rattle.driver_machine.specs.Lines.{answer_told}
use Rattle.driver_laws.specs.answers.Waiting.{blocks_for}
use Rattle.trace_lines.specs.answers.AnswerText.{answer_line, answer_text, blocks_text}
use Rattle.hp_driver.specs.Subsystem.{IsOldest, Reads}

-- the blocks that its request has
abbrev pub first_blocks : World → List Made → List (List ℕ)
first_blocks w [] = []
first_blocks w (made ∷ rest) = blocks_for w made.slot

-- the answer as it is told, its text, and what is said behind its line
abbrev pub first_told : World → Answer → Answered
first_told w answer = record { line = answer.at; id = answer.id; answer = answer_told answer.kind (first_blocks w w.answers) }

abbrev pub first_text : World → Answer → List ℕ
first_text w answer = answer_text (first_told w answer)

abbrev pub first_line : World → Answer → List ℕ
first_line w answer = answer_line answer.at answer.id (answer_told answer.kind (first_blocks w w.answers))

abbrev pub first_rest : World → AnswerKind → List ℕ
first_rest w kind = blocks_text (answer_told kind (first_blocks w w.answers))

-- THE OLDEST ANSWER is this one, or is of this kind
pub record IsFirst (w : World) (answer : Answer) : Type 0 where
  pub made : Made
  pub oldest : IsOldest w made
  pub is : made.answer ≡ answer

pub record IsFirstKind (w : World) (kind : AnswerKind) : Type 0 where
  pub made : Made
  pub oldest : IsOldest w made
  pub is : made.answer.kind ≡ kind

-- ONE BLOCK of the read that the oldest answer is of, with its size
pub record HasBlock (w : World) (k size : ℕ) : Type 0 where
  pub reads : Reads w k
  pub slot : ℕ
  pub slot_is : reads.made.slot ≡ Some slot
  pub long : length (slice_index_or (first_blocks w w.answers) k []) ≡ size
  pub some : 1 ≤ size
  pub few : size ≤ 512
