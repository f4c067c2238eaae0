-- The answers that wait are given and taken, the oldest first.
use Rattle.std.specs.Prelude.{◌≡◌, ℕ, ◌≤◌, List, [], ◌∷◌, length, Some, slice_index_or}
use Rattle.trace_replay.specs.declared.requests.answers.AnswerKind.{AnswerKind}
use Rattle.driver_machine.specs.declared.Made.{Made}
use Rattle.driver_machine.specs.World.{World}
use Rattle.driver_laws.specs.answers.Waiting.{blocks_for}
use Rattle.hp_driver.specs.Subsystem.{IsOldest, Reads}

-- the blocks that the request of the oldest one has
abbrev pub blocks_of : World → List Made → List (List ℕ)
blocks_of w [] = []
blocks_of w (made ∷ rest) = blocks_for w made.slot

abbrev pub oldest_blocks : World → List (List ℕ)
oldest_blocks w = blocks_of w w.answers

-- THE OLDEST ANSWER is of this kind.
pub record IsOldestKind (w : World) (kind : AnswerKind) : Type 0 where
  pub made : Made
  pub oldest : IsOldest w made
  pub is : made.answer.kind ≡ kind

-- ONE BLOCK of the read that it is of, with its size
pub record HasBlock (w : World) (k size : ℕ) : Type 0 where
  pub reads : Reads w k
  pub slot : ℕ
  pub slot_is : reads.made.slot ≡ Some slot
  pub long : length (slice_index_or (oldest_blocks w) k []) ≡ size
  pub few : size ≤ 512
