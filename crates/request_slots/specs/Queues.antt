-- What contracts see of the answers that wait.
use Rattle.std.specs.Prelude.{ℕ, List}
use Rattle.driver_machine.specs.declared.Made.{Made}

-- those that wait, oldest first, and how many may
pub record AnswerQueue : Type 0 where
  pub made : List Made
  pub most : ℕ
