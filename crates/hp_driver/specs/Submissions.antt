-- What a submission comes to.
use Rattle.std.specs.Prelude.{◌≡◌, ℕ, Bool, List, Result}
use Rattle.trace_replay.specs.requests.Requests.{Request}
use Rattle.trace_replay.specs.declared.requests.answers.AnswerKind.{AnswerKind}
use Rattle.driver_machine.specs.World.{World, Held}
use Rattle.driver_machine.specs.Acts.{Refuse}
use Rattle.driver_machine.specs.Events.{joined_acts}
use Rattle.driver_machine.specs.Guards.{Allowed, IsNew}
use Rattle.hp_core.specs.Asked.{Asked}
use Rattle.hp_core.specs.Requests.{IsHeldFor}
use Rattle.hp_core.specs.Passes.{Stop}
use Rattle.hp_core.specs.State.{State}
use Rattle.hp_driver.specs.Done.{DoesActs}

-- a request of this unit and id is to be refused so
pub record MayRefuse (w : World) (line u id : ℕ) (kind : AnswerKind) : Type 0 where
  pub request : Request
  pub unit : request.unit ≡ u
  pub named : request.id ≡ id
  pub may : Allowed w (Refuse line request kind)

-- A REQUEST JOINS in a free slot with these bytes, and then comes what is due at its unit and its adapter.
pub record Submits {O : Type 0} (tells : O → Bool) (taken : O → List ℕ) (faults : O → ℕ) (trace trace' : O) (old new : State) (result : Result (Unit {0}) Stop) (line : ℕ) (asked : Asked) (bytes : List ℕ) : Type 0 where
  pub slot : ℕ
  pub held : Held
  pub is : IsHeldFor asked bytes held
  pub may : IsNew old.world slot held
  pub does : DoesActs tells taken faults trace trace' old new result (joined_acts line slot held old.world)
