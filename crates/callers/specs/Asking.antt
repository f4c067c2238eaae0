-- A driver of two drives between two calls, as a caller counts what it asked.
use Rattle.std.specs.Prelude.{◌≡◌, ℕ, ◌<◌, false, List, [], Contains}
use Rattle.driver_machine.specs.World.{World}
use Rattle.driver_machine.specs.Guards.{IsSetUp}
use Rattle.driver_laws.specs.answers.Ids.{AreOf}
use Rattle.driver_laws.specs.answers.Counts.{IsWithin}
use Rattle.hp_driver.specs.Subsystem.{State}

-- THE FIRST SO MANY REQUESTS were submitted, with the numbers below that as their ids, to units 0 and 1. No other request stands in a slot.
pub record Fits (asked : ℕ) (w : World) : Type 0 where
  pub units : (u : ℕ) → u < 2 → IsSetUp w u
  pub ids : List ℕ
  pub of : AreOf ids w
  pub below : (id : ℕ) → Contains ids id → id < asked
  pub noises : ℕ
  pub faults : ℕ
  pub within : IsWithin asked noises faults w

-- THE NEXT CALL MAY COME: no call failed, and no answer waits.
pub record MayCall (s : State) : Type 0 where
  pub going : s.failed ≡ false
  pub none_waits : s.world.answers ≡ []

pub record MayGoOn (asked : ℕ) (s : State) : Type 0 where
  pub call : MayCall s
  pub fits : Fits asked s.world

-- A CALL THAT ENDED leaves that as it was, and asked for nothing.
pub record GoesOn (old new : State) : Type 0 where
  pub call : MayCall new
  pub fits : (asked : ℕ) → Fits asked old.world → Fits asked new.world
  pub outstanding : new.outstanding ≡ old.outstanding
