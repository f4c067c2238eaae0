-- What each call of the player needs, and what it leaves.
use Rattle.std.specs.Prelude.{◌≡◌, false, []}
use Rattle.hp_driver.specs.Subsystem.{State}

-- IT MAY COME where no call of the driver failed, and no answer waits.
pub record MayGoOn (s : State) : Type 0 where
  pub going : s.failed ≡ false
  pub none_waits : s.world.answers ≡ []

-- Behind one that did not stop still no call failed, and there is room for as many requests.
pub record KeepsGoing (old new : State) : Type 0 where
  pub going : new.failed ≡ false
  pub outstanding : new.outstanding ≡ old.outstanding
