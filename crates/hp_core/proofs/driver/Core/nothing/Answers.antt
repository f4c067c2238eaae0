use Rattle.std.proofs.Common.{refl}
use Rattle.hp_core.proofs.Telling.{told_act}
use Rattle.hp_core.proofs.driver.Core.nothing.Goals as goal

pub returns : goal.returns
returns g c = told_act _ _ _ _ _ _ _ _ _ _ _ (record { reads = λ w p. tt; packs = λ w p. refl }) tt refl refl c.tell_idle.ensures
