use Rattle.hp_driver.proofs.Bytes.{holds_maps}
use Rattle.hp_driver.proofs.subsystem.Subsystem.law.Goals as goal

pub returns-clause-bytes : goal.returns-clause-bytes
returns-clause-bytes c = rw (← c.self.view_is) (holds_maps c.self.inside.core.world c.self.invariant.sound)
