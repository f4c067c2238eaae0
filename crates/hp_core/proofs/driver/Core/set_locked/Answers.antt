use Rattle.std.proofs.Common.{◌<◌, refl, sym, ap, subst}
use Rattle.driver_machine.specs.Acts.{with_drive}
use Rattle.driver_machine.specs.Events.{can_arrive}
use Rattle.hardware_table.specs.Events.{locked_set}
use Rattle.hp_core.proofs.Telling.{silent_act}
use Rattle.hp_core.proofs.Units.{row_still, unit_inside}
use Rattle.hp_core.proofs.driver.Core.set_locked.Goals as goal

pub invariant_of-self : goal.invariant_of-self
invariant_of-self c = record { positions = row_still _ _ _ _ _ _ c.self.view_is c.from.ensures (subst (λ n. c.args.u < n) (sym c.requires.sound.units) c.requires.may.unit) c.index_mut.ensures.value _ _ c.self.invariant.positions (ap can_arrive c.set_locked.ensures); room = c.self.invariant.room }

pub returns : goal.returns
returns c = silent_act _ _ _ (record { reads = λ w p. tt; packs = λ w p. refl }) c.requires.may refl (unit_inside _ _ _ _ _ _ c.self.view_is c.from.ensures (subst (λ n. c.args.u < n) (sym c.requires.sound.units) c.requires.may.unit) c.index_mut.ensures.value _ (with_drive (locked_set c.args.on)) c.set_locked.ensures)
