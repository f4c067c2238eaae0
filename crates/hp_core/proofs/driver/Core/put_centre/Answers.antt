use Rattle.std.proofs.Common.{◌≡◌, true, ap}
use Rattle.driver_machine.specs.Acts.{centred, with_drive}
use Rattle.driver_machine.specs.Events.{can_arrive}
use Rattle.driver_machine.specs.World.{UnitView}
use Rattle.hardware_table.specs.Drive.{is_ready}
use Rattle.hp_core.proofs.Units.{of_unit, row_still, unit_inside}
use Rattle.hp_core.proofs.Scenes.{by_unit}
use Rattle.hp_core.proofs.Deeds.{there, centre_ready}
use Rattle.hp_core.proofs.driver.Core.put_centre.Goals as goal

pub centre-requires : goal.centre-requires
centre-requires c = record { ready = of_unit _ _ _ _ _ _ c.self.view_is c.from.ensures (there _ c.args.line _ _ c.requires.sound c.requires.may.0) c.index_mut.ensures.value (λ (v : UnitView). is_ready v.drive.work ≡ true) (centre_ready _ c.args.line _ _ c.requires.sound c.requires.may) }

pub invariant_of-self : goal.invariant_of-self
invariant_of-self c = record { positions = row_still _ _ _ _ _ _ c.self.view_is c.from.ensures (there _ c.args.line _ _ c.requires.sound c.requires.may.0) c.index_mut.ensures.value _ _ c.self.invariant.positions (ap can_arrive c.centre.ensures); room = c.self.invariant.room }

pub returns : goal.returns
returns c = by_unit _ _ _ _ _ c.requires.may.0 (unit_inside _ _ _ _ _ _ c.self.view_is c.from.ensures (there _ c.args.line _ _ c.requires.sound c.requires.may.0) c.index_mut.ensures.value _ (with_drive centred) c.centre.ensures)
