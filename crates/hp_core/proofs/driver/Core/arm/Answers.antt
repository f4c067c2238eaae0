use Rattle.std.proofs.Common.{◌<◌, ◌+◌, ◌^◌, refl, sym, ap, subst}
use Rattle.driver_machine.specs.Acts.{with_drive}
use Rattle.driver_machine.specs.Events.{can_arrive}
use Rattle.driver_machine.specs.World.{UnitView}
use Rattle.hardware_table.specs.Events.{fault_armed, times_armed}
use Rattle.hp_core.proofs.Telling.{silent_act}
use Rattle.hp_core.proofs.Units.{of_unit, row_still, unit_inside}
use Rattle.hp_core.proofs.driver.Core.arm.Goals as goal

pub arm-requires-clause-some : goal.arm-requires-clause-some
arm-requires-clause-some c = c.requires.may.1

pub arm-requires-clause-few : goal.arm-requires-clause-few
arm-requires-clause-few c = c.requires.may.2

pub arm-requires-clause-room : goal.arm-requires-clause-room
arm-requires-clause-room c = of_unit _ _ _ _ _ _ c.self.view_is c.from.ensures (subst (λ n. c.args.u < n) (sym c.requires.sound.units) c.requires.may.0.unit) c.index_mut.ensures.value (λ (v : UnitView). times_armed c.args.kind v.drive.armed + c.args.times < 2 ^ 63) c.requires.may.3

pub invariant_of-self : goal.invariant_of-self
invariant_of-self c = record { positions = row_still _ _ _ _ _ _ c.self.view_is c.from.ensures (subst (λ n. c.args.u < n) (sym c.requires.sound.units) c.requires.may.0.unit) c.index_mut.ensures.value _ _ c.self.invariant.positions (ap can_arrive c.arm.ensures); room = c.self.invariant.room }

pub returns : goal.returns
returns c = silent_act _ _ _ (record { reads = λ w p. tt; packs = λ w p. refl }) c.requires.may refl (unit_inside _ _ _ _ _ _ c.self.view_is c.from.ensures (subst (λ n. c.args.u < n) (sym c.requires.sound.units) c.requires.may.0.unit) c.index_mut.ensures.value _ (with_drive (fault_armed c.args.kind c.args.times)) c.arm.ensures)
