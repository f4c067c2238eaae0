use Rattle.std.proofs.Common.{◌<◌, refl, sym, ap, subst}
use Rattle.driver_machine.specs.Acts.{with_drive}
use Rattle.driver_machine.specs.Events.{can_arrive}
use Rattle.driver_machine.specs.World.{UnitView}
use Rattle.hardware_table.specs.Events.{turned}
use Rattle.hp_core.proofs.Telling.{silent_act}
use Rattle.hp_core.proofs.Units.{of_unit, row_still, unit_inside}
use Rattle.pack_geometry.specs.Geometry.{sectors_of}
use Rattle.hp_core.proofs.driver.Core.turn.Goals as goal

pub turn-requires : goal.turn-requires
turn-requires c = of_unit _ _ _ _ _ _ c.self.view_is c.from.ensures (subst (λ n. c.args.u < n) (sym c.requires.sound.units) c.requires.may.0.unit) c.index_mut.ensures.value (λ (v : UnitView). c.args.sector < sectors_of v.drive.kind) c.requires.may.1

pub invariant_of-self : goal.invariant_of-self
invariant_of-self c = record { positions = row_still _ _ _ _ _ _ c.self.view_is c.from.ensures (subst (λ n. c.args.u < n) (sym c.requires.sound.units) c.requires.may.0.unit) c.index_mut.ensures.value _ _ c.self.invariant.positions (ap can_arrive c.turn.ensures); room = c.self.invariant.room }

pub returns : goal.returns
returns c = silent_act _ _ _ (record { reads = λ w p. tt; packs = λ w p. refl }) c.requires.may refl (unit_inside _ _ _ _ _ _ c.self.view_is c.from.ensures (subst (λ n. c.args.u < n) (sym c.requires.sound.units) c.requires.may.0.unit) c.index_mut.ensures.value _ (with_drive (turned c.args.sector)) c.turn.ensures)
