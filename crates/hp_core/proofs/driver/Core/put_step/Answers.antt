use Rattle.std.proofs.Common.{◌≡◌, true}
use Rattle.driver_machine.specs.Acts.{going_to, stepping}
use Rattle.driver_machine.specs.World.{UnitView}
use Rattle.hardware_table.specs.Drive.{is_ready}
use Rattle.hp_core.proofs.Units.{of_unit, unit_inside}
use Rattle.hp_units.proofs.Rows.{others_at}
use Rattle.driver_machine.specs.declared.Phase.TheVariants as phase
use Rattle.hp_core.proofs.Scenes.{by_unit}
use Rattle.hp_core.proofs.Deeds.{there, step_can, step_narrow}
use Rattle.hp_core.proofs.driver.Core.put_step.Goals as goal

pub step-requires-clause-cylinder : goal.step-requires-clause-cylinder
step-requires-clause-cylinder c = step_narrow _ c.args.line _ _ c.requires.sound _ _ c.requires.may

pub step-requires-clause-ready : goal.step-requires-clause-ready
step-requires-clause-ready c = of_unit _ _ _ _ _ _ c.self.view_is c.from.ensures (there _ c.args.line _ _ c.requires.sound c.requires.may.0) c.index_mut.ensures.value (λ (v : UnitView). is_ready v.drive.work ≡ true) (step_can _ c.args.line _ _ c.requires.sound _ _ c.requires.may).ready

pub step-requires-clause-online : goal.step-requires-clause-online
step-requires-clause-online c = of_unit _ _ _ _ _ _ c.self.view_is c.from.ensures (there _ c.args.line _ _ c.requires.sound c.requires.may.0) c.index_mut.ensures.value (λ (v : UnitView). v.drive.online ≡ true) (step_can _ c.args.line _ _ c.requires.sound _ _ c.requires.may).online

pub noted-self-inside-requires-clause-others : goal.noted-self-inside-requires-clause-others
noted-self-inside-requires-clause-others c =
    others_at c.self.inside.row c.from.result c.args.u c.self.inside.units.items c.as_slice.result.now c.step.new.self c.from.ensures c.as_slice.ensures.value c.self.invariant.positions

pub returns : goal.returns
returns c = by_unit _ _ _ _ _ c.requires.may.0 (unit_inside _ _ _ _ _ _ c.self.view_is c.from.ensures (there _ c.args.line _ _ c.requires.sound c.requires.may.0) c.index_mut.ensures.value _ (going_to (phase.Positioning c.args.taken) (stepping c.args.step)) c.step.ensures)
