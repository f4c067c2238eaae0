use Rattle.std.proofs.Common.{ap}
use Rattle.driver_machine.specs.Acts.{going_to, with_state}
use Rattle.driver_machine.specs.Events.{can_arrive}
use Rattle.driver_machine.specs.World.{drive_of}
use Rattle.hardware_table.specs.Adapter.{attention_lowered}
use Rattle.hardware_table.specs.Events.{attention_cleared}
use Rattle.hp_core.proofs.Places.{unit_channel}
use Rattle.hp_core.proofs.Units.{row_still}
use Rattle.driver_machine.specs.declared.Phase.TheVariants as phase
use Rattle.driver_machine.specs.declared.Task.TheVariants as task
use Rattle.hp_core.proofs.Scenes.{by_adapter}
use Rattle.hp_core.proofs.Deeds.{there, adapter_there}
use Rattle.hp_core.proofs.driver.Core.put_attend.Goals as goal

pub invariant_of-self : goal.invariant_of-self
invariant_of-self c = record { positions = row_still _ _ _ _ _ _ c.self.view_is c.from.ensures (there _ c.args.line _ _ c.requires.sound c.requires.may.0) c.index_mut.ensures.value _ _ c.self.invariant.positions (ap can_arrive c.attend.ensures); room = c.self.invariant.room }

pub returns : goal.returns
returns c = by_adapter _ _ _ _ _ _ c.requires.may.0 (unit_channel _ _ _ _ _ _ _ (going_to (phase.Due (task.Steps c.args.taken)) attention_cleared) _ _ _ _ (with_state (attention_lowered (drive_of c.args.u))) c.self.view_is c.from.ensures (there _ c.args.line _ _ c.requires.sound c.requires.may.0) c.index_mut.ensures.value c.attend.ensures c.from-2.ensures (adapter_there _ c.args.line _ _ c.requires.sound c.requires.may.0) c.index_mut-2.ensures.value c.lower.ensures)
