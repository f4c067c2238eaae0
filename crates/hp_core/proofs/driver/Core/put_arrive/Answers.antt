use Rattle.driver_machine.specs.Acts.{with_drive, with_state}
use Rattle.driver_machine.specs.World.{drive_of}
use Rattle.hardware_table.specs.Adapter.{attention_raised}
use Rattle.hardware_table.specs.Events.{arrived}
use Rattle.hp_core.proofs.Places.{unit_channel}
use Rattle.hp_units.proofs.Rows.{others_at}
use Rattle.hp_core.proofs.Scenes.{by_adapter}
use Rattle.hp_core.proofs.Deeds.{there, adapter_there}
use Rattle.hp_core.proofs.driver.Core.put_arrive.Goals as goal

pub noted-self-inside-requires-clause-others : goal.noted-self-inside-requires-clause-others
noted-self-inside-requires-clause-others c =
    others_at c.self.inside.row c.from.result c.args.u c.self.inside.units.items c.as_slice.result.now c.arrive.new.self c.from.ensures c.as_slice.ensures.value c.self.invariant.positions

pub returns : goal.returns
returns c = by_adapter _ _ _ _ _ _ c.requires.may.0 (unit_channel _ _ _ _ _ _ _ (with_drive arrived) _ _ _ _ (with_state (attention_raised (drive_of c.args.u))) c.self.view_is c.from.ensures (there _ c.args.line _ _ c.requires.sound c.requires.may.0) c.index_mut.ensures.value c.arrive.ensures c.from-2.ensures (adapter_there _ c.args.line _ _ c.requires.sound c.requires.may.0) c.index_mut-2.ensures.value c.raise.ensures)
