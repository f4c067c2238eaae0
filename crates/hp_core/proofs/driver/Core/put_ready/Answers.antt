use Rattle.std.proofs.Common.{◌≡◌, ◌<◌, Some, length, sym, ap, subst}
use Rattle.driver_machine.specs.Acts.{waits_too}
use Rattle.driver_machine.specs.Events.{can_arrive}
use Rattle.driver_machine.specs.World.{UnitView, AdapterView, transfer_of}
use Rattle.hp_core.proofs.Places.{adapter_here, unit_channel}
use Rattle.hp_core.proofs.Units.{of_unit, row_still}
use Rattle.driver_machine.specs.declared.Phase.TheVariants as phase
use Rattle.hp_core.specs.State.{State}
use Rattle.hp_core.proofs.Scenes.{by_adapter}
use Rattle.hp_core.proofs.Deeds.{there, adapter_there, ready_begun, ready_room}
use Rattle.hp_core.proofs.driver.Core.put_ready.Goals as goal

pub ready-requires : goal.ready-requires
ready-requires c = record { begun = of_unit _ _ _ _ _ _ c.self.view_is c.from.ensures (there _ c.args.line _ _ c.requires.sound c.requires.may.0) c.index_mut.ensures.value (λ (v : UnitView). v.transfer ≡ Some (transfer_of v)) (ready_begun _ c.args.line _ _ c.requires.sound c.requires.may) }

pub invariant_of-self : goal.invariant_of-self
invariant_of-self c = record { positions = row_still _ _ _ _ _ _ c.self.view_is c.from.ensures (there _ c.args.line _ _ c.requires.sound c.requires.may.0) c.index_mut.ensures.value _ _ c.self.invariant.positions (ap can_arrive c.ready.ensures); room = c.self.invariant.room }

pub returns : goal.returns
returns c = by_adapter _ _ _ _ _ _ c.requires.may.0 (unit_channel _ _ _ _ _ _ _ (λ (v : UnitView). record v { phase = phase.Queued; transfer = Some (transfer_of v) }) _ _ _ _ (waits_too c.args.u) c.self.view_is c.from.ensures (there _ c.args.line _ _ c.requires.sound c.requires.may.0) c.index_mut.ensures.value c.ready.ensures c.from-2.ensures (adapter_there _ c.args.line _ _ c.requires.sound c.requires.may.0) c.index_mut-2.ensures.value c.wait.ensures)

pub wait-requires : goal.wait-requires
wait-requires c = record {
  room = subst (λ (v : AdapterView). length v.queue < 32)
      (sym (adapter_here _ _ c.args.self.now.world _ _ c.from-2.ensures (ap (λ (s : State). s.world.adapters) c.self.view_is) (adapter_there _ c.args.line _ _ c.requires.sound c.requires.may.0) c.index_mut-2.ensures.value))
      (ready_room _ c.args.line _ _ c.requires.sound _ c.requires.may);
}
