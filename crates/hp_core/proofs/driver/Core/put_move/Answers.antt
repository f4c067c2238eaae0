use Rattle.std.proofs.Common.{◌≡◌, true, ap, ◌∙◌}
use Rattle.hardware_table.specs.Drive.{is_ready}
use Rattle.driver_machine.specs.World.{UnitView}
use Rattle.driver_machine.specs.Events.{can_arrive}
use Rattle.hp_core.proofs.Parts.{room_set}
use Rattle.hp_core.proofs.Units.{of_unit, row_still, transfer_still}
use Rattle.hp_core.proofs.driver.Core.put_move.Goals as goal

pub invariant_of-self : goal.invariant_of-self
invariant_of-self c =
    let ready = of_unit _ _ _ _ _ _ c.self.view_is c.from-2.ensures c.requires.hand.unit c.index_mut.ensures.value (λ (v : UnitView). is_ready v.drive.work ≡ true) c.requires.ready in
    record {
      positions = row_still _ _ _ _ _ _ c.self.view_is c.from-2.ensures c.requires.hand.unit c.index_mut.ensures.value _ _ c.self.invariant.positions
          (ap can_arrive c.transfer.ensures ∙ transfer_still c.args.write c.args.segment.block c.index_mut.result.now.drive ready);
      room = room_set _ _ _ _ _ _ c.self.invariant.room c.load.ensures.slots;
    }
