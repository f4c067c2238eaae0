use Rattle.std.proofs.Common.{◌≡◌, ◌<◌, ◌≤◌, ◌+◌, Some, ap}
use Rattle.driver_machine.specs.Acts.{with_transfer}
use Rattle.driver_machine.specs.Events.{can_arrive}
use Rattle.driver_machine.specs.World.{UnitView, transfer_of}
use Rattle.hp_core.proofs.Deeds.{goes_on, there}
use Rattle.hp_core.proofs.Scenes.{by_unit}
use Rattle.hp_core.proofs.Units.{of_unit, row_still, unit_inside}
use Rattle.transfer_engine.specs.State.{moved_on, segment_of}
use Rattle.driver_machine.specs.declared.Task.TheVariants as task
use Rattle.hp_core.proofs.driver.Core.put_continue.Goals as goal

pub go_on-requires-clause-begun : goal.go_on-requires-clause-begun
go_on-requires-clause-begun c = of_unit _ _ _ _ _ _ c.self.view_is c.from.ensures (there _ c.args.line _ _ c.requires.sound c.requires.may.0) c.index_mut.ensures.value (λ (v : UnitView). v.transfer ≡ Some (transfer_of v)) (goes_on _ c.args.line _ _ c.requires.sound _ c.requires.may).begun

pub go_on-requires-clause-some : goal.go_on-requires-clause-some
go_on-requires-clause-some c = (goes_on _ c.args.line _ _ c.requires.sound _ c.requires.may).some

pub go_on-requires-clause-moved : goal.go_on-requires-clause-moved
go_on-requires-clause-moved c = of_unit _ _ _ _ _ _ c.self.view_is c.from.ensures (there _ c.args.line _ _ c.requires.sound c.requires.may.0) c.index_mut.ensures.value (λ (v : UnitView). c.args.moved ≤ (segment_of (transfer_of v)).count) (goes_on _ c.args.line _ _ c.requires.sound _ c.requires.may).most

pub go_on-requires-clause-left : goal.go_on-requires-clause-left
go_on-requires-clause-left c = of_unit _ _ _ _ _ _ c.self.view_is c.from.ensures (there _ c.args.line _ _ c.requires.sound c.requires.may.0) c.index_mut.ensures.value (λ (v : UnitView). (transfer_of v).done + c.args.moved < (transfer_of v).job.count) (goes_on _ c.args.line _ _ c.requires.sound _ c.requires.may).left

pub invariant_of-self : goal.invariant_of-self
invariant_of-self c = record { positions = row_still _ _ _ _ _ _ c.self.view_is c.from.ensures (there _ c.args.line _ _ c.requires.sound c.requires.may.0) c.index_mut.ensures.value _ _ c.self.invariant.positions (ap can_arrive c.go_on.ensures); room = c.self.invariant.room }

pub returns : goal.returns
returns c =
    by_unit _ _ _ _ _ c.requires.may.0
    (unit_inside _ _ _ _ _ _ c.self.view_is c.from.ensures (there _ c.args.line _ _ c.requires.sound c.requires.may.0) c.index_mut.ensures.value _ (λ (v : UnitView). with_transfer (Some (moved_on ((transfer_of v).done + c.args.moved) (transfer_of v))) task.Command v) c.go_on.ensures)
