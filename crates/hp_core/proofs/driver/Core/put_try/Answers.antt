use Rattle.std.proofs.Common.{◌≡◌, ◌<◌, ◌+◌, Some, ap}
use Rattle.driver_machine.specs.Acts.{transfer_tried, with_transfer}
use Rattle.driver_machine.specs.Due.{task_for}
use Rattle.driver_machine.specs.Events.{can_arrive}
use Rattle.driver_machine.specs.World.{UnitView, transfer_of}
use Rattle.hp_core.proofs.Units.{of_unit, row_still, unit_inside}
use Rattle.transfer_engine.specs.Calls.{step_for}
use Rattle.transfer_engine.specs.State.{segment_of}
use Rattle.hp_core.proofs.Scenes.{by_unit}
use Rattle.hp_core.proofs.Deeds.{there, fails}
use Rattle.hp_core.proofs.driver.Core.put_try.Goals as goal

pub retry-requires-clause-begun : goal.retry-requires-clause-begun
retry-requires-clause-begun c = of_unit _ _ _ _ _ _ c.self.view_is c.from.ensures (there _ c.args.line _ _ c.requires.sound c.requires.may.0) c.index_mut.ensures.value (λ (v : UnitView). v.transfer ≡ Some (transfer_of v)) (fails _ c.args.line _ _ c.requires.sound _ _ _ _ c.requires.may).begun

pub retry-requires-clause-moved : goal.retry-requires-clause-moved
retry-requires-clause-moved c = of_unit _ _ _ _ _ _ c.self.view_is c.from.ensures (there _ c.args.line _ _ c.requires.sound c.requires.may.0) c.index_mut.ensures.value (λ (v : UnitView). c.args.moved < (segment_of (transfer_of v)).count) (fails _ c.args.line _ _ c.requires.sound _ _ _ _ c.requires.may).less

pub invariant_of-self : goal.invariant_of-self
invariant_of-self c = record { positions = row_still _ _ _ _ _ _ c.self.view_is c.from.ensures (there _ c.args.line _ _ c.requires.sound c.requires.may.0) c.index_mut.ensures.value _ _ c.self.invariant.positions (ap can_arrive c.retry.ensures); room = c.self.invariant.room }

pub returns : goal.returns
returns c =
    by_unit _ _ _ _ _ c.requires.may.0
    (unit_inside _ _ _ _ _ _ c.self.view_is c.from.ensures (there _ c.args.line _ _ c.requires.sound c.requires.may.0) c.index_mut.ensures.value _
    (λ (v : UnitView). with_transfer (transfer_tried (task_for (step_for c.args.moved (transfer_of v)) ((transfer_of v).done + c.args.moved)) c.args.moved (transfer_of v)) (task_for (step_for c.args.moved (transfer_of v)) ((transfer_of v).done + c.args.moved)) v) c.retry.ensures)
