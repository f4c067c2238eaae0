use Rattle.std.proofs.Common.{ℕ, Option, ℕ, ◌≡◌, ◌<◌, Some, ap, ◌∙◌, subst}
use Rattle.std.specs.Prelude.{IfSome}
use Rattle.driver_machine.specs.Acts.{with_transfer}
use Rattle.driver_machine.specs.Events.{can_arrive}
use Rattle.driver_machine.specs.World.{UnitView, transfer_of}
use Rattle.hp_core.proofs.Deeds.{forwards, there}
use Rattle.hp_core.proofs.Scenes.{by_unit}
use Rattle.hp_core.proofs.Units.{of_unit, row_still, unit_inside}
use Rattle.transfer_engine.specs.Calls.{entry_for}
use Rattle.transfer_engine.specs.State.{forwarded, segment_of}
use Rattle.driver_machine.specs.declared.Task.TheVariants as task
use Rattle.hp_core.proofs.driver.Core.put_forward.Goals as goal

-- the entry is that of the table
does : (c : goal.After-self-1) → c.forward-index.new.self ≡ with_transfer (Some (forwarded c.args.moved c.args.index (transfer_of c.index_mut.result.now))) task.Command c.index_mut.result.now
does c =
    subst (λ (o : Option ℕ). IfSome o (λ i. c.forward-index.new.self ≡ with_transfer (Some (forwarded c.args.moved i (transfer_of c.index_mut.result.now))) task.Command c.index_mut.result.now))
    (c.forward-index.ensures.entry ∙ of_unit _ _ _ _ _ _ c.self.view_is c.from.ensures (there _ c.args.line _ _ c.requires.sound c.requires.may.0) c.index_mut.ensures.value (λ (v : UnitView). entry_for c.args.moved v.table (transfer_of v) ≡ Some c.args.index) (forwards _ c.args.line _ _ c.requires.sound _ _ c.requires.may).entry) c.forward-index.ensures.some

pub forward-index-requires-clause-begun : goal.forward-index-requires-clause-begun
forward-index-requires-clause-begun c = of_unit _ _ _ _ _ _ c.self.view_is c.from.ensures (there _ c.args.line _ _ c.requires.sound c.requires.may.0) c.index_mut.ensures.value (λ (v : UnitView). v.transfer ≡ Some (transfer_of v)) (forwards _ c.args.line _ _ c.requires.sound _ _ c.requires.may).begun

pub forward-index-requires-clause-kind : goal.forward-index-requires-clause-kind
forward-index-requires-clause-kind c = of_unit _ _ _ _ _ _ c.self.view_is c.from.ensures (there _ c.args.line _ _ c.requires.sound c.requires.may.0) c.index_mut.ensures.value (λ (v : UnitView). (transfer_of v).job.kind ≡ v.drive.kind) (forwards _ c.args.line _ _ c.requires.sound _ _ c.requires.may).kind

pub forward-index-requires-clause-moved : goal.forward-index-requires-clause-moved
forward-index-requires-clause-moved c = of_unit _ _ _ _ _ _ c.self.view_is c.from.ensures (there _ c.args.line _ _ c.requires.sound c.requires.may.0) c.index_mut.ensures.value (λ (v : UnitView). c.args.moved < (segment_of (transfer_of v)).count) (forwards _ c.args.line _ _ c.requires.sound _ _ c.requires.may).less

pub invariant_of-self : goal.invariant_of-self
invariant_of-self c = record { positions = row_still _ _ _ _ _ _ c.self.view_is c.from.ensures (there _ c.args.line _ _ c.requires.sound c.requires.may.0) c.index_mut.ensures.value _ _ c.self.invariant.positions (ap can_arrive (does c)); room = c.self.invariant.room }

pub returns : goal.returns
returns c =
    by_unit _ _ _ _ _ c.requires.may.0
    (unit_inside _ _ _ _ _ _ c.self.view_is c.from.ensures (there _ c.args.line _ _ c.requires.sound c.requires.may.0) c.index_mut.ensures.value _ (λ (v : UnitView). with_transfer (Some (forwarded c.args.moved c.args.index (transfer_of v))) task.Command v) (does c))
