use Rattle.std.proofs.Common.{◌≡◌, ℕ, ◌+◌, ◌<◌, false, sym, ap, ◌∙◌, subst, arith}
use Rattle.std.specs.Prelude.{IsSome}
use Rattle.hardware_table.specs.declared.Moved.TheVariants as verdict
use Rattle.driver_machine.specs.declared.Phase.TheVariants as phase
use Rattle.driver_machine.specs.declared.Task.TheVariants as task
use Rattle.driver_machine.specs.World.{World, UnitView, unit_at, slot_at, held_in, slot_in_hand, transfer_of}
use Rattle.driver_machine.specs.Acts.{in_phase, repaired_at}
use Rattle.driver_machine.specs.Events.{can_arrive}
use Rattle.hp_core.proofs.Parts.{in_slot, room_set, unit_slot}
use Rattle.hp_core.proofs.Units.{row_still}
use Rattle.hp_core.proofs.Scenes.{by_held}
use Rattle.hp_core.proofs.Deeds.{has_hand, repairs}
use Rattle.hp_core.proofs.driver.Core.put_repair.Goals as goal

pub repair-requires-clause-there : goal.repair-requires-clause-there
repair-requires-clause-there c = in_slot _ _ _ _ (λ (w : World) (p : ℕ). IsSome (slot_at w p)) c.self.view_is c.hand-slot.ensures (has_hand _ c.args.line _ _ c.requires.sound c.requires.may.0).there

pub repair-requires-clause-cpu : goal.repair-requires-clause-cpu
repair-requires-clause-cpu c = in_slot _ _ _ _ (λ (w : World) (p : ℕ). (held_in w p).on_bus ≡ false) c.self.view_is c.hand-slot.ensures (repairs _ c.args.line _ _ c.requires.sound _ _ _ c.requires.may).cpu

pub repair-requires-clause-inside : goal.repair-requires-clause-inside
repair-requires-clause-inside c =
    in_slot _ _ _ _ (λ (w : World) (p : ℕ). c.done.result + c.args.moved < (held_in w p).loan.count) c.self.view_is c.hand-slot.ensures
    (subst (λ (d : ℕ). d + c.args.moved < (held_in c.args.self.now.world (slot_in_hand (unit_at c.args.self.now.world c.args.u))).loan.count) (sym (c.done.ensures ∙ ap (λ (v : UnitView). (transfer_of v).done) c.unit.ensures)) (repairs _ c.args.line _ _ c.requires.sound _ _ _ c.requires.may).inside)

pub repair-requires-clause-first : goal.repair-requires-clause-first
repair-requires-clause-first c = (repairs _ c.args.line _ _ c.requires.sound _ _ _ c.requires.may).burst.first

pub repair-requires-clause-last : goal.repair-requires-clause-last
repair-requires-clause-last c = (repairs _ c.args.line _ _ c.requires.sound _ _ _ c.requires.may).burst.last

pub repair-requires-clause-pattern : goal.repair-requires-clause-pattern
repair-requires-clause-pattern c = (repairs _ c.args.line _ _ c.requires.sound _ _ _ c.requires.may).burst.pattern_bits

pub invariant_of-self : goal.invariant_of-self
invariant_of-self c = record {
  positions = row_still _ _ _ _ _ _ c.self.view_is c.from.ensures (has_hand _ c.args.line _ _ c.requires.sound c.requires.may.0).unit c.index_mut.ensures.value _ _ c.self.invariant.positions (ap can_arrive c.judge_again.ensures);
  room = room_set _ _ _ _ _ _ c.self.invariant.room c.repair.ensures;
}

pub returns : goal.returns
returns c =
    by_held _ _ _ _ _ _ (unit_slot _ _ _ _ _ _ _ (in_phase (phase.Due (task.Judge (c.args.moved + 1) verdict.Clean))) _ _ _ _ _ (λ k. repaired_at k c.args.at c.args.pattern)
    c.self.view_is c.from.ensures (has_hand _ c.args.line _ _ c.requires.sound c.requires.may.0).unit c.index_mut.ensures.value c.judge_again.ensures c.hand-slot.ensures (ap (λ (d : ℕ). d + c.args.moved) (c.done.ensures ∙ ap (λ (v : UnitView). (transfer_of v).done) c.unit.ensures)) c.repair.ensures)

pub overflow_add-block : goal.overflow_add-block
overflow_add-block c =
    let is = repairs _ c.args.line _ _ c.requires.sound _ _ _ c.requires.may in
    let done : c.done.result ≡ (transfer_of (unit_at c.args.self.now.world c.args.u)).done = c.done.ensures ∙ ap (λ (v : UnitView). (transfer_of v).done) c.unit.ensures in
    omega (arith, done, is.inside, is.few)

pub overflow_add-moved : goal.overflow_add-moved
overflow_add-moved c =
    let is = repairs _ c.args.line _ _ c.requires.sound _ _ _ c.requires.may in
    omega (arith, is.inside, is.few)
