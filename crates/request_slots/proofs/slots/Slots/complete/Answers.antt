use Rattle.std.proofs.Common.{false, refl, ap, sym, ◌∙◌}
use Rattle.driver_machine.specs.World.{Held}
use Rattle.request_slots.specs.declared.slot.Holder.TheVariants.{Driver}
use Rattle.request_slots.specs.Stored.{loan_of, all_slots}
use Rattle.request_slots.proofs.HolderLaws.{stands, adapter_has}
use Rattle.request_slots.proofs.SlotLaws.{Replaced, replaced, kept-replaced, as_seen-replaced, held_of-handed}
use Rattle.request_slots.proofs.slots.Slots.complete.Goals as goal

-- the slot as it was, and with its buffer handed on
handed : (c : goal.After-put_slot) → Replaced (all_slots c.self.inside.slots) (all_slots c.put_slot.new.slots) c.args.slot c.take_slot-ended.result (record c.take_slot-ended.result { buffer = Driver c.complete-buffer.result.0 })
handed c =
    replaced c.take_slot-ended.ensures.slot c.take_slot-ended.ensures.rest (c.put_slot.ensures.next ∙ c.take_slot-ended.ensures.next) c.put_slot.ensures.rest

pub invariant_of-self : goal.invariant_of-self
invariant_of-self c =
    kept-replaced c.self.invariant (handed c)
    (c.complete-buffer.ensures.same_buffer ∙ sym (ap loan_of c.in-Adapter.is)) refl

pub returns-clause-slots : goal.returns-clause-slots
returns-clause-slots c =
    as_seen-replaced c.self.inside.memory c.self.view_is (handed c)
    (λ (h : Held). record h { on_bus = false })
    (held_of-handed c.self.inside.memory c.take_slot-ended.result c.complete-buffer.result.0 false (c.complete-buffer.ensures.same_buffer ∙ sym (ap loan_of c.in-Adapter.is)))

pub take_slot-ended-requires : goal.take_slot-ended-requires
take_slot-ended-requires c = stands c.self.inside.memory (all_slots c.self.inside.slots) c.args.slot c.self.view_is c.requires.there

pub unreachable-requires : goal.unreachable-requires
unreachable-requires c = adapter_has c.self.inside.memory (all_slots c.self.inside.slots) c.args.slot c.take_slot-ended.result c.in_default.field-0 c.self.view_is c.take_slot-ended.ensures.slot c.requires.bus c.in_default.is
