use Rattle.std.proofs.Common.{true, refl, ap, sym, ◌∙◌, ◌+◌, ◌≤◌, subst}
use Rattle.driver_machine.specs.World.{Held}
use Rattle.request_slots.specs.declared.slot.Holder.TheVariants.{Adapter}
use Rattle.request_slots.specs.Stored.{loan_of, all_slots}
use Rattle.request_slots.proofs.HolderLaws.{stands, driver_has, same_count}
use Rattle.request_slots.proofs.SlotLaws.{Replaced, replaced, kept-replaced, as_seen-replaced, held_of-handed}
use Rattle.request_slots.proofs.slots.Slots.load.Goals as goal

-- the slot as it was, and with its buffer handed on
handed : (c : goal.After-put_slot) → Replaced (all_slots c.self.inside.slots) (all_slots c.put_slot.new.slots) c.args.slot c.take_slot-ended.result (record c.take_slot-ended.result { buffer = Adapter c.load.result })
handed c =
    replaced c.take_slot-ended.ensures.slot c.take_slot-ended.ensures.rest (c.put_slot.ensures.next ∙ c.take_slot-ended.ensures.next) c.put_slot.ensures.rest

pub invariant_of-self : goal.invariant_of-self
invariant_of-self c =
    kept-replaced c.self.invariant (handed c)
    (c.load.ensures.same_buffer ∙ sym (ap loan_of c.in-Driver.is)) refl

pub returns-clause-slots : goal.returns-clause-slots
returns-clause-slots c =
    as_seen-replaced c.self.inside.memory c.self.view_is (handed c)
    (λ (h : Held). record h { on_bus = true })
    (held_of-handed c.self.inside.memory c.take_slot-ended.result c.load.result true (c.load.ensures.same_buffer ∙ sym (ap loan_of c.in-Driver.is)))

pub take_slot-ended-requires : goal.take_slot-ended-requires
take_slot-ended-requires c = stands c.self.inside.memory (all_slots c.self.inside.slots) c.args.slot c.self.view_is c.requires.there

pub unreachable-requires : goal.unreachable-requires
unreachable-requires c = driver_has c.self.inside.memory (all_slots c.self.inside.slots) c.args.slot c.take_slot-ended.result c.in_default.field-0 c.self.view_is c.take_slot-ended.ensures.slot c.requires.cpu c.in_default.is

pub load-requires-clause-inside : goal.load-requires-clause-inside
load-requires-clause-inside c =
    subst (λ n. c.args.skip + c.args.count ≤ n) (same_count c.self.inside.memory (all_slots c.self.inside.slots) c.args.slot c.take_slot-ended.result c.in-Driver.buffer c.self.view_is c.take_slot-ended.ensures.slot (ap loan_of c.in-Driver.is)) c.requires.inside
