use Rattle.std.proofs.Common.{◌≡◌, ap, sym, ◌∙◌, subst, ◌<◌}
use Rattle.request_slots.specs.declared.slot.Holder.{Holder}
use Rattle.request_slots.specs.declared.slot.Holder.TheVariants.{Driver}
use Rattle.request_slots.specs.Stored.{loan_of, all_slots, as_seen, IsKept}
use Rattle.request_slots.proofs.HolderLaws.{stands, driver_has, lent_at, same_count}
use Rattle.request_slots.proofs.SlotLaws.{replaced}
use Rattle.request_slots.proofs.StoreLaws.{put_back, repaired_kept, repaired_seen}
use Rattle.request_slots.proofs.slots.Slots.repair.Goals as goal

-- the slot is put back as it was
same_slots : (c : goal.After-put_slot) → all_slots c.put_slot.new.slots ≡ all_slots c.self.inside.slots
same_slots c =
    put_back (replaced c.take_slot-ended.ensures.slot c.take_slot-ended.ensures.rest (c.put_slot.ensures.next ∙ c.take_slot-ended.ensures.next) c.put_slot.ensures.rest)
    (ap (λ (h : Holder). record c.take_slot-ended.result { buffer = h }) (ap Driver c.repair_block-buffer.ensures.same_buffer ∙ sym c.in-Driver.is))

pub invariant_of-self : goal.invariant_of-self
invariant_of-self c =
    subst (IsKept c.repair_block-buffer.new.memory) (sym (same_slots c))
    (repaired_kept c.args.slot c.args.k c.args.at c.args.pattern c.self.invariant c.self.view_is c.take_slot-ended.ensures.slot (ap loan_of c.in-Driver.is) c.requires.inside c.repair_block-buffer.ensures.memory)

pub returns : goal.returns
returns c =
    ap (as_seen c.repair_block-buffer.new.memory) (same_slots c)
    ∙ repaired_seen c.args.slot c.args.k c.args.at c.args.pattern c.self.invariant c.self.view_is c.take_slot-ended.ensures.slot (ap loan_of c.in-Driver.is) c.requires.inside c.repair_block-buffer.ensures.memory

pub take_slot-ended-requires : goal.take_slot-ended-requires
take_slot-ended-requires c = stands c.self.inside.memory (all_slots c.self.inside.slots) c.args.slot c.self.view_is c.requires.there

pub unreachable-requires : goal.unreachable-requires
unreachable-requires c = driver_has c.self.inside.memory (all_slots c.self.inside.slots) c.args.slot c.take_slot-ended.result c.in_default.field-0 c.self.view_is c.take_slot-ended.ensures.slot c.requires.cpu c.in_default.is

pub repair_block-buffer-requires-clause-lent : goal.repair_block-buffer-requires-clause-lent
repair_block-buffer-requires-clause-lent c = lent_at c.self.inside.memory (all_slots c.self.inside.slots) c.args.slot c.take_slot-ended.result c.in-Driver.buffer c.self.invariant c.take_slot-ended.ensures.slot (ap loan_of c.in-Driver.is)

pub repair_block-buffer-requires-clause-inside : goal.repair_block-buffer-requires-clause-inside
repair_block-buffer-requires-clause-inside c =
    subst (λ n. c.args.k < n) (same_count c.self.inside.memory (all_slots c.self.inside.slots) c.args.slot c.take_slot-ended.result c.in-Driver.buffer c.self.view_is c.take_slot-ended.ensures.slot (ap loan_of c.in-Driver.is)) c.requires.inside
