use Rattle.std.proofs.Common.{ap}
use Rattle.request_slots.specs.Stored.{loan_of, all_slots}
use Rattle.request_slots.proofs.HolderLaws.{stands, driver_has, lent_at}
use Rattle.request_slots.proofs.SlotLaws.{kept-left, as_seen-left}
use Rattle.request_slots.proofs.slots.Slots.leave.Goals as goal

pub invariant_of-self : goal.invariant_of-self
invariant_of-self c =
    kept-left c.args.slot c.self.invariant c.take_slot-buffer.ensures.slot c.take_slot-buffer.ensures.rest (ap loan_of c.in-Driver.is)
    (record { count = c.give_back.ensures.count; others = c.give_back.ensures.others; sound = c.give_back.ensures.sound })

pub returns : goal.returns
returns c =
    as_seen-left c.self.inside.memory (all_slots c.self.inside.slots) c.args.slot c.self.view_is c.take_slot-buffer.ensures.rest c.give_back.ensures.memory

pub take_slot-buffer-requires : goal.take_slot-buffer-requires
take_slot-buffer-requires c = stands c.self.inside.memory (all_slots c.self.inside.slots) c.args.slot c.self.view_is c.requires.there

pub unreachable-requires : goal.unreachable-requires
unreachable-requires c = driver_has c.self.inside.memory (all_slots c.self.inside.slots) c.args.slot c.take_slot-buffer.result c.in_default.field-0 c.self.view_is c.take_slot-buffer.ensures.slot c.requires.cpu c.in_default.is

pub give_back-requires : goal.give_back-requires
give_back-requires c = lent_at c.self.inside.memory (all_slots c.self.inside.slots) c.args.slot c.take_slot-buffer.result c.in-Driver.buffer c.self.invariant c.take_slot-buffer.ensures.slot (ap loan_of c.in-Driver.is)
