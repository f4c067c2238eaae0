use Rattle.std.proofs.Common.{◌≡◌, List, Option, None, Some, false, refl, ap, ◌∙◌, arith}
use Rattle.std.proofs.lemmas.List.{get_or-set_same}
use Rattle.request_slots.specs.declared.slot.Holder.TheVariants.{Driver}
use Rattle.request_slots.specs.declared.slot.Slot.{Slot}
use Rattle.request_slots.specs.Requests.{frames_lent}
use Rattle.request_slots.specs.Stored.{slot_in, held_of, all_slots}
use Rattle.request_slots.proofs.SlotLaws.{kept-joined, as_seen-joined, is_held_for}
use Rattle.request_slots.proofs.HolderLaws.{free_at, seen_within}
use Rattle.request_slots.proofs.RoomLaws.{has_room}
use Rattle.request_slots.proofs.StoreLaws.{whole_slot}
use Rattle.request_slots.proofs.slots.Slots.join.Goals as goal

pub prove-unreachable-requires : goal.prove-unreachable-requires
prove-unreachable-requires c =
    omega (
      arith,
      c.if-prove.true,
      c.len.ensures,
      c.capacity.ensures.value,
      has_room c.self.inside.memory c.self.inside.slots c.self.view_is (omega (arith, c.capacity.ensures.slots, c.capacity.ensures.value)) c.requires.free,
    )

-- the new slot
abbrev joined : goal.After-put_slot → Slot
joined c = record { asked = c.args.asked; ended = false; buffer = Driver c.lend_filled-buffer.result }

pub invariant_of-self : goal.invariant_of-self
invariant_of-self c =
    kept-joined c.put_slot.result (joined c) c.self.invariant c.put_slot.ensures.inside c.put_slot.ensures.free c.put_slot.ensures.rest c.lend_filled-buffer.ensures.lent

here : (c : goal.After-put_slot) → slot_in (all_slots c.put_slot.new.slots) c.put_slot.result ≡ Some (joined c)
here c =
    ap (λ (slots : List (Option Slot)). slot_in slots c.put_slot.result) c.put_slot.ensures.rest
    ∙ get_or-set_same (all_slots c.self.inside.slots) c.put_slot.result (Some (joined c)) None c.put_slot.ensures.inside

pub returns-clause-joined : goal.returns-clause-joined
returns-clause-joined c = (
  held_of c.lend_filled-buffer.new.memory (joined c),
  is_held_for c.lend_filled-buffer.new.memory (joined c) c.args.bytes.now c.lend_filled-buffer.ensures.lent.is refl refl
      (whole_slot c.lend_filled-buffer.new.memory (all_slots c.put_slot.new.slots) (invariant_of-self c) c.put_slot.result (joined c) (here c)) c.lend_filled-buffer.ensures.content,
  as_seen-joined c.put_slot.result (joined c) c.self.invariant c.self.view_is c.put_slot.ensures.rest c.lend_filled-buffer.ensures.lent,
)

pub lend_filled-buffer-requires : goal.lend_filled-buffer-requires
lend_filled-buffer-requires c = record { asked = c.requires.asked; room = omega (arith, c.requires.room, c.self.invariant.counted, ap frames_lent c.self.view_is) }

pub returns-clause-free : goal.returns-clause-free
returns-clause-free c = seen_within c.self.inside.memory (all_slots c.self.inside.slots) c.put_slot.result c.self.view_is c.put_slot.ensures.inside

pub returns-clause-none : goal.returns-clause-none
returns-clause-none c = free_at c.self.inside.memory (all_slots c.self.inside.slots) c.put_slot.result c.self.view_is c.put_slot.ensures.free
