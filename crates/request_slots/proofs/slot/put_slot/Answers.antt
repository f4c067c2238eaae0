use Rattle.std.proofs.Common.{◌<◌, Some, sym, ◌∙◌, arith}
use Rattle.request_slots.proofs.RoomLaws.{length-filled_up, get-slot, all_slots-changed}
use Rattle.request_slots.proofs.slot.put_slot.Goals as goal

-- the number lies within the room
inside : (c : goal.After-insert_reserved) → c.insert_reserved.result < c.args.slots.now.capacity
inside c = omega (arith, c.insert_reserved.ensures.key_in_range, c.insert_reserved.ensures.capacity)

pub returns-clause-inside : goal.returns-clause-inside
returns-clause-inside c = omega (arith, inside c, length-filled_up c.args.slots.now.capacity c.args.slots.now.slots)

pub returns-clause-free : goal.returns-clause-free
returns-clause-free c = sym (get-slot c.args.slots.now c.insert_reserved.result (inside c)) ∙ c.insert_reserved.ensures.was_vacant

pub returns-clause-rest : goal.returns-clause-rest
returns-clause-rest c =
    all_slots-changed c.args.slots.now c.insert_reserved.new.self c.insert_reserved.result (Some c.args.slot) c.insert_reserved.ensures.updates c.insert_reserved.ensures.capacity (inside c)
