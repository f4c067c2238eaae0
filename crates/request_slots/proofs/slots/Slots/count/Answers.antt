use Rattle.std.proofs.Common.{length, ap, arith}
use Rattle.std.specs.Option.{option_map}
use Rattle.std.proofs.lemmas.List.{length-map}
use Rattle.request_slots.specs.Stored.{held_of, all_slots}
use Rattle.request_slots.proofs.RoomLaws.{length-filled_up}
use Rattle.request_slots.proofs.slots.Slots.count.Goals as goal

pub overflow_cast-result : goal.overflow_cast-result
overflow_cast-result c =
    omega (arith, c.capacity.ensures.value, length-filled_up c.self.inside.slots.capacity c.self.inside.slots.slots, c.self.invariant.few)

pub returns : goal.returns
returns c =
    omega (
      arith,
      c.capacity.ensures.value,
      length-filled_up c.self.inside.slots.capacity c.self.inside.slots.slots,
      length-map (all_slots c.self.inside.slots) (option_map (held_of c.self.inside.memory)),
      ap length c.self.view_is,
    )
