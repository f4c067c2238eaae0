use Rattle.std.proofs.Common.{true, refl}
use Rattle.driver_machine.specs.World.{Held}
use Rattle.request_slots.specs.Stored.{all_slots}
use Rattle.request_slots.proofs.SlotLaws.{Replaced, kept-replaced, as_seen-replaced}
use Rattle.request_slots.proofs.slots.Slots.end.Goals as goal

-- the slot as it was, and with the request ended
abbrev ended : (c : goal.After-end_slot) → Replaced (all_slots c.self.inside.slots) (all_slots c.end_slot.new.slots) c.args.slot c.end_slot.ensures.0 (record c.end_slot.ensures.0 { ended = true })
ended c = record { here = c.end_slot.ensures.1; there = c.end_slot.ensures.2 }

pub invariant_of-self : goal.invariant_of-self
invariant_of-self c = kept-replaced c.self.invariant (ended c) refl refl

pub returns : goal.returns
returns c = as_seen-replaced c.self.inside.memory c.self.view_is (ended c) (λ (h : Held). record h { ended = true }) refl
