use Rattle.std.proofs.Common.{◌≡◌, ℕ, List, Option, replicate, None, ap, ◌∙◌, arith}
use Rattle.request_slots.specs.declared.slot.Slot.{Slot}
use Rattle.request_slots.specs.Stored.{filled_up}
use Rattle.request_slots.proofs.RoomLaws.{filled_up-none}
use Rattle.request_slots.proofs.slot.free_slots.Goals as goal

pub returns-in-Ok : goal.returns-in-Ok
returns-in-Ok c =
    let all : c.in-Ok.slots.capacity ≡ c.args.count = omega (arith, c.capacity.ensures.value, c.if-capacity-count.true) in
    ap (λ (slots : List (Option Slot)). filled_up c.in-Ok.slots.capacity slots) c.in-Ok.ensures.empty
    ∙ filled_up-none c.in-Ok.slots.capacity
    ∙ ap (λ (n : ℕ). replicate {A = Option Slot} n None) all
