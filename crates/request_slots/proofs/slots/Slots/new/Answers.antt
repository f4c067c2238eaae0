use Rattle.std.proofs.Common.{ℕ, Option, None, replicate, ap, sym, ◌∙◌, subst, arith}
use Rattle.driver_machine.specs.World.{Held}
use Rattle.request_slots.specs.Stored.{as_seen, IsKept}
use Rattle.request_slots.proofs.SlotLaws.{kept-replicate, as_seen-replicate}
use Rattle.request_slots.proofs.slots.Slots.new.Goals as goal

pub invariant_of-result : goal.invariant_of-result
invariant_of-result c =
    subst (IsKept c.in_ok-memory.memory) (sym c.in_ok-slots.ensures)
    (kept-replicate c.in_ok-memory.memory c.min.result c.in_ok-memory.ensures.sound c.in_ok-memory.ensures.every (omega (arith, c.min.ensures)))

pub returns : goal.returns
returns c =
    ap (as_seen c.in_ok-memory.memory) c.in_ok-slots.ensures
    ∙ as_seen-replicate c.in_ok-memory.memory c.min.result
    ∙ ap (λ (n : ℕ). replicate {A = Option Held} n None) c.min.ensures
