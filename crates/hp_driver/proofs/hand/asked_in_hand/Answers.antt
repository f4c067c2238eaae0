use Rattle.std.proofs.Common.{◌<◌, length, sym, ap, ◌∙◌, subst}
use Rattle.std.specs.Prelude.{IsSome}
use Rattle.driver_machine.specs.World.{UnitView, slot_at, slot_in_hand}
use Rattle.driver_laws.proofs.invariant.Deeds.{in_hand_is}
use Rattle.hp_driver.proofs.Facts.{hand_there}
use Rattle.hp_driver.proofs.hand.asked_in_hand.Goals as goal

pub asked-requires : goal.asked-requires
asked-requires c =
    subst (λ p. IsSome (slot_at c.args.core.now.world p)) (sym (c.in_ok-slot.ensures.slot ∙ ap (λ (v : UnitView). slot_in_hand v) c.unit.ensures))
    (hand_there _ _ _ c.requires.sound (in_hand_is _ _ c.requires.sound c.requires.unit (subst (λ (v : UnitView). 0 < length v.queue) c.unit.ensures c.in_ok-slot.ensures.some)))
