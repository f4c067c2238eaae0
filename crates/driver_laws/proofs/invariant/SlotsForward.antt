-- A REPLACEMENT comes next: what it keeps of its scene, and that the request's blocks fit.
use Rattle.std.proofs.Common.{◌≡◌, ℕ, true, refl}
use Rattle.driver_machine.specs.declared.Phase.TheVariants.{Transferring}
use Rattle.driver_machine.specs.Guards.{May}
use Rattle.driver_machine.specs.Acts as deed
use Rattle.driver_machine.specs.Acts.{Scene, effect}
use Rattle.driver_laws.proofs.invariant.Hand.{Keeps, Fits}
use Rattle.driver_laws.proofs.invariant.SlotsDeedFacts.{kept, not_transferring, rests}

pub forward_keeps : (line u p moved index : ℕ) (s : Scene) → Keeps s (effect line u p (deed.Forward moved index) s)
forward_keeps line u p moved index s = kept s _ _ refl refl refl

pub forward_fits : (line u p moved index : ℕ) (s : Scene) → May u (deed.Forward moved index) s → (s.held.on_bus ≡ true → s.unit.phase ≡ Transferring)
    → Fits s (effect line u p (deed.Forward moved index) s)
forward_fits line u p moved index s may bus = rests s _ refl bus (not_transferring u _ s may)
