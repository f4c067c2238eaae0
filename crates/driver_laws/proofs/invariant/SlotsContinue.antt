-- THE BLOCKS BEHIND A REPLACEMENT: what it keeps of its scene, and that the request's blocks fit.
use Rattle.std.proofs.Common.{◌≡◌, ℕ, true, refl}
use Rattle.driver_machine.specs.declared.Phase.TheVariants.{Transferring}
use Rattle.driver_machine.specs.Guards.{May}
use Rattle.driver_machine.specs.Acts as deed
use Rattle.driver_machine.specs.Acts.{Scene, effect}
use Rattle.driver_laws.proofs.invariant.Hand.{Keeps, Fits}
use Rattle.driver_laws.proofs.invariant.SlotsDeedFacts.{kept, not_transferring, rests}

pub continue_keeps : (line u p moved : ℕ) (s : Scene) → Keeps s (effect line u p (deed.Continue moved) s)
continue_keeps line u p moved s = kept s _ _ refl refl refl

pub continue_fits : (line u p moved : ℕ) (s : Scene) → May u (deed.Continue moved) s → (s.held.on_bus ≡ true → s.unit.phase ≡ Transferring)
    → Fits s (effect line u p (deed.Continue moved) s)
continue_fits line u p moved s may bus = rests s _ refl bus (not_transferring u _ s may)
