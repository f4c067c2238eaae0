-- A STEP of a retry: what it keeps of its scene, and that the request's blocks fit.
use Rattle.std.proofs.Common.{◌≡◌, ℕ, true, refl}
use Rattle.driver_machine.specs.declared.Phase.TheVariants.{Transferring}
use Rattle.driver_machine.specs.declared.RetryStep.{RetryStep}
use Rattle.driver_machine.specs.Guards.{May}
use Rattle.driver_machine.specs.Acts as deed
use Rattle.driver_machine.specs.Acts.{Scene, effect}
use Rattle.driver_laws.proofs.invariant.Hand.{Keeps, Fits}
use Rattle.driver_machine.proofs.KindStays.{stepping_kind}
use Rattle.driver_laws.proofs.invariant.SlotsDeedFacts.{kept, not_transferring, rests}

pub do_keeps : (line u p : ℕ) (step : RetryStep) (taken : ℕ) (s : Scene) → Keeps s (effect line u p (deed.Do step taken) s)
do_keeps line u p step taken s = kept s _ _ refl refl (stepping_kind step s.unit.drive)

pub do_fits : (line u p : ℕ) (step : RetryStep) (taken : ℕ) (s : Scene) → May u (deed.Do step taken) s → (s.held.on_bus ≡ true → s.unit.phase ≡ Transferring)
    → Fits s (effect line u p (deed.Do step taken) s)
do_fits line u p step taken s may bus = rests s _ refl bus (not_transferring u _ s may)
