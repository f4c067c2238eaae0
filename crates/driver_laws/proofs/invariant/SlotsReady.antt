-- A UNIT IS READY with a transfer: what it keeps of its scene, and that the request's blocks fit.
use Rattle.std.proofs.Common.{◌≡◌, ℕ, true, refl}
use Rattle.transfer_engine.specs.State.{TransferState}
use Rattle.driver_machine.specs.declared.Phase.TheVariants.{Transferring}
use Rattle.driver_machine.specs.Guards.{May}
use Rattle.driver_machine.specs.Acts as deed
use Rattle.driver_machine.specs.Acts.{Scene, effect}
use Rattle.driver_laws.proofs.invariant.Hand.{Keeps, Fits}
use Rattle.driver_laws.proofs.invariant.SlotsDeedFacts.{kept, not_transferring, rests}

pub ready_keeps : (line u p : ℕ) (t : TransferState) (s : Scene) → Keeps s (effect line u p (deed.Ready t) s)
ready_keeps line u p t s = kept s _ _ refl refl refl

pub ready_fits : (line u p : ℕ) (t : TransferState) (s : Scene) → May u (deed.Ready t) s → (s.held.on_bus ≡ true → s.unit.phase ≡ Transferring)
    → Fits s (effect line u p (deed.Ready t) s)
ready_fits line u p t s may bus = rests s _ refl bus (not_transferring u _ s may)
