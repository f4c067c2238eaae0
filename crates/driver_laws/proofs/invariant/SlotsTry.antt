-- A TRY FAILED: what it keeps of its scene, and that the request's blocks fit.
use Rattle.std.proofs.Common.{◌≡◌, ℕ, true, refl}
use Rattle.driver_machine.specs.declared.Phase.TheVariants.{Transferring}
use Rattle.driver_machine.specs.declared.Task.{Task}
use Rattle.driver_machine.specs.Guards.{May}
use Rattle.driver_machine.specs.Acts as deed
use Rattle.driver_machine.specs.Acts.{Scene, effect}
use Rattle.driver_laws.proofs.invariant.Hand.{Keeps, Fits}
use Rattle.driver_laws.proofs.invariant.SlotsDeedFacts.{kept, not_transferring, rests}

pub try_keeps : (line u p moved block number : ℕ) (next : Task) (s : Scene) → Keeps s (effect line u p (deed.Try moved block number next) s)
try_keeps line u p moved block number next s = kept s _ _ refl refl refl

pub try_fits : (line u p moved block number : ℕ) (next : Task) (s : Scene) → May u (deed.Try moved block number next) s
    → (s.held.on_bus ≡ true → s.unit.phase ≡ Transferring) → Fits s (effect line u p (deed.Try moved block number next) s)
try_fits line u p moved block number next s may bus = rests s _ refl bus (not_transferring u _ s may)
