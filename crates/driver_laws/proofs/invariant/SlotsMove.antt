-- RCOM and WCOM: what it keeps of its scene, and that the request's blocks fit.
use Rattle.std.proofs.Common.{◌≡◌, ℕ, Bool, true, refl}
use Rattle.transfer_engine.specs.declared.job.Segment.{Segment}
use Rattle.driver_machine.specs.declared.Phase.TheVariants.{Transferring}
use Rattle.driver_machine.specs.Guards.{May}
use Rattle.driver_machine.specs.Acts as deed
use Rattle.driver_machine.specs.Acts.{Scene, effect}
use Rattle.driver_laws.proofs.invariant.Hand.{Keeps, Fits}
use Rattle.driver_machine.proofs.KindStays.{transferring_kind}
use Rattle.driver_laws.proofs.invariant.SlotsDeedFacts.{kept_held}

pub move_keeps : (line u p : ℕ) (write : Bool) (segment : Segment) (s : Scene) → Keeps s (effect line u p (deed.Move write segment) s)
move_keeps line u p write segment s =
    kept_held s _ s.held.blocks true refl refl (transferring_kind write segment.block s.unit.drive) refl refl refl refl

pub move_fits : (line u p : ℕ) (write : Bool) (segment : Segment) (s : Scene) → May u (deed.Move write segment) s → (s.held.on_bus ≡ true → s.unit.phase ≡ Transferring)
    → Fits s (effect line u p (deed.Move write segment) s)
move_fits line u p write segment s may bus = record { whole = λ k lt e. e; bus = λ e. refl }
