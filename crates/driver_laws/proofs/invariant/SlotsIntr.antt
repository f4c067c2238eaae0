-- THE DATA INTERRUPT: what it keeps of its scene, and that the request's blocks fit.
use Rattle.std.proofs.Common.{◌≡◌, ℕ, true, false, refl}
use Rattle.std.proofs.lemmas.Bool.{false≢true}
use Rattle.hardware_table.specs.declared.Moved.{Moved}
use Rattle.driver_machine.specs.declared.Phase.TheVariants.{Transferring}
use Rattle.driver_machine.specs.Guards.{May}
use Rattle.driver_machine.specs.Acts as deed
use Rattle.driver_machine.specs.Acts.{Scene, effect}
use Rattle.driver_laws.proofs.invariant.Hand.{Keeps, Fits}
use Rattle.driver_laws.proofs.invariant.SlotsDeedFacts.{kept_held}

pub intr_keeps : (line u p moved : ℕ) (last : Moved) (s : Scene) → Keeps s (effect line u p (deed.Intr moved last) s)
intr_keeps line u p moved last s = kept_held s _ s.held.blocks false refl refl refl refl refl refl refl

pub intr_fits : (line u p moved : ℕ) (last : Moved) (s : Scene) → May u (deed.Intr moved last) s → (s.held.on_bus ≡ true → s.unit.phase ≡ Transferring)
    → Fits s (effect line u p (deed.Intr moved last) s)
intr_fits line u p moved last s may bus = record { whole = λ k lt e. e; bus = λ e. absurd (false≢true e) }
