-- PACK: what it keeps of its scene, and that the request's blocks fit.
use Rattle.std.proofs.Common.{◌≡◌, ℕ, true, refl}
use Rattle.drive_registers.specs.declared.Function.TheVariants as function
use Rattle.driver_machine.specs.declared.Phase.TheVariants.{Transferring}
use Rattle.driver_machine.specs.Guards.{May}
use Rattle.driver_machine.specs.Acts as deed
use Rattle.driver_machine.specs.Acts.{Scene, effect}
use Rattle.driver_laws.proofs.invariant.Hand.{Keeps, Fits}
use Rattle.driver_laws.proofs.invariant.SlotsDeedFacts.{kept, not_transferring, rests}
use Rattle.trace_replay.proofs.Kept.{performed_kind}

pub pack_keeps : (line u p : ℕ) (s : Scene) → Keeps s (effect line u p deed.Pack s)
pack_keeps line u p s = kept s _ _ refl refl (performed_kind function.Pack s.unit.drive)

pub pack_fits : (line u p : ℕ) (s : Scene) → May u deed.Pack s → (s.held.on_bus ≡ true → s.unit.phase ≡ Transferring) → Fits s (effect line u p deed.Pack s)
pack_fits line u p s may bus = rests s _ refl bus (not_transferring u _ s may)
