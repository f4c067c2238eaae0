-- SEARCH: what it keeps of its scene, and that the request's blocks fit.
use Rattle.std.proofs.Common.{◌≡◌, ℕ, true, refl}
use Rattle.pack_geometry.specs.declared.Place.{Place}
use Rattle.driver_machine.specs.declared.Phase.TheVariants.{Transferring}
use Rattle.driver_machine.specs.Guards.{May}
use Rattle.driver_machine.specs.Acts as deed
use Rattle.driver_machine.specs.Acts.{Scene, effect}
use Rattle.driver_laws.proofs.invariant.Hand.{Keeps, Fits}
use Rattle.driver_machine.proofs.KindStays.{searching_kind}
use Rattle.driver_laws.proofs.invariant.SlotsDeedFacts.{kept, not_transferring, rests}

pub search_keeps : (line u p : ℕ) (target : Place) (sector : ℕ) (s : Scene) → Keeps s (effect line u p (deed.Search target sector) s)
search_keeps line u p target sector s = kept s _ _ refl refl (searching_kind target sector s.unit.drive)

pub search_fits : (line u p : ℕ) (target : Place) (sector : ℕ) (s : Scene) → May u (deed.Search target sector) s → (s.held.on_bus ≡ true → s.unit.phase ≡ Transferring)
    → Fits s (effect line u p (deed.Search target sector) s)
search_fits line u p target sector s may bus = rests s _ refl bus (not_transferring u _ s may)
