-- The index at which a table lists a place.
use Rattle.std.proofs.Common.{◌≡◌, ℕ, ◌<◌, arith, refl, Some, None}
use Rattle.std.specs.Prelude.{◌↔◌, slice_get, Option, IfSome}
use Rattle.std.proofs.lemmas.Option.{slice_get_within}
use Rattle.pack_geometry.specs.declared.Place.{Place}
use Rattle.pack_geometry.specs.TableSpelling.{Table, IsTable}

-- it is that of an entry
pub small : (t : Table) (place : Place) (r : Option ℕ) → IsTable t → ((i : ℕ) → (r ≡ Some i) ↔ (slice_get t.places i ≡ Some place)) → IfSome r (λ i. i < 126)
small t place None valid listed = tt
small t place (Some i) valid listed = omega (arith, slice_get_within t.places i place ((listed i).0 refl), valid.room)
