use Rattle.std.proofs.Common.{◌≡◌, ◌<◌, ◌∷◌, [], length}
use Rattle.script_lines.specs.Fields.{and_then}
use Rattle.script_lines.specs.Places.{ahead}
use Rattle.script_lines.specs.Forms.{noise_or}
use Rattle.script_lines.proofs.PlacesLaws.{AreSmall}
use Rattle.script_lines.proofs.places.places_from.Given as goal

abbrev pub invariant-places : goal.invariant-places
invariant-places l = record {
  form : and_then (ahead (l.first ∷ []) l.fn.fields) noise_or ≡ and_then (ahead l.places.items l.fields) noise_or;
  small : AreSmall l.places.items;
  some : 0 < length l.places.items;
}

abbrev pub decreases-places : goal.decreases-places
decreases-places l = length l.fields
