use Rattle.std.proofs.Common.{[], ◌∷◌, refl, sym, ap}
use Rattle.script_lines.specs.Fields.{and_then}
use Rattle.script_lines.specs.Places.{ahead}
use Rattle.script_lines.specs.Forms.{noise_or, places_form}
use Rattle.script_lines.proofs.PlacesLaws.{ahead_start, start_fault}
use Rattle.script_lines.proofs.FieldLaws.{parses_as}
use Rattle.script_lines.proofs.places.places.Goals as goal

pub returns-in-Ok : goal.returns-in-Ok
returns-in-Ok c =
    let first = c.in-Ok.first in
    parses_as places_form (λ fs. and_then (ahead (first ∷ []) fs) noise_or) c.args.fields.now c.next.new.self c.places_from.result c.places_from.new.fields
    (ahead_start c.args.fields.now c.in-Some.text.now c.next.new.self first (first ∷ []) c.in-Some.ensures (sym c.in-Ok.ensures.value) refl) c.places_from.ensures

pub returns-in-Err : goal.returns-in-Err
returns-in-Err c = start_fault c.args.fields.now c.in-Some.text.now c.next.new.self c.in-Err.kind c.in-Some.ensures (sym c.in-Err.ensures.value)

pub returns-in-None : goal.returns-in-None
unfolding places_form
returns-in-None c = ap places_form c.in-None.ensures.0
