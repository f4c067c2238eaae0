use Rattle.std.proofs.Common.{◌≡◌, ℕ, List, [], sym, ap, subst, ◌∙◌, arith, Result, Ok}
use Rattle.fire_code.specs.Noise.{IsNoise}
use Rattle.script_lines.specs.declared.kinds.ScriptKind.{ScriptKind}
use Rattle.script_lines.specs.Fields.{and_then}
use Rattle.script_lines.specs.Places.{ahead}
use Rattle.script_lines.specs.Forms.{noise_or}
use Rattle.script_lines.proofs.PlacesLaws.{AreSmall, small_more, ahead_more, ahead_full, ahead_end, noise_read, noise_refused, is_full}
use Rattle.script_lines.proofs.places.places_from.Goals as goal

pub returns-then-is_full : goal.returns-then-is_full
returns-then-is_full c =
    let items = c.places.places.items in
    c.places.invariant.form
    ∙ ap (λ (fs : List (List ℕ)). and_then (ahead items fs) noise_or) c.in-Some.ensures
    ∙ ahead_full items c.in-Some.field.now c.next.new.self c.in_ok-place.place (sym c.in_ok-place.ensures.value) (is_full c.is_full.result _ c.if-is_full.true c.is_full.ensures.value)

pub places-preserved : goal.places-preserved
places-preserved c =
    let items = c.places.places.items in record {
      form =
          c.places.invariant.form
          ∙ ap (λ (fs : List (List ℕ)). and_then (ahead items fs) noise_or) c.in-Some.ensures
          ∙ ap (λ (r : Result (List ℕ) ScriptKind). and_then r noise_or) (ahead_more items c.in-Some.field.now c.next.new.self c.in_ok-place.place (sym c.in_ok-place.ensures.value))
          ∙ ap (λ (ps : List ℕ). and_then (ahead ps c.next.new.self) noise_or) (sym c.push-in-Some.ensures.items);
      small = subst AreSmall (sym c.push-in-Some.ensures.items) (small_more items c.in_ok-place.place c.places.invariant.small c.in_ok-place.ensures.bound);
      some = omega (arith, c.push-in-Some.ensures.len);
    }

pub returns-in-Some-new : goal.returns-in-Some-new
returns-in-Some-new c =
    let items = c.places.places.items in
    let now = c.as_slice.result.now in
    let now_is : now ≡ items = c.as_slice.ensures.value in
    c.places.invariant.form
    ∙ ap (λ (fs : List (List ℕ)). and_then (ahead items fs) noise_or) c.in_default.ensures.0
    ∙ ap (λ (r : Result (List ℕ) ScriptKind). and_then r noise_or) (ahead_end items)
    ∙ ap noise_or (sym now_is)
    ∙ noise_read now c.in-Some-new.ensures.0
    ∙ ap (λ (ps : List ℕ). Ok (ps, [])) (sym c.in-Some-new.ensures.1)
    ∙ ap (λ (fs : List (List ℕ)). Ok (c.in-Some-new.noise, fs)) (sym c.in_default.ensures.1)

pub returns-in-None : goal.returns-in-None
returns-in-None c =
    let items = c.places.places.items in
    let now_is : c.as_slice.result.now ≡ items = c.as_slice.ensures.value in
    c.places.invariant.form
    ∙ ap (λ (fs : List (List ℕ)). and_then (ahead items fs) noise_or) c.in_default.ensures.0
    ∙ ap (λ (r : Result (List ℕ) ScriptKind). and_then r noise_or) (ahead_end items)
    ∙ noise_refused items c.places.invariant.small c.places.invariant.some (λ n. c.in-None.ensures (subst IsNoise (sym now_is) n))
