-- Each place is flipped in turn.
use Rattle.std.proofs.Common.{◌≡◌, ℕ, ◌<◌, refl, sym, ap, ◌∙◌}
use Rattle.fire_code.specs.Word.{bit_of_word}
use Rattle.fire_code.proofs.Flips.{flip_all, flip_all-more, flip_all-none, flip_all-flipped, flip_all-remainder}
use Rattle.fire_code.proofs.Noises.{rising_from_places}
use Rattle.fire_code.proofs.apply.Goals as goal

pub loop-place-init : goal.loop-place-init
loop-place-init c k h = refl

pub loop-place-preserved : goal.loop-place-preserved
loop-place-preserved c k h =
    flip_all-more c.places-place-items.result.now c.loop-place.place-index (bit_of_word c.loop-place.bytes c.loop-place.value) (bit_of_word c.flip-value.new.bytes c.flip-value.result) k
    c.loop-place-test.true (c.flip-value.ensures k h)
    ∙ c.loop-place.invariant k h

flips : (c : goal.After-loop-place) → (k : ℕ) → k < 4128 → bit_of_word c.loop-place.bytes c.loop-place.value k ≡ flip_all c.args.noise.now (bit_of_word c.args.bytes.now c.args.check.0) k
flips c k h =
    sym (flip_all-none c.places-place-items.result.now c.loop-place.place-index (bit_of_word c.loop-place.bytes c.loop-place.value) k c.loop-place-test.false)
    ∙ c.loop-place.invariant k h
    ∙ ap (λ z. flip_all z (bit_of_word c.args.bytes.now c.args.check.0) k) c.places-place-items.ensures.value

pub returns-clause-flips : goal.returns-clause-flips
returns-clause-flips c = record {
  bits = λ k h. flips c k h ∙ flip_all-flipped 0 4128 c.args.noise.now (bit_of_word c.args.bytes.now c.args.check.0) k (rising_from_places c.args.noise.now c.places-place-items.ensures.noise.set);
}

pub returns-clause-remainder : goal.returns-clause-remainder
returns-clause-remainder c =
    flip_all-remainder c.args.noise.now c.args.bytes.now c.args.check.0 c.loop-place.bytes c.loop-place.value c.places-place-items.ensures.noise.set.in_word (flips c)
