-- The register is fed one bit after the other.
use Rattle.std.proofs.Common.{◌≡◌, ◌*◌, arith, refl, ◌∙◌, subst}
use Rattle.fire_code.specs.Word.{bit_of_word}
use Rattle.fire_code.proofs.Words.{fed, fed_all, fed_more}
use Rattle.fire_code.proofs.plain.data_remainder.Goals as goal

pub loop-byte-init : goal.loop-byte-init
unfolding fed
loop-byte-init c = refl

pub loop-bit-preserved : goal.loop-bit-preserved
loop-bit-preserved c =
    c.times_x-state.ensures
    ∙ fed_more c.args.bytes.now c.loop-byte.byte-index c.loop-bit.bit c.loop-bit.state c.from-one.result (omega arith) c.loop-bit-test.true c.loop-bit.invariant c.from-one.ensures

pub returns : goal.returns
returns c =
    let e : c.loop-byte.byte-index ≡ 512 = omega arith in
    subst (λ z. c.loop-byte.state ≡ fed (bit_of_word c.args.bytes.now 0) (8 * z)) e c.loop-byte.invariant ∙ fed_all c.args.bytes.now
