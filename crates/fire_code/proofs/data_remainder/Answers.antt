-- The register is fed one byte after the other.
use Rattle.std.proofs.Common.{◌≡◌, ◌*◌, arith, refl, ◌∙◌, subst}
use Rattle.fire_code.specs.Word.{bit_of_word}
use Rattle.fire_code.proofs.Words.{fed, fed_all}
use Rattle.fire_code.proofs.Bytes.{fed_byte}
use Rattle.fire_code.proofs.data_remainder.Goals as goal

pub loop-byte-init : goal.loop-byte-init
unfolding fed
loop-byte-init c = refl

pub loop-byte-preserved : goal.loop-byte-preserved
loop-byte-preserved c =
    fed_byte c.args.bytes.now c.loop-byte.byte-index c.loop-byte.state c.reverse_bits.result _ c.eight_steps.result c.loop-byte-test.true (omega arith) (c.fits-bytes c.loop-byte.byte-index) c.loop-byte.invariant c.reverse_bits.ensures refl c.eight_steps.ensures

pub returns : goal.returns
returns c =
    let e : c.loop-byte.byte-index ≡ 512 = omega arith in
    subst (λ z. c.loop-byte.state ≡ fed (bit_of_word c.args.bytes.now 0) (8 * z)) e c.loop-byte.invariant ∙ fed_all c.args.bytes.now
