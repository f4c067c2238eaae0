-- The register after the bits so far.
use Rattle.std.proofs.Common.{◌≡◌, ◌+◌, ◌*◌}
use Rattle.fire_code.specs.Word.{bit_of_word}
use Rattle.fire_code.proofs.Words.{fed}
use Rattle.fire_code.proofs.plain.data_remainder.Given as goal

abbrev pub invariant-loop-byte : goal.invariant-loop-byte
invariant-loop-byte l = l.state ≡ fed (bit_of_word l.bytes 0) (8 * l.byte-index)

abbrev pub invariant-loop-bit : goal.invariant-loop-bit
invariant-loop-bit l = l.state ≡ fed (bit_of_word l.bytes 0) (8 * l.byte-index + l.bit)
