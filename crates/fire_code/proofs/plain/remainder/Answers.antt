-- The word's remainder by that of its data.
use Rattle.std.proofs.Common.{arith, ap, sym, ◌∙◌, bit_xor}
use Rattle.fire_code.proofs.Words.{word_remainder-split}
use Rattle.fire_code.proofs.plain.remainder.Goals as goal

pub returns : goal.returns
returns c = ap (λ z. bit_xor z c.args.check.0) c.data_remainder.ensures ∙ sym (word_remainder-split c.args.bytes.now c.args.check.0 (omega arith))
