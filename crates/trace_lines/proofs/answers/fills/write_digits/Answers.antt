use Rattle.std.proofs.Common.{arith}
use Rattle.mass_text.proofs.BlockLaws.{encode_lower-is}
use Rattle.trace_lines.proofs.answers.fills.write_digits.Goals as goal

pub returns : goal.returns
returns c = grind (arith, encode_lower-is c.args.bytes.now (λ i. omega (arith, c.type_inv.bytes i)))
