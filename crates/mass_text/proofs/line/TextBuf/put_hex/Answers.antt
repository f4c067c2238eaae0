use Rattle.std.proofs.Common.{arith}
use Rattle.mass_text.proofs.BlockLaws.{encode_lower-is}
use Rattle.mass_text.proofs.line.TextBuf.put_hex.Goals as goal

pub returns : goal.returns
returns g c = grind (arith, encode_lower-is c.args.bytes.now (λ i. omega (arith, c.type_inv.bytes i)))
