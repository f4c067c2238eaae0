use Rattle.std.proofs.Common.{arith}
use Rattle.std.specs.Int.{w8}
use Rattle.std.proofs.lemmas.Nat.Bits.{bit_at-trailing_zeros}
use Rattle.hp_interrupts.proofs.lowest_attention.Goals as goal

pub returns-else-summary-eq0-clause-lowest : goal.returns-else-summary-eq0-clause-lowest
returns-else-summary-eq0-clause-lowest c = bit_at-trailing_zeros w8 c.args.summary (omega arith) (omega arith)
