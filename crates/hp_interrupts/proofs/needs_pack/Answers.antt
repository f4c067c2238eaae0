use Rattle.std.proofs.Common.{ap, ◌∙◌, ◌==◌, bit_and}
use Rattle.hp_interrupts.proofs.BitTests.{off_exactly}
use Rattle.hp_interrupts.proofs.needs_pack.Goals as goal

pub returns-clause-bit : goal.returns-clause-bit
returns-clause-bit c = off_exactly c.args.ds 6 c.contains.result (c.contains.ensures tt ∙ ap (λ word. bit_and word 64 == 64) (c.from_bits_retain.ensures tt))
