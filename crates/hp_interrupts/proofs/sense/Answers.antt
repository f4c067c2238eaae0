use Rattle.std.proofs.Common.{ap, refl, ◌∙◌, ◌==◌, bit_and, not}
use Rattle.hp_interrupts.proofs.BitTests.{off_exactly}
use Rattle.hp_interrupts.proofs.sense.Goals as goal

pub returns-then-not-contains-clause-offline : goal.returns-then-not-contains-clause-offline
returns-then-not-contains-clause-offline c =
    ((λ same. (off_exactly c.args.ds 12 c.contains.result (c.contains.ensures tt ∙ ap (λ word. bit_and word 4096 == 4096) (c.from_bits_retain-status.ensures tt))).0 (ap not c.if-not-contains.true)), (λ off. refl))
