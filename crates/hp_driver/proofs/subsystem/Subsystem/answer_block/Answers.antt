use Rattle.hp_driver.proofs.Kept.{answered, read_slot}
use Rattle.hp_driver.proofs.subsystem.Subsystem.answer_block.Goals as goal

pub answer_block-requires-clause-there : goal.answer_block-requires-clause-there
answer_block-requires-clause-there c =
    (answered c.self.inside.core.world c.in-Some-slot.slot c.args.k c.self.invariant.sound c.in-Some.made c.in-Some.ensures.some c.in-Some-slot.is
    (rw (← c.self.view_is) at c.requires.reads)).there

pub answer_block-requires-clause-cpu : goal.answer_block-requires-clause-cpu
answer_block-requires-clause-cpu c =
    (answered c.self.inside.core.world c.in-Some-slot.slot c.args.k c.self.invariant.sound c.in-Some.made c.in-Some.ensures.some c.in-Some-slot.is
    (rw (← c.self.view_is) at c.requires.reads)).cpu

pub answer_block-requires-clause-inside : goal.answer_block-requires-clause-inside
answer_block-requires-clause-inside c =
    (answered c.self.inside.core.world c.in-Some-slot.slot c.args.k c.self.invariant.sound c.in-Some.made c.in-Some.ensures.some c.in-Some-slot.is
    (rw (← c.self.view_is) at c.requires.reads)).inside

pub unreachable-requires-in_default-slot : goal.unreachable-requires-in_default-slot
unreachable-requires-in_default-slot c =
    read_slot c.self.inside.core.world c.args.k c.in-Some.made c.self.invariant.sound (rw (← c.self.view_is) at c.requires.reads) c.in-Some.ensures.some
    c.in_default-slot.is
