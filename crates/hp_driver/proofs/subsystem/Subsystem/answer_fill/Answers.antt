use Rattle.hp_driver.proofs.Kept.{answered, read_slot, fill_given}
use Rattle.hp_driver.proofs.subsystem.Subsystem.answer_fill.Goals as goal

pub answer_fill-requires-clause-there : goal.answer_fill-requires-clause-there
answer_fill-requires-clause-there c =
    (answered c.self.inside.core.world c.in-Some-slot.slot c.args.k c.self.invariant.sound c.in-Some.made c.in-Some.ensures.some c.in-Some-slot.is
    (rw (← c.self.view_is) at c.requires.reads)).there

pub answer_fill-requires-clause-cpu : goal.answer_fill-requires-clause-cpu
answer_fill-requires-clause-cpu c =
    (answered c.self.inside.core.world c.in-Some-slot.slot c.args.k c.self.invariant.sound c.in-Some.made c.in-Some.ensures.some c.in-Some-slot.is
    (rw (← c.self.view_is) at c.requires.reads)).cpu

pub answer_fill-requires-clause-inside : goal.answer_fill-requires-clause-inside
answer_fill-requires-clause-inside c =
    (answered c.self.inside.core.world c.in-Some-slot.slot c.args.k c.self.invariant.sound c.in-Some.made c.in-Some.ensures.some c.in-Some-slot.is
    (rw (← c.self.view_is) at c.requires.reads)).inside

pub unreachable-requires-in_default-slot : goal.unreachable-requires-in_default-slot
unreachable-requires-in_default-slot c =
    read_slot c.self.inside.core.world c.args.k c.in-Some.made c.self.invariant.sound (rw (← c.self.view_is) at c.requires.reads) c.in-Some.ensures.some
    c.in_default-slot.is

pub returns : goal.returns
returns c =
    rw (← c.self.view_is) (fill_given c.self.inside.core.world c.args.k c.in-Some-slot.slot c.in-Some.made c.in-Some.ensures.some c.in-Some-slot.is c.answer_fill.result c.answer_fill.ensures)
