use Rattle.std.proofs.Common.{refl}
use Rattle.blocking_io.proofs.Taking.{so_far, one_more, oldest_kind, all_given, all_are_taken, fewer_wait}
use Rattle.blocking_io.proofs.answers.take_answers.Goals as goal

pub give-requires : goal.give-requires
give-requires c = record { oldest = oldest_kind c.loop-answer.subsystem.world c.in-Some.answer c.in-Some.ensures.some }

pub loop-answer-init : goal.loop-answer-init
loop-answer-init c = so_far c.args.subsystem.now _

pub loop-answer-preserved : goal.loop-answer-preserved
loop-answer-preserved c =
    one_more c.args.subsystem.now c.loop-answer.subsystem c.take_answer.new.self _ _ _ _ _ c.taken_law.ensures.waiting c.law.ensures.sound c.in-Some.answer c.in-Some.ensures.some
    c.reached_by.ensures c.give.ensures c.take_answer.result c.take_answer.ensures.taken c.take_answer.ensures.none.0 c.loop-answer.invariant

pub loop-answer-smaller : goal.loop-answer-smaller
loop-answer-smaller c =
    fewer_wait c.loop-answer.subsystem c.take_answer.new.self c.in-Some.answer c.in-Some.ensures.some c.take_answer.result c.take_answer.ensures.taken c.take_answer.ensures.none.0

pub returns-clause-given : goal.returns-clause-given
returns-clause-given c = all_given c.args.subsystem.now c.loop-answer.subsystem _ _ c.loop-answer.invariant (c.in_default.ensures.none.0 refl)

pub returns-clause-taken : goal.returns-clause-taken
returns-clause-taken c = all_are_taken c.args.subsystem.now c.loop-answer.subsystem _ _ c.loop-answer.invariant (c.in_default.ensures.none.0 refl)
