use Rattle.std.proofs.Common.{refl}
use Rattle.callers.proofs.Taking.{so_far, one_more, all_are_taken}
use Rattle.blocking_io.proofs.Taking.{fewer_wait}
use Rattle.callers.proofs.both.take_answers.Goals as goal

pub loop-answer-init : goal.loop-answer-init
loop-answer-init c = so_far c.args.subsystem.now

pub loop-answer-preserved : goal.loop-answer-preserved
loop-answer-preserved c =
    one_more c.args.subsystem.now c.loop-answer.subsystem c.take_answer.new.self c.in-Some.answer c.in-Some.ensures.some
    c.take_answer.result c.take_answer.ensures.taken c.take_answer.ensures.none.0 c.loop-answer.invariant

pub loop-answer-smaller : goal.loop-answer-smaller
loop-answer-smaller c =
    fewer_wait c.loop-answer.subsystem c.take_answer.new.self c.in-Some.answer c.in-Some.ensures.some c.take_answer.result c.take_answer.ensures.taken c.take_answer.ensures.none.0

pub returns : goal.returns
returns c = all_are_taken c.args.subsystem.now c.loop-answer.subsystem c.loop-answer.invariant (c.in_default.ensures.none.0 refl)
