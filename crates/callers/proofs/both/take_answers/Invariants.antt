use Rattle.std.proofs.Common.{length}
use Rattle.callers.proofs.Taking.{SoTaken}
use Rattle.callers.proofs.both.take_answers.Given as goal

-- the answers that no longer wait were taken
abbrev pub invariant-loop-answer : goal.invariant-loop-answer
invariant-loop-answer l = SoTaken l.fn.subsystem l.subsystem

abbrev pub decreases-loop-answer : goal.decreases-loop-answer
decreases-loop-answer l = length l.subsystem.world.answers
