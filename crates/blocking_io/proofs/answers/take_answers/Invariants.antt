use Rattle.std.proofs.Common.{length}
use Rattle.blocking_io.proofs.Taking.{SoTaken}
use Rattle.blocking_io.proofs.answers.take_answers.Given as goal

-- the answers that no longer wait were given
abbrev pub invariant-loop-answer : goal.invariant-loop-answer
invariant-loop-answer l = SoTaken l.fn.subsystem l.subsystem (record { reached = l.fn.reached; bytes = l.fn.into }) (record { reached = l.reached; bytes = l.into })

abbrev pub decreases-loop-answer : goal.decreases-loop-answer
decreases-loop-answer l = length l.subsystem.world.answers
