use Rattle.event_player.proofs.AnswerLaws.{SoFar}
use Rattle.std.proofs.Common.{length}
use Rattle.event_player.proofs.answers.say_answers.Given as goal

-- those that are taken were said
abbrev pub invariant-loop-answer : goal.invariant-loop-answer
invariant-loop-answer g l = SoFar (g.V.Venue.at l.fn.venue) (g.V.Venue.at l.venue)

abbrev pub decreases-loop-answer : goal.decreases-loop-answer
decreases-loop-answer g l = length (g.V.Venue.at l.venue).driver.world.answers
