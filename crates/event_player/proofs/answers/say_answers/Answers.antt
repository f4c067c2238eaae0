use Rattle.std.proofs.Common.{subst, sym}
use Rattle.hp_driver.specs.Subsystem.{State}
use Rattle.event_player.specs.Answering.{IsFirst}
use Rattle.event_player.proofs.AnswerLaws.{none_so_far, one_so_far, so_far_stops, all_so_far, state_so_far, some_waits, fewer_wait}
use Rattle.event_player.proofs.answers.say_answers.Goals as goal

pub take_answer-requires : goal.take_answer-requires
take_answer-requires g c =
    record { waits = some_waits (subst (λ (s : State). IsFirst s.world c.in-Some.answer) (sym c.in_ok-say_answer.ensures.driver) c.in-Some.ensures.some) }

pub loop-answer-init : goal.loop-answer-init
loop-answer-init g c = none_so_far (g.V.Venue.at c.args.venue.now)

pub loop-answer-preserved : goal.loop-answer-preserved
loop-answer-preserved g c =
    one_so_far c.taken_law.ensures.waiting c.loop-answer.invariant (g.V.Venue.at c.say_answer.new.venue) (g.V.Venue.at c.take_answer.new.self) c.law.ensures.sound c.in-Some.ensures.some
    c.in_ok-say_answer.ensures.says c.in_ok-say_answer.ensures.driver c.take_answer.ensures

pub loop-answer-smaller : goal.loop-answer-smaller
loop-answer-smaller g c = fewer_wait (g.V.Venue.at c.loop-answer.venue) (g.V.Venue.at c.say_answer.new.venue) (g.V.Venue.at c.take_answer.new.self) c.in-Some.ensures.some c.in_ok-say_answer.ensures.driver c.take_answer.ensures

pub returns-in_err-say_answer-clause-says : goal.returns-in_err-say_answer-clause-says
returns-in_err-say_answer-clause-says g c =
    so_far_stops c.taken_law.ensures.waiting c.loop-answer.invariant c.from_residual.result c.law.ensures.sound c.in-Some.ensures.some c.from_residual.ensures.0 c.in_err-say_answer.ensures.says

pub returns-clause-says : goal.returns-clause-says
returns-clause-says g c = all_so_far c.taken_law.ensures.waiting c.loop-answer.invariant c.in_default.ensures.none

pub returns-clause-taken : goal.returns-clause-taken
returns-clause-taken g c = state_so_far c.taken_law.ensures.waiting c.loop-answer.invariant c.in_default.ensures.none
