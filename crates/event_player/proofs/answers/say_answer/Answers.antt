use Rattle.std.proofs.Common.{[], subst}
use Rattle.hp_driver.specs.Subsystem.{State}
use Rattle.event_player.specs.Answering.{first_rest}
use Rattle.event_player.specs.Spots.{SaysText}
use Rattle.event_player.proofs.SaysLaws.{text_both, text_stop}
use Rattle.event_player.proofs.answers.say_answer.Goals as goal

pub returns-in_err-say_line-clause-says : goal.returns-in_err-say_line-clause-says
returns-in_err-say_line-clause-says g c =
    text_stop _ (first_rest (g.V.Venue.at c.args.venue.now).driver.world c.args.answer.kind) c.from_residual.result c.from_residual.ensures.0 c.in_err-say_line.ensures.says

pub returns-clause-says : goal.returns-clause-says
returns-clause-says g c =
    text_both c.say_rest.result c.in_ok-say_line.ensures.says
    (subst (λ (s : State). SaysText [] (first_rest s.world c.args.answer.kind) c.say_rest.result (g.V.Venue.at c.say_line.new.self) (g.V.Venue.at c.say_rest.new.venue)) c.in_ok-say_line.ensures.driver c.say_rest.ensures.says)
