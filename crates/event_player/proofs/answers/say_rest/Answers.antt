use Rattle.std.proofs.Common.{[], subst, sym}
use Rattle.trace_replay.specs.declared.requests.answers.AnswerKind.{AnswerKind}
use Rattle.event_player.specs.Answering.{first_rest}
use Rattle.event_player.specs.Spots.{SaysText}
use Rattle.event_player.proofs.answers.say_rest.Goals as goal

pub returns-in-ReadOk-clause-says : goal.returns-in-ReadOk-clause-says
returns-in-ReadOk-clause-says g c =
    subst (λ (kind : AnswerKind). SaysText [] (first_rest (g.V.Venue.at c.args.venue.now).driver.world kind) c.say_blocks.result (g.V.Venue.at c.args.venue.now) (g.V.Venue.at c.say_blocks.new.venue))
    (sym c.in-ReadOk.is) c.say_blocks.ensures.says
