use Rattle.std.proofs.Common.{◌∙◌}
use Rattle.driver_machine.specs.World.{bytes_in}
use Rattle.event_player.specs.Answering.{first_blocks, first_line}
use Rattle.event_player.proofs.SaysLaws.{text_counted, text_same}
use Rattle.event_player.proofs.venue.OutletVenue.say_line.Goals as goal

pub returns-clause-says : goal.returns-clause-says
returns-clause-says g c =
    let w = c.args.self.now.subsystem.now.world in
    let answer = c.args.answer in
    let bytes = bytes_in (first_blocks w w.answers) in
    text_counted {tally = c.count_answer.new.self} (c.count_answer.ensures.counts answer.at answer.id bytes) c.count_answer.ensures.requests
    (text_same (first_line w answer) c.say.ensures.says (c.as_bytes.ensures.text ∙ c.answer_line-line.ensures bytes))
