use Rattle.std.proofs.Common.{ℕ, List, refl, ap, take, ◌∙◌}
use Rattle.trace_lines.specs.answers.AnswerText.{block_text}
use Rattle.event_player.proofs.AnswerLaws.{block_given, fill_given}
use Rattle.event_player.proofs.SaysLaws.{text_at}
use Rattle.event_player.proofs.venue.OutletVenue.say_block.Goals as goal

pub returns-in-Some-clause-says : goal.returns-in-Some-clause-says
returns-in-Some-clause-says g c =
    let block = c.requires.block in
    let given = fill_given block c.in-Some.byte (c.in-Some.ensures block.reads.made block.slot block.reads.oldest block.slot_is) in
    let says = c.say_short.ensures in
    text_at _ c.say_short.result says.says says.counts says.requests refl
    (ap (λ (n : ℕ). take n c.front.result.now) c.len.ensures.len ∙ c.front.ensures ∙ c.write_fill.ensures c.args.size block.some ∙ ap (λ (bytes : List ℕ). block_text c.args.k bytes) given)

pub returns-clause-says : goal.returns-clause-says
returns-clause-says g c =
    let block = c.requires.block in
    let given = block_given block c.answer_block.new.into (c.answer_block.ensures block.reads.made block.slot block.reads.oldest block.slot_is) in
    let says = c.say.ensures in
    text_at _ c.say.result says.says says.counts says.requests refl (c.as_bytes.ensures.text ∙ c.write_block.ensures ∙ ap (λ (bytes : List ℕ). block_text c.args.k bytes) given)
