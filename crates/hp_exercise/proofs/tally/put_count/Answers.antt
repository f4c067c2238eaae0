use Rattle.std.proofs.Common.{ℕ, List, ◌++◌, decimal, ap, ◌∙◌}
use Rattle.hp_exercise.proofs.TextLaws.{room_of}
use Rattle.hp_exercise.proofs.tally.put_count.Goals as goal

pub returns-clause-room : goal.returns-clause-room
returns-clause-room c =
    room_of c.args.text.now c.args.words.now (decimal c.args.count) c.put_number.new.self
    (c.put_number.ensures ∙ ap (λ (text : List ℕ). text ++ decimal c.args.count) c.put.ensures) c.requires.short (c.numeral_law.ensures.room c.args.count c.ranges.count.fits)
