use Rattle.std.proofs.Common.{ℕ, List, [], ◌∷◌, ap, ◌∙◌, decimal}
use Rattle.trace_replay.specs.Text.{first_word, last_words}
use Rattle.trace_lines.specs.Deeds.{deed_of}
use Rattle.trace_lines.proofs.WordLaws.{written}
use Rattle.trace_lines.proofs.lines.deed.Goals as goal

pub returns : goal.returns
returns c = λ answer. written (first_word (deed_of answer c.args.told))
    (decimal c.args.number) (decimal c.from-2.result) (decimal c.from.result) (decimal c.args.unit) (decimal c.args.id) [] (last_words (deed_of answer c.args.told))
    c.put_byte.new.self c.put_last.new.line c.put_number.new.line c.put_number-2.new.line c.put_number-3.new.line c.put_first.new.line
    (c.put_byte.ensures ∙ ap (λ (l : List ℕ). 10 ∷ l) c.new-line.ensures) (c.put_last.ensures.text answer)
    c.put_number.ensures.text (ap (λ (n : ℕ). decimal n) c.from.ensures)
    c.put_number-2.ensures.text (ap (λ (n : ℕ). decimal n) c.from-2.ensures) c.put_number-3.ensures.text (c.put_first.ensures answer)
