use Rattle.std.proofs.Common.{ℕ, List, ◌∷◌, ap, ◌∙◌, decimal}
use Rattle.std.specs.Prelude.{codes}
use Rattle.trace_lines.proofs.WordLaws.{written_short}
use Rattle.trace_lines.proofs.lines.idle.Goals as goal

pub returns : goal.returns
returns c = written_short (codes "idle") (decimal c.args.number) c.put_byte.new.self c.put_number.new.line c.put_piece.new.self
    (c.put_byte.ensures ∙ ap (λ (l : List ℕ). 10 ∷ l) c.new-line.ensures) c.put_number.ensures.text c.put_piece.ensures
