use Rattle.std.proofs.Common.{ℕ, ap, rules, decimal}
use Rattle.trace_lines.proofs.CleanLaws.{written_clean}
use Rattle.trace_lines.proofs.clean.clean_line.Goals as goal

pub returns : goal.returns
returns c =
    written_clean (decimal c.args.number) (decimal c.from-3.result) (decimal c.from-2.result) (decimal c.from.result) (decimal c.args.unit) (decimal c.args.id) (decimal c.args.block)
    c.put_piece.new.self c.put_spaced.new.line c.put_spaced-2.new.line c.put_spaced-3.new.line c.put_digits.new.self c.put_piece-2.new.self
    (search rules) c.put_spaced.ensures.text (ap (λ (n : ℕ). decimal n) c.from.ensures) c.put_spaced-2.ensures.text (ap (λ (n : ℕ). decimal n) c.from-2.ensures)
    c.put_spaced-3.ensures.text (ap (λ (n : ℕ). decimal n) c.from-3.ensures) c.put_digits.ensures c.put_piece-2.ensures
