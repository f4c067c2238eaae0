use Rattle.std.proofs.Common.{rules}
use Rattle.trace_lines.proofs.answers.FillLaws.{fill_line}
use Rattle.trace_lines.proofs.answers.fills.write_fill.Goals as goal

pub returns : goal.returns
returns c = λ size some.
    fill_line c.args.k size c.args.byte c.put_piece-2.new.self c.put_number.new.line c.put_piece-3.new.self some (search rules) c.put_number.ensures.text c.put_piece-3.ensures
