use Rattle.std.proofs.Common.{ap, ◌∙◌, [], ◌∷◌, decimal}
use Rattle.picture_chart.specs.Charts.{with_text, at_right}
use Rattle.picture_chart.proofs.Putting.{both}
use Rattle.picture_chart.proofs.line.ChartLine.put_count.Goals as goal

pub returns : goal.returns
returns c =
    both c.args.self.now c.put_byte.new.self c.put_right.new.self (32 ∷ []) (at_right c.args.width (decimal c.args.number)) c.put_byte.ensures
    (c.put_right.ensures ∙ ap (λ text. with_text c.put_byte.new.self (at_right c.args.width text)) (c.as_bytes.ensures.value ∙ c.format.ensures.text))
