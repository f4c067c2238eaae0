use Rattle.picture_chart.proofs.Putting.{right}
use Rattle.picture_chart.proofs.line.ChartLine.put_right.Goals as goal

pub returns : goal.returns
returns c =
    right c.args.self.now c.put_blanks.new.self c.put.new.self c.args.text.now c.fitting-text.result.now c.args.width
    c.saturating_sub.result c.fitting-text.ensures (search) c.put_blanks.ensures c.put.ensures
