use Rattle.picture_chart.proofs.Putting.{left}
use Rattle.picture_chart.proofs.line.ChartLine.put_left.Goals as goal

pub returns : goal.returns
returns c =
    left c.args.self.now c.put.new.self c.put_blanks.new.self c.args.text.now c.fitting-text.result.now c.args.width
    c.saturating_sub.result c.fitting-text.ensures (search) c.put.ensures c.put_blanks.ensures
