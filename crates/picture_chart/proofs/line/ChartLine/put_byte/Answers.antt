use Rattle.picture_chart.proofs.Putting.{byte_left, byte_put}
use Rattle.picture_chart.proofs.line.ChartLine.put_byte.Goals as goal

pub returns-then-goes_on : goal.returns-then-goes_on
returns-then-goes_on c = rw (← c.self.view_is) (byte_left c.self.inside.text.items c.args.byte c.goes_on.result c.self.invariant.short c.goes_on.ensures c.if-goes_on.true)

pub returns : goal.returns
returns c = byte_put c.args.self.now c.put_plain.new.self c.args.byte c.goes_on.result c.goes_on.ensures c.if-goes_on.false c.put_plain.ensures
