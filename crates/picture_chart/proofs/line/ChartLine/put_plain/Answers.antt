use Rattle.std.proofs.Common.{arith}
use Rattle.picture_chart.proofs.Putting.{byte_fits, byte_cut}
use Rattle.picture_chart.proofs.line.ChartLine.put_plain.Goals as goal

pub returns-then-len-lt-WIDEST : goal.returns-then-len-lt-WIDEST
returns-then-len-lt-WIDEST c =
    rw (← c.self.view_is) (byte_fits c.self.inside.text.items c.push.new.self.items c.args.byte c.plain.result (omega (arith, c.if-len-lt-WIDEST.true, c.len.ensures.value)) c.plain.ensures.value (search))

pub returns-else-len-lt-WIDEST : goal.returns-else-len-lt-WIDEST
returns-else-len-lt-WIDEST c = rw (← c.self.view_is) (byte_cut c.self.inside.text.items c.args.byte c.self.invariant.short (omega (arith, c.if-len-lt-WIDEST.false, c.len.ensures.value)))
