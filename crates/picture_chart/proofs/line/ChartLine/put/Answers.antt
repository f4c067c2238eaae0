use Rattle.picture_chart.proofs.Putting.{text_none, text_step}
use Rattle.picture_chart.proofs.line.ChartLine.put.Goals as goal

pub loop-byte-init : goal.loop-byte-init
loop-byte-init c = rw (← c.self.view_is) (text_none c.self.inside.text.items c.self.invariant.short)

pub loop-byte-preserved : goal.loop-byte-preserved
loop-byte-preserved c =
    text_step c.args.self.now c.loop-byte.self c.put_byte.new.self c.args.bytes.now c.loop-byte.byte-index c.loop-byte-test.true
    c.loop-byte.invariant c.put_byte.ensures
