use Rattle.picture_chart.proofs.Putting.{text_none, blanks_step}
use Rattle.picture_chart.proofs.line.ChartLine.put_blanks.Goals as goal

pub loop-init : goal.loop-init
loop-init c = rw (← c.self.view_is) (text_none c.self.inside.text.items c.self.invariant.short)

pub loop-preserved : goal.loop-preserved
loop-preserved c =
    blanks_step c.args.self.now c.loop.self c.put_byte.new.self c.loop.counter c.loop.invariant c.put_byte.ensures
