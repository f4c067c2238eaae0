use Rattle.picture_chart.proofs.Charting.{chart_more, text_of_step}
use Rattle.picture_chart.proofs.line.text_of.Goals as goal

pub loop-line-preserved : goal.loop-line-preserved
loop-line-preserved c = (
  text_of_step c.args.lines.now c.loop-line.line-index _ _ _ c.loop-line-test.true (search) c.loop-line.invariant.0
      c.in_ok-put_ended.ensures.text,
  chart_more _ _ _ c.loop-line.invariant.1 c.put_ended.ensures.line c.in_ok-put_ended.ensures.text,
)
