use Rattle.picture_chart.proofs.Growing.{panels_more}
use Rattle.picture_chart.proofs.page.put_panels.Goals as goal

pub loop-panel-preserved : goal.loop-panel-preserved
loop-panel-preserved c =
    panels_more c.args.sheet.now c.loop-panel.panel c.columns-columns.result.now c.panel_columns-some.result.now c.args.page.now.items
    c.loop-panel.page.items c.put_panel.new.page.items c.columns-columns.ensures c.panel_columns-some.ensures c.loop-panel.invariant
    c.in_ok-put_panel.ensures
