use Rattle.picture_chart.specs.Pages.{Panels}
use Rattle.picture_chart.proofs.page.put_panels.Given as goal

abbrev pub invariant-loop-panel : goal.invariant-loop-panel
invariant-loop-panel l = Panels l.sheet l.panel l.initial.page.items l.page.items
