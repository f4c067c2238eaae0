use Rattle.picture_chart.specs.Pages.{Grows}
use Rattle.picture_chart.proofs.rows.put_rows.Given as goal

abbrev pub invariant-loop-row : goal.invariant-loop-row
invariant-loop-row l = Grows l.initial.page.items l.page.items
