use Rattle.picture_chart.specs.Pages.{Grows}
use Rattle.picture_chart.proofs.page.put_texts.Given as goal

abbrev pub invariant-loop-text : goal.invariant-loop-text
invariant-loop-text l = Grows l.initial.page.items l.page.items
