use Rattle.std.proofs.Common.{◌≡◌, take}
use Rattle.picture_chart.specs.Pages.{legend_line}
use Rattle.picture_chart.proofs.page.legend_line.Given as goal

abbrev pub invariant-loop-letter : goal.invariant-loop-letter
invariant-loop-letter l = l.line ≡ legend_line l.label (take l.letter-index l.letters)
