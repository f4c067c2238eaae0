use Rattle.std.proofs.Common.{◌≡◌, take}
use Rattle.picture_chart.specs.Charts.{text_of, IsChart}
use Rattle.picture_chart.proofs.line.text_of.Given as goal

abbrev pub invariant-loop-line : goal.invariant-loop-line
invariant-loop-line l = (l.text.items ≡ text_of (take l.line-index l.lines)) × IsChart l.text.items
