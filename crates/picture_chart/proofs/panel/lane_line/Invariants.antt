use Rattle.std.proofs.Common.{◌≡◌, [], take, fold}
use Rattle.picture_chart.specs.Charts.{with_text, at_left}
use Rattle.picture_chart.specs.Pages.{with_letter, unit_label}
use Rattle.picture_chart.proofs.panel.lane_line.Given as goal

abbrev pub invariant-loop-column : goal.invariant-loop-column
invariant-loop-column l = l.line ≡ fold (with_letter l.unit) (with_text [] (at_left 18 (unit_label l.sheet l.unit))) (take l.column-index l.columns)
