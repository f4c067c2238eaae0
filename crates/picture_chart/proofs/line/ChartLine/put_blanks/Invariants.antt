use Rattle.std.proofs.Common.{◌≡◌}
use Rattle.picture_chart.specs.Charts.{with_text, blanks}
use Rattle.picture_chart.proofs.line.ChartLine.put_blanks.Given as goal

abbrev pub invariant-loop : goal.invariant-loop
invariant-loop l = l.self ≡ with_text l.initial.self (blanks l.counter)
