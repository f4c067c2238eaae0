use Rattle.std.proofs.Common.{◌≡◌, take}
use Rattle.picture_chart.specs.Charts.{with_text}
use Rattle.picture_chart.proofs.line.ChartLine.put.Given as goal

abbrev pub invariant-loop-byte : goal.invariant-loop-byte
invariant-loop-byte l = l.self ≡ with_text l.initial.self (take l.byte-index l.bytes)
