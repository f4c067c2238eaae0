use Rattle.std.proofs.Common.{◌≡◌}
use Rattle.event_player.specs.Playing.{counted, one_noise}
use Rattle.script_runs.proofs.LineLaws.{lines_before}
use Rattle.event_player.proofs.counting.count_noises.Given as goal

-- those of the lines before were counted
abbrev pub invariant-loop-line : goal.invariant-loop-line
invariant-loop-line l = l.count ≡ counted one_noise (lines_before l.script l.line-index)
