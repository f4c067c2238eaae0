use Rattle.std.proofs.Common.{◌≤◌, ◌-◌, length}
use Rattle.script_reader.proofs.LineLaws.{NoneBefore}
use Rattle.script_reader.proofs.lines.find_feed.Given as goal

abbrev pub invariant-fours : goal.invariant-fours
invariant-fours l = record {
  within : l.at ≤ length l.bytes;
  none : NoneBefore l.at l.bytes;
}

abbrev pub decreases-fours : goal.decreases-fours
decreases-fours l = length l.bytes - l.at

abbrev pub invariant-last : goal.invariant-last
invariant-last l = record {
  within : l.at ≤ length l.bytes;
  none : NoneBefore l.at l.bytes;
}

abbrev pub decreases-last : goal.decreases-last
decreases-last l = length l.bytes - l.at
