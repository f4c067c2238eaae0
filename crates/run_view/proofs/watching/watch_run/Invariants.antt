use Rattle.std.proofs.Common.{◌≡◌, List, length, map, drop}
use Rattle.trace_reader.specs.declared.line.TraceLine.{TraceLine}
use Rattle.trace_reader.specs.SoFar.{HasRead}
use Rattle.run_view.specs.Saids.{said_of}
use Rattle.run_view.proofs.SeeLaws.{SawSo}
use Rattle.run_view.proofs.watching.watch_run.Given as goal

-- some lines were read, and all that is seen of them was seen
abbrev pub invariant-lines : goal.invariant-lines
invariant-lines g l = record {
  script : l.left.script ≡ l.script;
  bytes : l.left.bytes ≡ l.trace;
  lines : List TraceLine;
  read : HasRead l.left lines;
  saw : SawSo g.W.Watcher.step l.fn.watcher l.watcher (map said_of l.plays) (drop l.at (map said_of l.plays)) lines;
}

abbrev pub decreases-lines : goal.decreases-lines
decreases-lines g l = length l.left.texts
