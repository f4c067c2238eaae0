use Rattle.std.proofs.Common.{◌≡◌, length}
use Rattle.trace_reader.specs.SoFar.{HasRead}
use Rattle.trace_reader.proofs.reader.read_trace.Given as goal

-- the lines so far were read
abbrev pub invariant-lines : goal.invariant-lines
invariant-lines l = record {
  script : l.left.script ≡ l.script;
  bytes : l.left.bytes ≡ l.bytes;
  read : HasRead l.left l.lines.items;
}

abbrev pub decreases-lines : goal.decreases-lines
decreases-lines l = length l.left.texts
