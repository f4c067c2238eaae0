use Rattle.std.proofs.Common.{take}
use Rattle.trace_reader.specs.Knowing.{Knows}
use Rattle.trace_reader.proofs.asked.Asked.new.Given as goal

-- the requests of the lines so far
abbrev pub invariant-loop-line : goal.invariant-loop-line
invariant-loop-line l = Knows l.asked (take l.line-index l.lines)
