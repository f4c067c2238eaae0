use Rattle.std.proofs.Common.{◌^◌}
use Rattle.trace_lines.proofs.answers.SumLaws.{sum_next, sum_all}
use Rattle.trace_lines.proofs.answers.tally.sum_of.Goals as goal

pub loop-byte-preserved : goal.loop-byte-preserved
loop-byte-preserved c = sum_next (2 ^ 32) c.args.text.now c.loop-byte.byte-index c.loop-byte.sum c.from-sum.result c.loop-byte-test.true c.loop-byte.invariant c.from-sum.ensures

pub returns : goal.returns
returns c = sum_all (2 ^ 32) c.args.text.now c.loop-byte.byte-index c.loop-byte.sum c.loop-byte-test.false c.loop-byte.invariant
