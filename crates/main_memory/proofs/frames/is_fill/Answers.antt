use Rattle.std.proofs.Common.{arith}
use Rattle.main_memory.proofs.FillLaws.{one_more_same, all_same}
use Rattle.main_memory.proofs.frames.is_fill.Goals as goal

pub loop-byte-preserved : goal.loop-byte-preserved
loop-byte-preserved c = one_more_same c.loop-byte.differ _ c.loop-byte.byte-index c.args.bytes.now c.loop-byte.invariant

pub returns : goal.returns
returns c = all_same c.loop-byte.differ c.loop-byte.byte-index c.args.bytes.now (omega (arith, c.loop-byte-test.false, c.loop-byte.auto.byte-index-end)) c.requires c.loop-byte.invariant
