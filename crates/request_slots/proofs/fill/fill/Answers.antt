use Rattle.std.proofs.Common.{refl, arith}
use Rattle.request_slots.proofs.FillLaws.{filled_none, filled_more, filled_all}
use Rattle.request_slots.proofs.fill.fill.Goals as goal

pub loop-k-init : goal.loop-k-init
loop-k-init c = filled_none c.args.memory.now c.args.buffer.now c.args.bytes.now c.requires.sound

pub loop-k-preserved : goal.loop-k-preserved
loop-k-preserved c = filled_more c.args.bytes.now c.loop-k.invariant c.store_piece.ensures (omega arith) refl

pub returns-clause-held : goal.returns-clause-held
returns-clause-held c = filled_all c.loop-k.k c.loop-k.invariant (omega arith)
