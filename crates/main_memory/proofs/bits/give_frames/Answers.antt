use Rattle.std.proofs.Common.{sym, ◌∙◌, arith}
use Rattle.main_memory.specs.Frames.{free_frames}
use Rattle.main_memory.proofs.FrameLaws.{with_frames-step, with_frames-done}
use Rattle.main_memory.proofs.bits.give_frames.Goals as goal

pub loop-frame-preserved : goal.loop-frame-preserved
loop-frame-preserved c =
    c.loop-frame.invariant
    ∙ with_frames-step c.args.frames.now (free_frames c.loop-frame.words) _ c.loop-frame.frame-index (omega arith) (sym c.give_frame.ensures)

pub returns : goal.returns
returns c =
    sym (c.loop-frame.invariant ∙ with_frames-done c.args.frames.now (free_frames c.loop-frame.words) c.loop-frame.frame-index (omega arith))
