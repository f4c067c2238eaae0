use Rattle.std.proofs.Common.{◌≡◌, drop}
use Rattle.main_memory.specs.Frames.{free_frames, with_frames}
use Rattle.main_memory.proofs.bits.give_frames.Given as goal

abbrev pub invariant-loop-frame : goal.invariant-loop-frame
invariant-loop-frame l = with_frames l.frames (free_frames l.initial.words) ≡ with_frames (drop l.frame-index l.frames) (free_frames l.words)
