use Rattle.run_plan.specs.Notes.{line_of}
use Rattle.picture_svg.proofs.Telling.{tell_none}
use Rattle.picture_svg.proofs.marks.tell.Goals as goal

pub loop-note-init : goal.loop-note-init
loop-note-init c = tell_none (line_of c.args.unit) c.args.notes.now c.args.out.now
