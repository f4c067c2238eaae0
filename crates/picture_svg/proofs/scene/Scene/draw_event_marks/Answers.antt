use Rattle.picture_svg.proofs.Telling.{quiet}
use Rattle.picture_svg.proofs.scene.Scene.draw_event_marks.Goals as goal

pub returns-else-has_tip : goal.returns-else-has_tip
returns-else-has_tip c =
    quiet c.args.unit c.args.notes.now c.speaks_of-tells.result c.has_look-shows.result c.has_tip.result c.args.out.now c.speaks_of-tells.ensures c.has_tip.ensures c.if-has_tip.false
