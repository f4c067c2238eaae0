use Rattle.std.proofs.Common.{◌+◌, arith}
use Rattle.run_plan.specs.Notes.{line_of}
use Rattle.picture_svg.proofs.Telling.{tell_all, tell_range, fits_in, le_more}
use Rattle.picture_svg.proofs.scene.Scene.draw_by_event.Goals as goal

pub loop-column-init : goal.loop-column-init
loop-column-init c = record {
  told = tell_all (line_of c.args.unit) c.args.self.now.sheet.now.notes.now c.args.out.now;
  inside = omega arith;
}

pub loop-column-preserved : goal.loop-column-preserved
loop-column-preserved c = record {
  told =
      tell_range (line_of c.args.unit) c.args.self.now.sheet.now.notes.now c.loop-column.from
      (c.loop-column.from + c.count_to.result) c.loop-column.out c.draw_event_marks.new.out _
      (le_more c.loop-column.from c.count_to.result) c.in_ok-draw_event_marks.ensures c.loop-column.invariant.told;
  inside = fits_in c.args.self.now.sheet.now.notes.now c.loop-column.from c.count_to.result c.loop-column.invariant.inside c.count_to.ensures;
}
