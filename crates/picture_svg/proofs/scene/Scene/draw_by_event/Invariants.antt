use Rattle.std.proofs.Common.{◌≡◌, ◌≤◌, length, drop}
use Rattle.picture_svg.specs.Nesting.{told}
use Rattle.run_plan.specs.Notes.{lines_of}
use Rattle.picture_svg.proofs.scene.Scene.draw_by_event.Given as goal

abbrev pub invariant-loop-column : goal.invariant-loop-column
invariant-loop-column l = record {
  told : told (lines_of l.unit (drop l.from l.notes)) l.out ≡ told (lines_of l.unit l.notes) l.initial.out;
  inside : l.from ≤ length l.notes;
}
