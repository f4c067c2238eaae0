use Rattle.std.proofs.Common.{◌≡◌, take}
use Rattle.std.specs.List.{flat_map}
use Rattle.picture_svg.specs.Nesting.{told}
use Rattle.run_plan.specs.Notes.{line_of}
use Rattle.picture_svg.proofs.marks.tell.Given as goal

abbrev pub invariant-loop-note : goal.invariant-loop-note
invariant-loop-note l = l.out ≡ told (flat_map (line_of l.unit) (take l.note-index l.notes)) l.initial.out
