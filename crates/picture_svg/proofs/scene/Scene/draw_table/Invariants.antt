use Rattle.std.proofs.Common.{◌≡◌, ◌+◌, ◌*◌, take, fold}
use Rattle.picture_svg.specs.Nesting.{with_row}
use Rattle.picture_svg.proofs.scene.Scene.draw_table.Given as goal

abbrev pub invariant-loop-request : goal.invariant-loop-request
invariant-loop-request l = record {
  rows : l.out ≡ fold with_row l.initial.out (take l.request-index l.self.shown.now.listed.items);
  place : l.y ≡ l.initial.y + 13 * l.request-index;
}
