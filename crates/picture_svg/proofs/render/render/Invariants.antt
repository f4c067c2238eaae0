use Rattle.std.proofs.Common.{◌≡◌, [], take, fold}
use Rattle.picture_svg.specs.Texts.{with_piece}
use Rattle.picture_svg.proofs.render.render.Given as goal

abbrev pub invariant-loop-piece : goal.invariant-loop-piece
invariant-loop-piece l = l.out.items ≡ fold with_piece [] (take l.piece-index l.pieces)
