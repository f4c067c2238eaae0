use Rattle.std.proofs.Common.{◌≡◌, take, fold}
use Rattle.picture_svg.specs.Nesting.{with_letter}
use Rattle.picture_svg.proofs.legend.draw_letters.Given as goal

abbrev pub invariant-loop-letter : goal.invariant-loop-letter
invariant-loop-letter l = l.out ≡ fold with_letter l.initial.out (take l.letter-index l.letters)
