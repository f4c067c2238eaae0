use Rattle.std.proofs.Common.{◌≡◌, take, fold}
use Rattle.drive_pictures.specs.declared.letters.Letter.TheVariants as letter
use Rattle.run_plan.specs.Letters.{oftener}
use Rattle.run_plan.proofs.cells.oftenest.Given as goal

abbrev pub invariant-loop-letter : goal.invariant-loop-letter
invariant-loop-letter l = l.lead ≡ fold (oftener l.tally l.events) letter.Idle (take l.letter-index l.letters)
