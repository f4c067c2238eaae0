use Rattle.std.proofs.Common.{◌≡◌, take}
use Rattle.run_plan.specs.Letters.{standing}
use Rattle.run_plan.proofs.cells.standing.Given as goal

abbrev pub invariant-loop-letter : goal.invariant-loop-letter
invariant-loop-letter l = l.sum ≡ standing l.tally (take l.letter-index l.letters)
