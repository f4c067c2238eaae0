use Rattle.std.proofs.Common.{◌≡◌, fold, take}
use Rattle.drive_pictures.specs.Counts.{plus}
use Rattle.run_plan.proofs.figures.sum_of.Given as goal

abbrev pub invariant-loop-wait : goal.invariant-loop-wait
invariant-loop-wait l = l.sum ≡ fold plus 0 (take l.wait-index l.waits)
