use Rattle.std.proofs.Common.{◌≡◌, ◌-◌, ◌≤◌, length, take}
use Rattle.run_plan.specs.Bars.{columns_of, numbered}
use Rattle.run_plan.proofs.bars.bars_of.Given as goal

abbrev pub invariant-columns : goal.invariant-columns
invariant-columns l = record {
  inside : l.from ≤ length l.letters;
  so_far : columns_of l.bars.items ≡ numbered 0 (take l.from l.letters);
}

abbrev pub decreases-columns : goal.decreases-columns
decreases-columns l = length l.letters - l.from
