use Rattle.std.proofs.Common.{◌≡◌, ℕ, ◌<◌, ◌≤◌, ◌-◌, length, get_or}
use Rattle.drive_pictures.specs.declared.letters.Letter.TheVariants.{Idle}
use Rattle.run_plan.proofs.bars.end_of_bar.Given as goal

abbrev pub invariant-columns : goal.invariant-columns
invariant-columns l = record {
  some : l.from < l.to;
  inside : l.to ≤ length l.letters;
  same : (k : ℕ) → l.from ≤ k → k < l.to → get_or l.letters k Idle ≡ get_or l.letters l.from Idle;
}

abbrev pub decreases-columns : goal.decreases-columns
decreases-columns l = length l.letters - l.to
