use Rattle.std.proofs.Common.{◌≡◌, length}
use Rattle.run_view.specs.Captions.{without_back}
use Rattle.run_view.proofs.caption.without_back.Given as goal

-- without the blanks it is the same
abbrev pub invariant-blanks : goal.invariant-blanks
invariant-blanks l = without_back l.rest ≡ without_back l.text

abbrev pub decreases-blanks : goal.decreases-blanks
decreases-blanks l = length l.rest
