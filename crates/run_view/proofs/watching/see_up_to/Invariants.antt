use Rattle.std.proofs.Common.{◌≡◌, ◌-◌, length, map, drop, fold}
use Rattle.run_view.specs.Saids.{said_of}
use Rattle.run_view.specs.Runs.{up_to, beyond}
use Rattle.run_view.proofs.watching.see_up_to.Given as goal

-- what is still to be seen up to the number leads to the same
abbrev pub invariant-plays : goal.invariant-plays
invariant-plays g l = record {
  saw : fold g.W.Watcher.step l.watcher (up_to l.number (drop l.at (map said_of l.plays))) ≡ fold g.W.Watcher.step l.fn.watcher (up_to l.number (drop l.from (map said_of l.plays)));
  left : beyond l.number (drop l.at (map said_of l.plays)) ≡ beyond l.number (drop l.from (map said_of l.plays));
}

abbrev pub decreases-plays : goal.decreases-plays
decreases-plays g l = length l.plays - l.at
