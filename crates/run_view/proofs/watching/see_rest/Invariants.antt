use Rattle.std.proofs.Common.{◌≡◌, ◌-◌, length, map, drop, fold}
use Rattle.run_view.specs.Saids.{said_of}
use Rattle.run_view.proofs.watching.see_rest.Given as goal

-- what is still to be seen leads to the same
abbrev pub invariant-plays : goal.invariant-plays
invariant-plays g l = fold g.W.Watcher.step l.watcher (drop l.at (map said_of l.plays)) ≡ fold g.W.Watcher.step l.fn.watcher (drop l.from (map said_of l.plays))

abbrev pub decreases-plays : goal.decreases-plays
decreases-plays g l = length l.plays - l.at
