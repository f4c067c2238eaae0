use Rattle.std.proofs.Common.{◌≡◌, ◌-◌, length, map, drop}
use Rattle.run_view.specs.Saids.{said_of}
use Rattle.run_view.specs.Views.{played_text}
use Rattle.run_view.proofs.view.text_of.Given as goal

-- it is sought behind those so far
abbrev pub invariant-plays : goal.invariant-plays
invariant-plays l = played_text (drop l.at (map said_of l.plays)) l.line ≡ played_text (map said_of l.plays) l.line

abbrev pub decreases-plays : goal.decreases-plays
decreases-plays l = length l.plays - l.at
