use Rattle.script_reader.specs.Meaning.{meaning_of}
use Rattle.event_player.proofs.Played.{IsPlayedTo}
use Rattle.event_player.proofs.play.play_lines.Given as goal

-- the lines before are played
abbrev pub invariant-loop-line : goal.invariant-loop-line
invariant-loop-line g l = IsPlayedTo (meaning_of l.script) l.line-index (g.V.Venue.at l.fn.venue) (g.V.Venue.at l.venue)
