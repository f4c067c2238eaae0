use Rattle.std.proofs.Common.{◌≡◌, ◌-◌, map, take, drop}
use Rattle.std.specs.List.{All, flat_map}
use Rattle.script_reader.specs.Lines.{pieces_of}
use Rattle.run_view.specs.Plays.{line_played}
use Rattle.run_view.specs.Saids.{said_of, IsHeardAt}
use Rattle.run_view.proofs.plays.plays_of.Given as goal

-- the lines so far are played, and the text stands at the next
abbrev pub invariant-lines : goal.invariant-lines
invariant-lines l = record {
  seen : map said_of l.plays.items ≡ flat_map (line_played l.script.text) (take l.line-index l.lines);
  heard : All IsHeardAt (map said_of l.plays.items);
  rest : pieces_of l.rest ≡ drop (l.next - 1) (pieces_of l.text);
}
