use Rattle.std.proofs.Common.{◌≡◌, ◌-◌, ◌<◌, ◌≤◌, [], length, drop, map}
use Rattle.script_lines.specs.Known.{known_of}
use Rattle.script_lines.specs.Knowing.{known_in}
use Rattle.script_reader.specs.Lines.{lines_of}
use Rattle.script_reader.specs.Reading.{reading}
use Rattle.script_reader.specs.Stored.{seen}
use Rattle.script_reader.proofs.script.read_into.Given as goal

-- what is left, behind the lines so far, is read as all of it is
abbrev pub invariant-lines : goal.invariant-lines
invariant-lines l = record {
  same : reading l.dialect (map (seen l.text) l.lines.items) l.number (lines_of l.rest) ≡ reading l.dialect [] 1 (lines_of l.text);
  known : known_in l.known ≡ known_of (map (seen l.text) l.lines.items);
  place : l.rest ≡ drop (length l.text - length l.rest) l.text;
  within : length l.rest ≤ length l.text;
  first : 0 < l.number;
  last : l.number ≤ 1000001;
  requests : (known_in l.known).requests < l.number;
  noises : (known_in l.known).noises < l.number;
}

abbrev pub decreases-lines : goal.decreases-lines
decreases-lines l = length l.rest
