use Rattle.std.proofs.Common.{◌≡◌, map, take}
use Rattle.script_reader.specs.cached.Scripts.{narrowed_line}
use Rattle.script_reader.proofs.cached.script.narrowed_lines.Given as goal

-- the lines before this one
abbrev pub invariant-loop-line : goal.invariant-loop-line
invariant-loop-line l = l.narrow.items ≡ map narrowed_line (take l.line-index l.lines)
