use Rattle.std.proofs.Common.{◌≡◌, drop}
use Rattle.script_reader.specs.Lines.{pieces_of}
use Rattle.run_view.proofs.plays.skip.Given as goal

-- behind those that are still to be skipped stands the same
abbrev pub invariant-lines : goal.invariant-lines
invariant-lines l = drop l.left (pieces_of l.rest) ≡ drop l.count (pieces_of l.text)

abbrev pub decreases-lines : goal.decreases-lines
decreases-lines l = l.left
