use Rattle.std.proofs.Common.{◌≡◌, drop}
use Rattle.mass_text.specs.Pieces.{pieces}
use Rattle.script_reader.proofs.data.eighth.Given as goal

abbrev pub invariant-loop : goal.invariant-loop
invariant-loop l = l.fields ≡ drop l.counter (pieces l.line)
