use Rattle.script_reader.proofs.LineLaws.{pieces_at, pieces_whole}
use Rattle.script_reader.proofs.lines.first_piece.Goals as goal

pub returns-in-Some-clause-line : goal.returns-in-Some-clause-line
returns-in-Some-clause-line c = pieces_at c.args.bytes.now c.in-Some.at c.in-Some.ensures.found.0 c.in-Some.ensures.found.1 c.in-Some.ensures.before

pub returns-in-None-clause-line : goal.returns-in-None-clause-line
returns-in-None-clause-line c = pieces_whole c.args.bytes.now c.requires c.in-None.ensures.none
