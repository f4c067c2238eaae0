use Rattle.std.proofs.Common.{rules}
use Rattle.std.proofs.lemmas.List.{take_min}
use Rattle.outside_files.proofs.failure.SinkNotes.last_piece.Goals as goal

pub returns : goal.returns
returns c = grind (rules, take_min)
