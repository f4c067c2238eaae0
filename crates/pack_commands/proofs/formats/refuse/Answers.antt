use Rattle.pack_commands.proofs.FormatLaws.{told_nothing}
use Rattle.pack_commands.proofs.formats.refuse.Goals as goal

pub returns-in-Memory-clause-told : goal.returns-in-Memory-clause-told
returns-in-Memory-clause-told g c = λ t. told_nothing _ _ _ _ c.in-Memory.is
