use Rattle.outside_files.proofs.SinkLaws.{front_kept}
use Rattle.outside_files.proofs.failure.SinkNotes.take.Goals as goal

pub returns-clause-piece : goal.returns-clause-piece
returns-clause-piece c = front_kept _ c.args.from.now _ _ c.min-length.ensures c.copy_from_slice.ensures.after
