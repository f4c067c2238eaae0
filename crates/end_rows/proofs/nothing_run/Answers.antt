use Rattle.end_rows.proofs.Wrong.{nothing_run, nothing_listed}
use Rattle.end_rows.proofs.nothing_run.Goals as goal

pub returns-clause-unread : goal.returns-clause-unread
returns-clause-unread c = nothing_run

pub returns-clause-unlisted : goal.returns-clause-unlisted
returns-clause-unlisted c = nothing_listed
