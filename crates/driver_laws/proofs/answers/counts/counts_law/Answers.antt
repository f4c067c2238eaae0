use Rattle.driver_laws.proofs.answers.Starts.{starts_with_none}
use Rattle.driver_laws.proofs.answers.Acts.{within_more, acts_add, runs_add, takings_add}
use Rattle.driver_laws.proofs.answers.Events.{events_add, submissions_add}
use Rattle.driver_laws.proofs.answers.counts.counts_law.Goals as goal

pub returns-clause-start : goal.returns-clause-start
returns-clause-start c = starts_with_none

pub returns-clause-more : goal.returns-clause-more
returns-clause-more c = within_more

pub returns-clause-act : goal.returns-clause-act
returns-clause-act c = acts_add

pub returns-clause-acts : goal.returns-clause-acts
returns-clause-acts c = runs_add

pub returns-clause-event : goal.returns-clause-event
returns-clause-event c = events_add

pub returns-clause-submit : goal.returns-clause-submit
returns-clause-submit c = submissions_add

pub returns-clause-taken : goal.returns-clause-taken
returns-clause-taken c = takings_add
