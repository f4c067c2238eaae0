use Rattle.driver_laws.proofs.answers.Ids.{starts_of_none, acts_add, runs_add, events_add_none, submissions_add, taking_adds_none, no_others, others_are_fresh}
use Rattle.driver_laws.proofs.answers.answers.ids_law.Goals as goal

pub returns-clause-start : goal.returns-clause-start
returns-clause-start c = starts_of_none

pub returns-clause-act : goal.returns-clause-act
returns-clause-act c = acts_add

pub returns-clause-acts : goal.returns-clause-acts
returns-clause-acts c = runs_add

pub returns-clause-event : goal.returns-clause-event
returns-clause-event c = events_add_none

pub returns-clause-submit : goal.returns-clause-submit
returns-clause-submit c = submissions_add

pub returns-clause-taken : goal.returns-clause-taken
returns-clause-taken c = taking_adds_none

pub returns-clause-others : goal.returns-clause-others
returns-clause-others c = no_others

pub returns-clause-fresh : goal.returns-clause-fresh
returns-clause-fresh c = others_are_fresh
