use Rattle.driver_laws.proofs.shown.RunsLaws.{starts_kept, runs_keep, events_keep, submissions_keep, answers_keep}
use Rattle.driver_laws.proofs.shown.runs.kept_law.Goals as goal

pub returns-clause-start : goal.returns-clause-start
returns-clause-start c = starts_kept

pub returns-clause-acts : goal.returns-clause-acts
returns-clause-acts c = runs_keep

pub returns-clause-event : goal.returns-clause-event
returns-clause-event c = events_keep

pub returns-clause-submit : goal.returns-clause-submit
returns-clause-submit c = submissions_keep

pub returns-clause-taken : goal.returns-clause-taken
returns-clause-taken c = answers_keep
