use Rattle.driver_laws.proofs.shown.Start.{starts}
use Rattle.driver_laws.proofs.shown.Calls.{events_go, submissions_go, answers_go}
use Rattle.driver_laws.proofs.shown.trace.calls_law.Goals as goal

pub returns-clause-start : goal.returns-clause-start
returns-clause-start c = starts

pub returns-clause-event : goal.returns-clause-event
returns-clause-event c = events_go

pub returns-clause-submit : goal.returns-clause-submit
returns-clause-submit c = submissions_go

pub returns-clause-taken : goal.returns-clause-taken
returns-clause-taken c = answers_go
