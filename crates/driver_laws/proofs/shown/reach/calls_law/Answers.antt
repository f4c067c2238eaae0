use Rattle.driver_laws.proofs.shown.ReachActs.{acts_keep_reach}
use Rattle.driver_laws.proofs.shown.RunsCalls.{starts_within_reach, events_keep_reach, submissions_keep_reach, answers_keep_reach}
use Rattle.driver_laws.proofs.shown.reach.calls_law.Goals as goal

pub returns-clause-start : goal.returns-clause-start
returns-clause-start c = starts_within_reach

pub returns-clause-act : goal.returns-clause-act
returns-clause-act c = acts_keep_reach

pub returns-clause-event : goal.returns-clause-event
returns-clause-event c = events_keep_reach

pub returns-clause-submit : goal.returns-clause-submit
returns-clause-submit c = submissions_keep_reach

pub returns-clause-taken : goal.returns-clause-taken
returns-clause-taken c = answers_keep_reach
