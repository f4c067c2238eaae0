use Rattle.driver_laws.proofs.answers.Waiting.{events_take_none, submissions_take_none, events_answer, events_alone, submissions_alone}
use Rattle.driver_laws.proofs.answers.answers.calls_law.Goals as goal

pub returns-clause-event : goal.returns-clause-event
returns-clause-event c = events_take_none

pub returns-clause-submit : goal.returns-clause-submit
returns-clause-submit c = submissions_take_none

pub returns-clause-behind_event : goal.returns-clause-behind_event
returns-clause-behind_event c = events_answer

pub returns-clause-alone : goal.returns-clause-alone
returns-clause-alone c = events_alone

pub returns-clause-behind_submission : goal.returns-clause-behind_submission
returns-clause-behind_submission c = submissions_alone
