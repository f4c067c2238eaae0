use Rattle.driver_laws.proofs.shown.Lengths.{events_keep_lengths, first_events_keep_lengths, later_events_keep_lengths, empty_drains_keep_lengths, submissions_keep_lengths}
use Rattle.driver_laws.proofs.shown.reach.lengths_law.Goals as goal

pub returns-clause-event : goal.returns-clause-event
returns-clause-event c = events_keep_lengths

pub returns-clause-first : goal.returns-clause-first
returns-clause-first c = first_events_keep_lengths

pub returns-clause-later : goal.returns-clause-later
returns-clause-later c = later_events_keep_lengths

pub returns-clause-empty : goal.returns-clause-empty
returns-clause-empty c = empty_drains_keep_lengths

pub returns-clause-submit : goal.returns-clause-submit
returns-clause-submit c = submissions_keep_lengths
