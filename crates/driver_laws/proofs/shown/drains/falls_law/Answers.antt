use Rattle.driver_laws.proofs.shown.Falls.{scripts_can_start, first_events_fall, drains_fall, falls_from, drains_keep}
use Rattle.driver_laws.proofs.shown.drains.falls_law.Goals as goal

pub returns-clause-first : goal.returns-clause-first
returns-clause-first c = first_events_fall

pub returns-clause-later : goal.returns-clause-later
returns-clause-later c = drains_fall

pub returns-clause-line : goal.returns-clause-line
returns-clause-line c = drains_keep

pub returns-clause-start : goal.returns-clause-start
returns-clause-start c = scripts_can_start

pub returns-clause-from : goal.returns-clause-from
returns-clause-from c = falls_from
