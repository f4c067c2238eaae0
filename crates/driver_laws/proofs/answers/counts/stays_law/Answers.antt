use Rattle.driver_laws.proofs.answers.Starts.{starts_with_room}
use Rattle.driver_laws.proofs.answers.Acts.{capacity_stays}
use Rattle.driver_laws.proofs.answers.Units.{setups_stay}
use Rattle.driver_laws.proofs.answers.counts.stays_law.Goals as goal

pub returns-clause-room : goal.returns-clause-room
returns-clause-room c = starts_with_room

pub returns-clause-capacity : goal.returns-clause-capacity
returns-clause-capacity c = capacity_stays

pub returns-clause-units : goal.returns-clause-units
returns-clause-units c = setups_stay
