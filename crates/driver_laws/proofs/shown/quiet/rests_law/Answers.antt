use Rattle.driver_laws.proofs.shown.QuietRests.{quiet_rests}
use Rattle.driver_laws.proofs.shown.New.{new_is_quiet}
use Rattle.driver_laws.proofs.shown.quiet.rests_law.Goals as goal

pub returns-clause-rests : goal.returns-clause-rests
returns-clause-rests c = quiet_rests

pub returns-clause-new : goal.returns-clause-new
returns-clause-new c = new_is_quiet
