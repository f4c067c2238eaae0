use Rattle.driver_laws.proofs.rules.Failing.{failures_are_few}
use Rattle.driver_laws.proofs.rules.strikes.strikes_law.Goals as goal

pub returns : goal.returns
returns c = record { few = failures_are_few }
