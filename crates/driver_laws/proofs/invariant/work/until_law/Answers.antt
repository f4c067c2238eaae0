use Rattle.driver_laws.proofs.invariant.Loops.{until_same}
use Rattle.driver_laws.proofs.invariant.work.until_law.Goals as goal

pub returns : goal.returns
returns c = record { same = until_same }
