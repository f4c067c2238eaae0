use Rattle.driver_laws.proofs.rules.Cleans.{done_moves_clean}
use Rattle.driver_laws.proofs.rules.waited.moves_law.Goals as goal

pub returns : goal.returns
returns c = done_moves_clean
