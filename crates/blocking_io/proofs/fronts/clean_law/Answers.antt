use Rattle.blocking_io.proofs.FrontsFronts.{answered_moves_clean}
use Rattle.blocking_io.proofs.fronts.clean_law.Goals as goal

pub returns : goal.returns
returns c = answered_moves_clean
