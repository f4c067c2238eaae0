use Rattle.blocking_io.proofs.FrontsFronts.{stopped_holds_front}
use Rattle.blocking_io.proofs.fronts.fronts_law.Goals as goal

pub returns : goal.returns
returns c = stopped_holds_front
