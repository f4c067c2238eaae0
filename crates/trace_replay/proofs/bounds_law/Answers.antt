use Rattle.trace_replay.proofs.Smooth.{one_transfer}
use Rattle.trace_replay.proofs.bounds_law.Goals as goal

pub returns : goal.returns
returns c = one_transfer
