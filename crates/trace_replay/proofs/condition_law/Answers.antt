use Rattle.trace_replay.proofs.AsSaid.{is_as_said}
use Rattle.trace_replay.proofs.condition_law.Goals as goal

pub returns : goal.returns
returns c = is_as_said
