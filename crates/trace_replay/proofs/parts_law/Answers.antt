use Rattle.trace_replay.proofs.Following.{keeps_each, follow_on}
use Rattle.trace_replay.proofs.parts_law.Goals as goal

pub returns-clause-rules : goal.returns-clause-rules
returns-clause-rules c = keeps_each

pub returns-clause-parts : goal.returns-clause-parts
returns-clause-parts c = follow_on
