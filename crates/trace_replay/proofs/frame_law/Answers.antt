use Rattle.trace_replay.proofs.Unchanged.{one_unit, one_adapter, one_pack, no_mark}
use Rattle.trace_replay.proofs.frame_law.Goals as goal

pub returns-clause-unit : goal.returns-clause-unit
returns-clause-unit c = one_unit

pub returns-clause-adapter : goal.returns-clause-adapter
returns-clause-adapter c = one_adapter

pub returns-clause-pack : goal.returns-clause-pack
returns-clause-pack c = one_pack

pub returns-clause-mark : goal.returns-clause-mark
returns-clause-mark c = no_mark
