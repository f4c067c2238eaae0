use Rattle.driver_laws.proofs.shown.Calls.{drains_start, drains_go_on}
use Rattle.driver_laws.proofs.shown.TraceRuns.{drain_finds_nothing, drain_ends}
use Rattle.driver_laws.proofs.shown.trace.drains_law.Goals as goal

pub returns-clause-empty : goal.returns-clause-empty
returns-clause-empty c = drain_finds_nothing

pub returns-clause-starts : goal.returns-clause-starts
returns-clause-starts c = drains_start

pub returns-clause-goes_on : goal.returns-clause-goes_on
returns-clause-goes_on c = drains_go_on

pub returns-clause-ends : goal.returns-clause-ends
returns-clause-ends c = drain_ends
