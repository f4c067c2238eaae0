use Rattle.driver_laws.proofs.shown.EachAct.{acts_bear}
use Rattle.driver_laws.proofs.shown.QuietCalls.{submissions_bear, events_bear, takings_bear}
use Rattle.driver_laws.proofs.shown.bytes.calls_law.Goals as goal

pub returns-clause-act : goal.returns-clause-act
returns-clause-act c = acts_bear

pub returns-clause-submit : goal.returns-clause-submit
returns-clause-submit c = submissions_bear

pub returns-clause-event : goal.returns-clause-event
returns-clause-event c = events_bear

pub returns-clause-taken : goal.returns-clause-taken
returns-clause-taken c = takings_bear
