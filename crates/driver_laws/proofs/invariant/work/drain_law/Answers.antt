use Rattle.driver_laws.proofs.invariant.Next.{next_none, next_can}
use Rattle.driver_laws.proofs.invariant.work.drain_law.Goals as goal

pub returns-clause-none : goal.returns-clause-none
returns-clause-none c = next_none

pub returns-clause-next : goal.returns-clause-next
returns-clause-next c = next_can
