use Rattle.trace_replay.proofs.requests.ServiceOrderLaws.{queue_with-permutation}
use Rattle.trace_replay.proofs.requests.ServiceOrderRuns.{queue_with-in_order, drop-in_order}
use Rattle.trace_replay.proofs.requests.order_law.Goals as goal

pub returns-clause-joins : goal.returns-clause-joins
returns-clause-joins c = λ cylinder_of x queue is. queue_with-in_order cylinder_of x queue is

pub returns-clause-holds : goal.returns-clause-holds
returns-clause-holds c = λ cylinder_of x queue. queue_with-permutation cylinder_of x queue

pub returns-clause-leaves : goal.returns-clause-leaves
returns-clause-leaves c = λ cylinder_of queue is. drop-in_order cylinder_of queue is
