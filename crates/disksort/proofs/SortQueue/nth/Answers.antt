use Rattle.disksort.specs.Runs.{seen}
use Rattle.disksort.proofs.Kept.{second-inside, nth-first}
use Rattle.disksort.proofs.SortQueue.nth.Goals as goal

pub nth-requires-in-Err-clause-inside : goal.nth-requires-in-Err-clause-inside
nth-requires-in-Err-clause-inside c =
    let q = c.self.inside in
    second-inside (seen q.first) (seen q.second) q.behind.items c.as_slice-behind.result.now q.count q.capacity q.cylinders c.self.invariant c.as_slice-behind.ensures.value

pub returns-in-Ok-clause-waiter : goal.returns-in-Ok-clause-waiter
returns-in-Ok-clause-waiter c =
    let q = c.self.inside in
    rw (← c.self.view_is)
    (nth-first (seen q.first) (seen q.second) q.behind.items c.as_slice-behind.result.now q.count q.capacity q.cylinders c.args.i c.in-Ok.waiter c.self.invariant
    c.as_slice-behind.ensures.value c.in-Ok.ensures.waiter)
