use Rattle.std.proofs.Common.{List, ap}
use Rattle.disksort.specs.declared.Waiter.{Waiter}
use Rattle.disksort.specs.Runs.{seen}
use Rattle.disksort.proofs.Kept.{kept-new, waiting-none}
use Rattle.disksort.proofs.SortQueue.new.Goals as goal

pub returns : goal.returns
returns c =
    ap (λ (l : List Waiter). record { waiting = l; capacity = c.args.capacity; cylinders = c.args.cylinders })
    (waiting-none (seen c.in_ok-first.first) (seen c.in_ok-second.second) c.in_ok-behind.behind.items c.args.capacity c.args.cylinders c.in_ok-first.ensures.none
    c.in_ok-second.ensures.none)

pub invariant_of-result : goal.invariant_of-result
invariant_of-result c =
    kept-new (seen c.in_ok-first.first) (seen c.in_ok-second.second) c.in_ok-behind.behind.items c.args.capacity c.args.cylinders c.in_ok-first.ensures.firsts
    c.in_ok-first.ensures.lasts c.in_ok-second.ensures.firsts c.in_ok-second.ensures.lasts c.in_ok-first.ensures.none c.in_ok-second.ensures.none
    c.in_ok-behind.ensures c.requires.capacity c.requires.cylinders
