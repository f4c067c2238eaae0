use Rattle.std.proofs.Common.{◌-◌, length}
use Rattle.disksort.specs.Buckets.{chain}
use Rattle.disksort.proofs.Walks.{IsWalk}
use Rattle.disksort.proofs.run.nth_in.Given as goal

-- what is left of the bucket
abbrev pub invariant-loop-done : goal.invariant-loop-done
invariant-loop-done l = IsWalk l.behind (chain l.behind (length l.behind) l.first l.last) l.number l.last (length l.behind - l.done) l.done
