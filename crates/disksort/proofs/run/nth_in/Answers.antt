use Rattle.std.proofs.Common.{◌≡◌, ◌+◌, ◌-◌, length, subst, arith}
use Rattle.std.specs.Prelude.{slice_index}
use Rattle.disksort.specs.Buckets.{chain}
use Rattle.disksort.proofs.Walks.{IsWalk, walk-ends, walk-goes}
use Rattle.disksort.proofs.run.nth_in.Goals as goal

pub returns-then-number-last-clause-missing : goal.returns-then-number-last-clause-missing
returns-then-number-last-clause-missing c = omega (arith, walk-ends _ _ _ _ _ _ c.loop-done.invariant c.if-number-last.true)

pub loop-done-preserved : goal.loop-done-preserved
loop-done-preserved c =
    let size = length c.args.behind.now in
    let less : size - c.loop-done.done - 1 ≡ size - (c.loop-done.done + 1) = omega arith in
    subst (λ f. IsWalk c.args.behind.now (chain c.args.behind.now size c.args.first c.args.last) (slice_index c.args.behind.now c.loop-done.number) c.args.last f (c.loop-done.done + 1))
    less (walk-goes _ _ _ _ _ _ c.loop-done.invariant c.if-number-last.false)
