use Rattle.std.proofs.Common.{◌<◌, length, arith}
use Rattle.disksort.specs.Buckets.{bucket}
use Rattle.disksort.specs.Runs.{seen}
use Rattle.disksort.proofs.Walks.{spell-get, spell-size, spell-none}
use Rattle.disksort.proofs.run.Run.nth.Goals as goal

pub loop-cylinder-init : goal.loop-cylinder-init
loop-cylinder-init c = let none = spell-none (bucket (length c.args.behind.now) (seen c.args.self.now) c.args.behind.now) in omega (arith, none)

pub returns-in-Ok-clause-waiter : goal.returns-in-Ok-clause-waiter
returns-in-Ok-clause-waiter c =
    let inside : c.loop-cylinder.cylinder < length c.args.self.now.firsts.items = omega (arith, c.len-cylinder-end.ensures, c.args.self.now.firsts.ok) in
    spell-get (bucket (length c.args.behind.now) (seen c.args.self.now) c.args.behind.now) c.loop-cylinder.cylinder _ c.loop-cylinder.left c.args.i
    c.in-Ok.number inside c.loop-cylinder.invariant c.in-Ok.ensures.number

pub loop-cylinder-preserved : goal.loop-cylinder-preserved
loop-cylinder-preserved c =
    let size = spell-size (bucket (length c.args.behind.now) (seen c.args.self.now) c.args.behind.now) c.loop-cylinder.cylinder in
    omega (arith, size, c.loop-cylinder.invariant, c.in-Err.ensures.missing)
