use Rattle.std.proofs.Common.{rules}
use Rattle.hp_units.proofs.Heads.{empty-without-head}
use Rattle.hp_units.proofs.unit.DiskUnit.head.Goals as goal

pub returns-in_err-waiter-clause-none : goal.returns-in_err-waiter-clause-none
returns-in_err-waiter-clause-none c = rw c.from_residual.ensures (empty-without-head _ (search rules))
