-- The two branches are the two cases of the lowest bit.
use Rattle.std.proofs.Common.{arith}
use Rattle.fire_code.proofs.Steps.{divided_carry, divided_plain}
use Rattle.fire_code.proofs.plain.over_x.Goals as goal

pub returns-then-value-ne0 : goal.returns-then-value-ne0
returns-then-value-ne0 c = divided_carry c.args.value (omega arith) c.if-value-ne0.true

pub returns-else-value-ne0 : goal.returns-else-value-ne0
returns-else-value-ne0 c = divided_plain c.args.value (omega arith) c.if-value-ne0.false
