-- The two branches are the two cases of the bit that falls out.
use Rattle.fire_code.proofs.Steps.{times_x_carry, times_x_plain}
use Rattle.fire_code.proofs.plain.times_x.Goals as goal

pub returns-then-value-ne0 : goal.returns-then-value-ne0
returns-then-value-ne0 c = times_x_carry c.args.value c.if-value-ne0.true

pub returns-else-value-ne0 : goal.returns-else-value-ne0
returns-else-value-ne0 c = times_x_plain c.args.value c.if-value-ne0.false
