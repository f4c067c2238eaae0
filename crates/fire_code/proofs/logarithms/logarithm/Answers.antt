-- The table inverts the powers.
use Rattle.std.proofs.Common.{◌^◌, ◌<◌, ◌∙◌, sym, subst}
use Rattle.fire_code.proofs.LogTable.{logarithm_at, logarithm_only}
use Rattle.fire_code.proofs.logarithms.logarithm.Goals as goal

pub returns-clause-below : goal.returns-clause-below
returns-clause-below c = (logarithm_at c.from.result c.args.value c.from.ensures c.requires.not_zero c.requires.small).0

pub returns-clause-power : goal.returns-clause-power
returns-clause-power c = (logarithm_at c.from.result c.args.value c.from.ensures c.requires.not_zero c.requires.small).1

pub returns-clause-only : goal.returns-clause-only
returns-clause-only c i below is = logarithm_only c.from.result i (subst (λ z. z < 2 ^ 11) (sym c.from.ensures) c.requires.small) below (is ∙ sym c.from.ensures)
