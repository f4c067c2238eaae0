-- Each entry is that of the register.
use Rattle.std.proofs.Common.{◌*◌, ◌^◌, arith, ap, ◌∙◌}
use Rattle.fire_code.specs.Remainder.{times_x, repeat}
use Rattle.fire_code.proofs.ByteTable.{eight_steps-is}
use Rattle.fire_code.proofs.tables.eight_steps.Goals as goal

pub returns : goal.returns
returns c = eight_steps-is c.from.result (omega (arith, c.from.ensures, c.ranges.high)) ∙ ap (λ z. repeat times_x 8 (z * 2 ^ 24)) c.from.ensures
