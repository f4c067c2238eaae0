-- A multiple of eight by the table, and the rest by the table of eight steps.
use Rattle.std.proofs.Common.{refl}
use Rattle.fire_code.proofs.Bytes.{power_from}
use Rattle.fire_code.proofs.PowerTable.{power_entry}
use Rattle.fire_code.proofs.tables.power.Goals as goal

pub returns : goal.returns
returns c =
    power_from c.args.exponent c.from-2.result _ c.eight_steps.result
    (power_entry c.from.result c.args.exponent c.from-2.result c.from-2.ensures c.from.ensures c.requires) refl c.eight_steps.ensures
