use Rattle.std.proofs.Common.{◌<◌, sym, subst}
use Rattle.hp_driver.proofs.subsystem.Subsystem.kind.Goals as goal

pub unit-requires : goal.unit-requires
unit-requires c = subst (λ n. c.args.unit < n) (sym c.self.invariant.sound.units) c.requires.unit.unit
