use Rattle.std.proofs.Common.{◌≡◌, drop, length, replicate}
use Rattle.driver_machine.specs.World.{no_unit, set_up}
use Rattle.hp_units.specs.Setups.{setups_of}
use Rattle.hp_core.proofs.start.units_of.Given as goal

abbrev pub invariant-loop-setup : goal.invariant-loop-setup
invariant-loop-setup l = record {
  all : set_up (setups_of (drop l.setup-index l.setups)) l.units.items ≡ set_up (setups_of l.setups) (replicate 32 no_unit);
  size : length l.units.items ≡ 32;
}
