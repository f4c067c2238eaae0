use Rattle.std.proofs.Common.{◌≡◌, ◌≤◌, replicate}
use Rattle.std.specs.Vec.{vec_len, vec_capacity}
use Rattle.driver_machine.specs.World.{no_unit}
use Rattle.hp_core.proofs.start.blank_units.Given as goal

abbrev pub invariant-loop : goal.invariant-loop
invariant-loop l = record {
  items : l.units.items ≡ replicate l.counter no_unit;
  len : vec_len l.units ≡ l.counter;
  room : 32 ≤ vec_capacity l.units;
}
