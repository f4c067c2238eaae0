use Rattle.std.proofs.Common.{◌≡◌, ◌≤◌, replicate}
use Rattle.std.specs.Vec.{vec_len, vec_capacity}
use Rattle.driver_machine.specs.World.{new_adapter_view}
use Rattle.hp_core.proofs.start.free_channels.Given as goal

abbrev pub invariant-loop : goal.invariant-loop
invariant-loop l = record {
  items : l.channels.items ≡ replicate l.counter new_adapter_view;
  len : vec_len l.channels ≡ l.counter;
  room : 4 ≤ vec_capacity l.channels;
}
