use Rattle.std.proofs.Common.{◌≡◌, drop}
use Rattle.driver_machine.specs.Events.{lowest, can_move}
use Rattle.hp_driver.proofs.drain.next_move.Given as goal

abbrev pub invariant-loop-a : goal.invariant-loop-a
invariant-loop-a l = lowest can_move (drop l.a l.core.world.adapters) l.a ≡ lowest can_move l.core.world.adapters 0
