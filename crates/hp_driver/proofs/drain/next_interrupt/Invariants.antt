use Rattle.std.proofs.Common.{◌≡◌, drop}
use Rattle.driver_machine.specs.Events.{lowest, can_attend}
use Rattle.hp_driver.proofs.drain.next_interrupt.Given as goal

abbrev pub invariant-loop-a : goal.invariant-loop-a
invariant-loop-a l = lowest can_attend (drop l.a l.core.world.adapters) l.a ≡ lowest can_attend l.core.world.adapters 0
