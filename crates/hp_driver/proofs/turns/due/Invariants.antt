use Rattle.std.proofs.Common.{◌+◌, ◌-◌, ◌*◌, length}
use Rattle.driver_machine.specs.World.{unit_at}
use Rattle.driver_machine.specs.Events.{until, next_acts, due_acts}
use Rattle.hp_driver.specs.Free.{IsFree}
use Rattle.hp_driver.proofs.Going.{Going}
use Rattle.hp_driver.proofs.turns.due.Given as goal

-- what is due is left to be done, but for the turns that were taken
abbrev pub invariant-loop : goal.invariant-loop
invariant-loop g l = record {
  going : Going g.T.Sink.tells g.T.Sink.taken g.T.Sink.faults l.fn.trace l.trace l.fn.core l.core (due_acts l.line l.u l.fn.core.world)
      (until ((8 + 3 * length (unit_at l.fn.core.world l.u).queue) - l.counter) (next_acts l.line l.u) l.core.world);
  free : IsFree l.core.world l.u;
}
