use Rattle.std.proofs.Common.{◌+◌, ◌-◌, length}
use Rattle.driver_machine.specs.Events.{until, choose_acts, adapter_start}
use Rattle.hp_driver.proofs.Going.{Going}
use Rattle.hp_driver.proofs.turns.start_adapter.Given as goal

-- the adapter's start is left to be done, but for the turns that were taken
abbrev pub invariant-loop : goal.invariant-loop
invariant-loop g l = Going g.T.Sink.tells g.T.Sink.taken g.T.Sink.faults l.fn.trace l.trace l.fn.core l.core (adapter_start l.line l.a l.fn.core.world)
    (until ((2 + length l.fn.core.world.slots) - l.counter) (choose_acts l.line l.a) l.core.world)
