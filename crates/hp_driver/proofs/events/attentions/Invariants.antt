use Rattle.std.proofs.Common.{drop}
use Rattle.driver_machine.specs.Events.{each, attention, drives}
use Rattle.hp_driver.proofs.Going.{Going}
use Rattle.hp_driver.proofs.events.attentions.Given as goal

-- the attentions of the drives from this one on are left to be taken
abbrev pub invariant-loop-drive : goal.invariant-loop-drive
invariant-loop-drive g l = Going g.T.Sink.tells g.T.Sink.taken g.T.Sink.faults l.fn.trace l.trace l.fn.core l.core (each (attention l.line l.a) drives l.fn.core.world)
    (each (attention l.line l.a) (drop l.drive drives) l.core.world)
