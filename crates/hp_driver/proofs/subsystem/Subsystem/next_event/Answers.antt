use Rattle.std.proofs.Common.{subst}
use Rattle.std.specs.Prelude.{IfSome}
use Rattle.hp_driver.specs.Inputs.{input_of}
use Rattle.hp_driver.specs.Subsystem.{State, LeavesFewer}
use Rattle.hp_driver.proofs.Kept.{next_over, next_there, next_falls}
use Rattle.hp_driver.proofs.subsystem.Subsystem.next_event.Goals as goal

pub returns-clause-none : goal.returns-clause-none
returns-clause-none c =
    rw (← c.self.view_is) (next_over c.self.inside.core.world c.next_event.result c.self.invariant.sound
    (c.self.invariant.work (rw (← c.self.view_is) at c.requires.going)) c.next_event.ensures)

pub returns-clause-there : goal.returns-clause-there
returns-clause-there c =
    rw (← c.self.view_is) (next_there c.self.inside.core.world c.next_event.result c.self.invariant.sound c.next_event.ensures)

pub returns-clause-falls : goal.returns-clause-falls
returns-clause-falls c =
    subst (λ (s : State). IfSome c.next_event.result (λ event. LeavesFewer s.world (input_of event))) c.self.view_is
    (next_falls c.self.inside.core.world c.next_event.result c.falls_law.ensures.from c.next_event.ensures)
