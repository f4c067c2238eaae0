use Rattle.hp_driver.proofs.Kept.{kept_taken, taken_state, some_wait}
use Rattle.hp_driver.proofs.subsystem.Subsystem.take_answer.Goals as goal

pub invariant_of-self : goal.invariant_of-self
invariant_of-self c =
    kept_taken c.self.inside.core c.take.new.self c.self.inside.outstanding c.self.inside.failed (some_wait c.in_ok-made.made _ c.in_ok-made.ensures.some) c.self.invariant c.take.ensures

pub returns-clause-taken : goal.returns-clause-taken
returns-clause-taken c =
    rw (← c.self.view_is) (taken_state c.self.inside.core c.take.new.self c.self.inside.outstanding c.self.inside.failed c.take.ensures)
