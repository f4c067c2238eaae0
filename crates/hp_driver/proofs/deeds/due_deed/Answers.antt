use Rattle.std.proofs.Common.{Some, sym, ap, ◌∙◌, rules}
use Rattle.driver_machine.specs.declared.Phase.{Phase}
use Rattle.driver_machine.specs.Due.{next_by}
use Rattle.hp_driver.proofs.deeds.due_deed.Goals as goal

pub task_deed-requires : goal.task_deed-requires
task_deed-requires c = record { hand = c.requires.hand; phase = sym c.phase.ensures ∙ c.in-Due.is }

pub returns-in-Waiting : goal.returns-in-Waiting
returns-in-Waiting c = λ h a is. ap Some (c.start.ensures h a is) ∙ ap (λ (p : Phase). next_by p c.args.unit.now h) (sym c.in-Waiting.is ∙ c.phase.ensures)

pub returns-in-Due : goal.returns-in-Due
returns-in-Due c = λ h a is. ap Some (c.task_deed.ensures h a is) ∙ ap (λ (p : Phase). next_by p c.args.unit.now h) (sym c.in-Due.is ∙ c.phase.ensures)

pub returns-in-Positioning : goal.returns-in-Positioning
returns-in-Positioning c = λ h a is. search rules
