use Rattle.std.proofs.Common.{sym, ap, ◌∙◌}
use Rattle.driver_machine.specs.declared.Phase.TheVariants.{Due}
use Rattle.driver_machine.specs.declared.Task.{Task}
use Rattle.driver_machine.specs.Due.{deed_for}
use Rattle.hp_core.specs.declared.deed.Deed.{Deed}
use Rattle.hp_core.specs.Deeds.{deed_in}
use Rattle.hp_driver.proofs.deeds.task_deed.Goals as goal

pub judge-requires : goal.judge-requires
judge-requires c = record { hand = c.requires.hand; phase = c.requires.phase ∙ ap Due c.in-Judge.is }

pub next_step-requires : goal.next_step-requires
next_step-requires c = record { hand = c.requires.hand; phase = c.requires.phase ∙ ap Due c.in-Steps.is }

pub returns-in-Clear : goal.returns-in-Clear
returns-in-Clear c = λ h a is. ap (λ (t : Task). deed_for t c.args.unit.now h) (sym c.in-Clear.is)

pub returns-in-Judge : goal.returns-in-Judge
returns-in-Judge c = λ h a is. c.judge.ensures h a is ∙ ap (λ (t : Task). deed_for t c.args.unit.now h) (sym c.in-Judge.is)

pub returns-in-Steps : goal.returns-in-Steps
returns-in-Steps c = λ h a is. c.next_step.ensures h a ∙ ap (λ (t : Task). deed_for t c.args.unit.now h) (sym c.in-Steps.is)

pub returns-in-Command : goal.returns-in-Command
returns-in-Command c = λ h a is. c.command.ensures h a is ∙ ap (λ (t : Task). deed_for t c.args.unit.now h) (sym c.in-Command.is)

pub returns-in-GiveUp : goal.returns-in-GiveUp
returns-in-GiveUp c = λ h a is. ap (λ (d : Deed). deed_in d c.args.unit.now h a) c.failed.ensures ∙ ap (λ (t : Task). deed_for t c.args.unit.now h) (sym c.in-GiveUp.is)
