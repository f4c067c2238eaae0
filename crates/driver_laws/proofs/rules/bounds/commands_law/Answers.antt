use Rattle.driver_laws.proofs.rules.Commands.{commands_are_bounded, ends_are_bounded}
use Rattle.driver_laws.proofs.rules.Runs.{run_commands}
use Rattle.driver_laws.proofs.rules.Words.{told_as_commands}
use Rattle.driver_laws.proofs.rules.bounds.commands_law.Goals as goal

pub returns-clause-told : goal.returns-clause-told
returns-clause-told c = told_as_commands

pub returns-clause-reached : goal.returns-clause-reached
returns-clause-reached c = commands_are_bounded

pub returns-clause-ended : goal.returns-clause-ended
returns-clause-ended c = ends_are_bounded

pub returns-clause-run : goal.returns-clause-run
returns-clause-run c = run_commands
