use Rattle.script_lines.specs.Words.{all_verbs}
use Rattle.hpview_run.proofs.command.inputs_law.Goals as goal

pub returns-clause-script : goal.returns-clause-script
returns-clause-script c = c.grammar_law.ensures.no_fault all_verbs
