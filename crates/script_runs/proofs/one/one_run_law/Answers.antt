use Rattle.script_runs.proofs.Whole.{legal_runs_are_one, one_run_exists}
use Rattle.script_runs.proofs.Bytes.{bytes_have_one_run}
use Rattle.script_runs.proofs.one.one_run_law.Goals as goal

pub returns-clause-bytes : goal.returns-clause-bytes
returns-clause-bytes c = bytes_have_one_run

pub returns-clause-script : goal.returns-clause-script
returns-clause-script c = one_run_exists

pub returns-clause-legal : goal.returns-clause-legal
returns-clause-legal c = legal_runs_are_one
