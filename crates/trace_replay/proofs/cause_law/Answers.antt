use Rattle.trace_replay.proofs.Explained.{are_explained}
use Rattle.trace_replay.proofs.RunExplained.{run_explained}
use Rattle.trace_replay.proofs.Unusable.{are_unusable}
use Rattle.trace_replay.proofs.cause_law.Goals as goal

pub returns-clause-explained : goal.returns-clause-explained
returns-clause-explained c = are_explained

pub returns-clause-unusable : goal.returns-clause-unusable
returns-clause-unusable c = are_unusable

pub returns-clause-run : goal.returns-clause-run
returns-clause-run c = run_explained
