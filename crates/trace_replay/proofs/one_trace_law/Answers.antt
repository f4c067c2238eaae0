use Rattle.trace_replay.proofs.OneStep.{one_step}
use Rattle.trace_replay.proofs.OneTrace.{one_trace, one_run, one_text, one_packs}
use Rattle.trace_replay.proofs.one_trace_law.Goals as goal

pub returns-clause-step : goal.returns-clause-step
returns-clause-step c = one_step

pub returns-clause-trace : goal.returns-clause-trace
returns-clause-trace c = one_trace

pub returns-clause-run : goal.returns-clause-run
returns-clause-run c = one_run

pub returns-clause-text : goal.returns-clause-text
returns-clause-text c = one_text

pub returns-clause-packs : goal.returns-clause-packs
returns-clause-packs c = one_packs
