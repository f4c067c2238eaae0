use Rattle.driver_laws.proofs.shown.TraceRuns.{is_legal}
use Rattle.driver_laws.proofs.shown.trace.legal_law.Goals as goal

pub returns : goal.returns
returns c = record { legal = is_legal }
