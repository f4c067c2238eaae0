use Rattle.trace_replay.proofs.ReadBytes.{reads_as_told, repairs_bursts}
use Rattle.trace_replay.proofs.bytes_law.Goals as goal

pub returns-clause-read : goal.returns-clause-read
returns-clause-read c = reads_as_told

pub returns-clause-repaired : goal.returns-clause-repaired
returns-clause-repaired c = repairs_bursts
