use Rattle.trace_reader.proofs.RoundLaws.{reads_as_told, writes_as_read, reads_of_run}
use Rattle.trace_reader.proofs.reader.round_trip_law.Goals as goal

pub returns-clause-told : goal.returns-clause-told
returns-clause-told c = reads_as_told

pub returns-clause-written : goal.returns-clause-written
returns-clause-written c = writes_as_read

pub returns-clause-of_run : goal.returns-clause-of_run
returns-clause-of_run c = reads_of_run
