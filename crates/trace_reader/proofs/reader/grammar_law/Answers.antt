use Rattle.trace_reader.proofs.GrammarLaws.{one_trace, no_fault, one_fault, some}
use Rattle.trace_reader.proofs.reader.grammar_law.Goals as goal

pub returns-clause-one_trace : goal.returns-clause-one_trace
returns-clause-one_trace c = one_trace

pub returns-clause-no_fault : goal.returns-clause-no_fault
returns-clause-no_fault c = no_fault

pub returns-clause-one_fault : goal.returns-clause-one_fault
returns-clause-one_fault c = one_fault

pub returns-clause-some : goal.returns-clause-some
returns-clause-some c = some
