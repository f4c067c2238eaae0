use Rattle.std.proofs.Common.{refl}
use Rattle.std.specs.Fmt as fmt
use Rattle.trace_rows.proofs.text_law.Goals as goal

pub returns-clause-first_read : goal.returns-clause-first_read
unfolding fmt.digits
returns-clause-first_read c = refl

pub returns-clause-empty_script : goal.returns-clause-empty_script
unfolding fmt.digits
returns-clause-empty_script c = refl

pub returns-clause-short_burst_repaired : goal.returns-clause-short_burst_repaired
unfolding fmt.digits
returns-clause-short_burst_repaired c = refl

pub returns-clause-until_offset : goal.returns-clause-until_offset
unfolding fmt.digits
returns-clause-until_offset c = refl

pub returns-clause-written_as_far_as_done : goal.returns-clause-written_as_far_as_done
unfolding fmt.digits
returns-clause-written_as_far_as_done c = refl

pub returns-clause-offline : goal.returns-clause-offline
unfolding fmt.digits
returns-clause-offline c = refl

pub returns-clause-partition_ends : goal.returns-clause-partition_ends
unfolding fmt.digits
returns-clause-partition_ends c = refl

pub returns-clause-each_fault : goal.returns-clause-each_fault
unfolding fmt.digits
returns-clause-each_fault c = refl
