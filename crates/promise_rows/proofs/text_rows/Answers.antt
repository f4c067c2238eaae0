use Rattle.promise_rows.proofs.Texts.{unit_and_id_swapped, error_without_done, ok_counts_reads_alone, sum_that_saturates}
use Rattle.promise_rows.proofs.text_rows.Goals as goal

pub returns-clause-unit_and_id_swapped : goal.returns-clause-unit_and_id_swapped
returns-clause-unit_and_id_swapped c = unit_and_id_swapped

pub returns-clause-error_without_done : goal.returns-clause-error_without_done
returns-clause-error_without_done c = error_without_done

pub returns-clause-ok_counts_reads_alone : goal.returns-clause-ok_counts_reads_alone
returns-clause-ok_counts_reads_alone c = ok_counts_reads_alone

pub returns-clause-sum_that_saturates : goal.returns-clause-sum_that_saturates
returns-clause-sum_that_saturates c = sum_that_saturates
