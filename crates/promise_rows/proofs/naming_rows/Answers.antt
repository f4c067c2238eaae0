use Rattle.promise_rows.proofs.Naming.{later_unit_named, fitting_length_named, first_event_untold, other_run_by_other_tables, reads_lengthen, not_as_long_as_written, mark_gone_behind_a_failure}
use Rattle.promise_rows.proofs.naming_rows.Goals as goal

pub returns-clause-later_unit_named : goal.returns-clause-later_unit_named
returns-clause-later_unit_named c = later_unit_named

pub returns-clause-fitting_length_named : goal.returns-clause-fitting_length_named
returns-clause-fitting_length_named c = fitting_length_named

pub returns-clause-first_event_untold : goal.returns-clause-first_event_untold
returns-clause-first_event_untold c = first_event_untold

pub returns-clause-other_run_by_other_tables : goal.returns-clause-other_run_by_other_tables
returns-clause-other_run_by_other_tables c = other_run_by_other_tables

pub returns-clause-reads_lengthen : goal.returns-clause-reads_lengthen
returns-clause-reads_lengthen c = reads_lengthen

pub returns-clause-not_as_long_as_written : goal.returns-clause-not_as_long_as_written
returns-clause-not_as_long_as_written c = not_as_long_as_written

pub returns-clause-mark_gone_behind_a_failure : goal.returns-clause-mark_gone_behind_a_failure
returns-clause-mark_gone_behind_a_failure c = mark_gone_behind_a_failure
