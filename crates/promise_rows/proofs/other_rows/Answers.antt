use Rattle.promise_rows.proofs.Others.{done_where_the_text_was_not_taken, fault_that_prints, handed_in_packs_played, list_of_another_table}
use Rattle.promise_rows.proofs.other_rows.Goals as goal

pub returns-clause-done_where_the_text_was_not_taken : goal.returns-clause-done_where_the_text_was_not_taken
returns-clause-done_where_the_text_was_not_taken c = done_where_the_text_was_not_taken

pub returns-clause-fault_that_prints : goal.returns-clause-fault_that_prints
returns-clause-fault_that_prints c = fault_that_prints

pub returns-clause-handed_in_packs_played : goal.returns-clause-handed_in_packs_played
returns-clause-handed_in_packs_played c = handed_in_packs_played

pub returns-clause-list_of_another_table : goal.returns-clause-list_of_another_table
returns-clause-list_of_another_table c = list_of_another_table
