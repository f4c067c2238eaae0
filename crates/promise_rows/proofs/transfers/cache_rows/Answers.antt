use Rattle.promise_rows.proofs.Cache.{changed_entry_dropped, another_block_written_back, refused_insertion_not_counted, sync_stops_early, refused_insertion_promotes, another_block_written, block_always_found, refused_rises_at_a_stop}
use Rattle.promise_rows.proofs.transfers.cache_rows.Goals as goal

pub returns-clause-changed_entry_is_dropped_unwritten : goal.returns-clause-changed_entry_is_dropped_unwritten
returns-clause-changed_entry_is_dropped_unwritten c = changed_entry_dropped

pub returns-clause-another_block_is_written_back : goal.returns-clause-another_block_is_written_back
returns-clause-another_block_is_written_back c = another_block_written_back

pub returns-clause-refused_insertion_is_not_counted : goal.returns-clause-refused_insertion_is_not_counted
returns-clause-refused_insertion_is_not_counted c = refused_insertion_not_counted

pub returns-clause-sync_stops_at_an_unchanged_entry : goal.returns-clause-sync_stops_at_an_unchanged_entry
returns-clause-sync_stops_at_an_unchanged_entry c = sync_stops_early

pub returns-clause-refused_insertion_promotes : goal.returns-clause-refused_insertion_promotes
returns-clause-refused_insertion_promotes c = refused_insertion_promotes

pub returns-clause-another_block_is_written : goal.returns-clause-another_block_is_written
returns-clause-another_block_is_written c = another_block_written

pub returns-clause-block_is_always_found : goal.returns-clause-block_is_always_found
returns-clause-block_is_always_found c = block_always_found

pub returns-clause-refused_rises_at_a_stop : goal.returns-clause-refused_rises_at_a_stop
returns-clause-refused_rises_at_a_stop c = refused_rises_at_a_stop
