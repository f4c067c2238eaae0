use Rattle.promise_rows.proofs.Playing.{always_a_fault, answers_kept_back, block_before_its_event, block_of_no_unit, block_behind_a_stop, noise_line_uncounted, short_last_block_whole}
use Rattle.promise_rows.proofs.Others.{played_as_refused_by_the_tool}
use Rattle.promise_rows.proofs.Strikes.{failed_by_few_strikes}
use Rattle.promise_rows.proofs.play_rows.Goals as goal

pub returns-clause-always_a_fault : goal.returns-clause-always_a_fault
returns-clause-always_a_fault c = always_a_fault

pub returns-clause-answers_kept_back : goal.returns-clause-answers_kept_back
returns-clause-answers_kept_back c = answers_kept_back

pub returns-clause-block_before_its_event : goal.returns-clause-block_before_its_event
returns-clause-block_before_its_event c = block_before_its_event

pub returns-clause-block_of_no_unit : goal.returns-clause-block_of_no_unit
returns-clause-block_of_no_unit c = block_of_no_unit

pub returns-clause-block_behind_a_stop : goal.returns-clause-block_behind_a_stop
returns-clause-block_behind_a_stop c = block_behind_a_stop

pub returns-clause-tally_without_noise_lines : goal.returns-clause-tally_without_noise_lines
returns-clause-tally_without_noise_lines c = noise_line_uncounted

pub returns-clause-short_last_block_whole : goal.returns-clause-short_last_block_whole
returns-clause-short_last_block_whole c = short_last_block_whole

pub returns-clause-refused_by_the_tool : goal.returns-clause-refused_by_the_tool
returns-clause-refused_by_the_tool c = played_as_refused_by_the_tool

pub returns-clause-failed_by_few_strikes : goal.returns-clause-failed_by_few_strikes
returns-clause-failed_by_few_strikes c = failed_by_few_strikes
