use Rattle.promise_rows.proofs.Raw.{drain_ends_early, read_comes_from_the_pack, drive_is_offline, write_before_its_lines}
use Rattle.promise_rows.proofs.Waited.{answer_left_untaken, unforwarded_counts_the_bad_block}
use Rattle.promise_rows.proofs.transfers.asked_rows.Goals as goal

pub returns-clause-drain_ends_early : goal.returns-clause-drain_ends_early
returns-clause-drain_ends_early c = drain_ends_early

pub returns-clause-read_comes_from_the_pack : goal.returns-clause-read_comes_from_the_pack
returns-clause-read_comes_from_the_pack c = read_comes_from_the_pack

pub returns-clause-drive_is_offline : goal.returns-clause-drive_is_offline
returns-clause-drive_is_offline c = drive_is_offline

pub returns-clause-write_before_its_lines : goal.returns-clause-write_before_its_lines
returns-clause-write_before_its_lines c = write_before_its_lines

pub returns-clause-answer_left_untaken : goal.returns-clause-answer_left_untaken
returns-clause-answer_left_untaken c = answer_left_untaken

pub returns-clause-unforwarded_counts_the_bad_block : goal.returns-clause-unforwarded_counts_the_bad_block
returns-clause-unforwarded_counts_the_bad_block c = unforwarded_counts_the_bad_block
