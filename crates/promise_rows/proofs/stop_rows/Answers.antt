use Rattle.promise_rows.proofs.Stopping.{answer_before_its_line, answers_dropped_at_a_read, text_dropped, text_sent_twice, two_blocks_ahead}
use Rattle.promise_rows.proofs.stop_rows.Goals as goal

pub returns-clause-answer_before_its_line : goal.returns-clause-answer_before_its_line
returns-clause-answer_before_its_line c = answer_before_its_line

pub returns-clause-write_before_its_lines : goal.returns-clause-write_before_its_lines
returns-clause-write_before_its_lines c = two_blocks_ahead

pub returns-clause-text_dropped_at_a_stop : goal.returns-clause-text_dropped_at_a_stop
returns-clause-text_dropped_at_a_stop c = text_dropped

pub returns-clause-text_sent_twice : goal.returns-clause-text_sent_twice
returns-clause-text_sent_twice c = text_sent_twice

pub returns-clause-answers_dropped_at_a_read : goal.returns-clause-answers_dropped_at_a_read
returns-clause-answers_dropped_at_a_read c = answers_dropped_at_a_read
