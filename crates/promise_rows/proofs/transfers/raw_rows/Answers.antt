use Rattle.promise_rows.proofs.Raw.{done_in_blocks, dump_at_the_front, outside_by_one, edge_without_its_bytes, any_trace_at_a_stopped_transfer, lines_dropped_at_a_read, raw_lengthens_the_image}
use Rattle.promise_rows.proofs.transfers.raw_rows.Goals as goal

pub returns-clause-done_in_blocks : goal.returns-clause-done_in_blocks
returns-clause-done_in_blocks c = done_in_blocks

pub returns-clause-dump_at_the_front : goal.returns-clause-dump_at_the_front
returns-clause-dump_at_the_front c = dump_at_the_front

pub returns-clause-outside_by_one : goal.returns-clause-outside_by_one
returns-clause-outside_by_one c = outside_by_one

pub returns-clause-edge_without_its_bytes : goal.returns-clause-edge_without_its_bytes
returns-clause-edge_without_its_bytes c = edge_without_its_bytes

pub returns-clause-any_trace_at_a_stopped_transfer : goal.returns-clause-any_trace_at_a_stopped_transfer
returns-clause-any_trace_at_a_stopped_transfer c = any_trace_at_a_stopped_transfer

pub returns-clause-raw_lengthens_the_image : goal.returns-clause-raw_lengthens_the_image
returns-clause-raw_lengthens_the_image c = raw_lengthens_the_image

pub returns-clause-lines_dropped_at_a_read : goal.returns-clause-lines_dropped_at_a_read
returns-clause-lines_dropped_at_a_read c = lines_dropped_at_a_read
