use Rattle.trace_rows.proofs.rows_law.Goals as goal
use Rattle.trace_rows.proofs.Rows1.{alias_noise_accepted, answers_in_service_order_accepted, attentions_together_accepted, burst_across_two_frames_accepted, burst_beyond_the_end_accepted, each_fault_accepted, empty_script_accepted, first_read_accepted, forwarded_between_other_units_accepted, forwarded_read_accepted, frames_run_out_accepted, last_data_block_accepted, locked_accepted, marked_replacement_accepted, near_enough_accepted, offline_accepted, offline_behind_a_burst_accepted, offline_in_a_transfer_accepted}
use Rattle.trace_rows.proofs.Rows2.{offset_outlasts_accepted, pack_in_a_retry_accepted, partition_ends_accepted, read_short_accepted}
use Rattle.trace_rows.proofs.Rows3.{retries_run_out_accepted}
use Rattle.trace_rows.proofs.Rows4.{retries_run_out_in_the_request_accepted, rm03_partition_g_accepted, rm05_last_block_accepted, second_adapter_accepted, short_burst_repaired_accepted, turned_accepted}
use Rattle.trace_rows.proofs.Rows5.{twenty_seven_retries_accepted, two_adapters_overlap_accepted, two_sweeps_accepted, unforwarded_accepted, unmarked_block_reads_its_own_sector_accepted}
use Rattle.trace_rows.proofs.Rows6.{until_offset_accepted}
use Rattle.trace_rows.proofs.Rows7.{users_run_accepted}
use Rattle.trace_rows.proofs.Rows8.{write_by_events_accepted, written_as_far_as_done_accepted, written_short_accepted}

pub returns : goal.returns
returns c = (alias_noise_accepted, (answers_in_service_order_accepted, (attentions_together_accepted, (burst_across_two_frames_accepted, (burst_beyond_the_end_accepted, (each_fault_accepted, (empty_script_accepted, (first_read_accepted, (forwarded_between_other_units_accepted, (forwarded_read_accepted, (frames_run_out_accepted, (last_data_block_accepted, (locked_accepted, (marked_replacement_accepted, (near_enough_accepted, (offline_accepted, (offline_behind_a_burst_accepted, (offline_in_a_transfer_accepted, (offset_outlasts_accepted, (pack_in_a_retry_accepted, (partition_ends_accepted, (read_short_accepted, (retries_run_out_accepted, (retries_run_out_in_the_request_accepted, (rm03_partition_g_accepted, (rm05_last_block_accepted, (second_adapter_accepted, (short_burst_repaired_accepted, (turned_accepted, (twenty_seven_retries_accepted, (two_adapters_overlap_accepted, (two_sweeps_accepted, (unforwarded_accepted, (unmarked_block_reads_its_own_sector_accepted, (until_offset_accepted, (users_run_accepted, (write_by_events_accepted, (written_as_far_as_done_accepted, (written_short_accepted, tt)))))))))))))))))))))))))))))))))))))))
