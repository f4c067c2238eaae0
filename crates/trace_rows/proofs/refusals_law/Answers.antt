use Rattle.std.proofs.Common.{ap, arith}
use Rattle.fire_code.specs.Remainder as code
use Rattle.fire_code.specs.Repair as repair
use Rattle.trace_rows.proofs.Given.{byte_given}
use Rattle.trace_rows.proofs.refusals_law.Goals as goal
use Rattle.trace_rows.proofs.Refused1.{wrong_search_alone, groundless_mark_alone, wrong_number_alone, wrong_id_alone, attentions_descending_alone, skewed_adapter_alone, busy_drive_alone, stranded_unit_alone}

-- the burst's remainder, computed, is another number than 0
pub returns-clause-burst_as_clean : goal.returns-clause-burst_as_clean
unfolding code.remainder code.power code.times_x
returns-clause-burst_as_clean c = λ h. omega (arith, h)

-- the bytes that a burst flips, computed, are other bytes
pub returns-clause-burst_not_repaired : goal.returns-clause-burst_not_repaired
unfolding repair.burst_byte byte_given
returns-clause-burst_not_repaired c = λ h. omega (arith, ap (byte_given 211) h)

pub returns-clause-repaired_beyond_the_end : goal.returns-clause-repaired_beyond_the_end
unfolding repair.burst_byte
returns-clause-repaired_beyond_the_end c = search arith

pub returns-clause-wrong_search : goal.returns-clause-wrong_search
returns-clause-wrong_search c = record { broken = search arith; others = wrong_search_alone }

pub returns-clause-missing_search : goal.returns-clause-missing_search
returns-clause-missing_search c = search arith

pub returns-clause-seek_for_a_first_try : goal.returns-clause-seek_for_a_first_try
returns-clause-seek_for_a_first_try c = search arith

pub returns-clause-needless_refusal : goal.returns-clause-needless_refusal
returns-clause-needless_refusal c = search arith

pub returns-clause-input_before_search : goal.returns-clause-input_before_search
returns-clause-input_before_search c = search arith

pub returns-clause-groundless_arrival : goal.returns-clause-groundless_arrival
returns-clause-groundless_arrival c = search arith

pub returns-clause-early_attention : goal.returns-clause-early_attention
returns-clause-early_attention c = search arith

pub returns-clause-early_transfer : goal.returns-clause-early_transfer
returns-clause-early_transfer c = search arith

pub returns-clause-second_search : goal.returns-clause-second_search
returns-clause-second_search c = search arith

pub returns-clause-wrong_way : goal.returns-clause-wrong_way
returns-clause-wrong_way c = search arith

pub returns-clause-long_segment : goal.returns-clause-long_segment
returns-clause-long_segment c = search arith

pub returns-clause-wrong_block : goal.returns-clause-wrong_block
returns-clause-wrong_block c = search arith

pub returns-clause-needless_pack : goal.returns-clause-needless_pack
returns-clause-needless_pack c = search arith

pub returns-clause-missing_start : goal.returns-clause-missing_start
returns-clause-missing_start c = search arith

pub returns-clause-other_sector : goal.returns-clause-other_sector
returns-clause-other_sector c = search arith

pub returns-clause-groundless_mark : goal.returns-clause-groundless_mark
returns-clause-groundless_mark c = record { broken = search arith; others = groundless_mark_alone }

pub returns-clause-groundless_ecc : goal.returns-clause-groundless_ecc
returns-clause-groundless_ecc c = search arith

pub returns-clause-groundless_fault : goal.returns-clause-groundless_fault
returns-clause-groundless_fault c = search arith

pub returns-clause-groundless_offline : goal.returns-clause-groundless_offline
returns-clause-groundless_offline c = search arith

pub returns-clause-groundless_burst : goal.returns-clause-groundless_burst
returns-clause-groundless_burst c = search arith

pub returns-clause-early_interrupt : goal.returns-clause-early_interrupt
returns-clause-early_interrupt c = search arith

pub returns-clause-idle_in_a_drain : goal.returns-clause-idle_in_a_drain
returns-clause-idle_in_a_drain c = search arith

pub returns-clause-interrupt_with_sectors_left : goal.returns-clause-interrupt_with_sectors_left
returns-clause-interrupt_with_sectors_left c = search arith

pub returns-clause-sector_too_many : goal.returns-clause-sector_too_many
returns-clause-sector_too_many c = search arith

pub returns-clause-needless_clear : goal.returns-clause-needless_clear
returns-clause-needless_clear c = search arith

pub returns-clause-needless_centre : goal.returns-clause-needless_centre
returns-clause-needless_centre c = search arith

pub returns-clause-needless_try : goal.returns-clause-needless_try
returns-clause-needless_try c = search arith

pub returns-clause-wrong_bytes : goal.returns-clause-wrong_bytes
returns-clause-wrong_bytes c = search arith

pub returns-clause-bytes_too_few : goal.returns-clause-bytes_too_few
returns-clause-bytes_too_few c = search arith

pub returns-clause-read_answered_as_write : goal.returns-clause-read_answered_as_write
returns-clause-read_answered_as_write c = search arith

pub returns-clause-groundless_cause : goal.returns-clause-groundless_cause
returns-clause-groundless_cause c = search arith

pub returns-clause-groundless_offline_end : goal.returns-clause-groundless_offline_end
returns-clause-groundless_offline_end c = search arith

pub returns-clause-wrong_number : goal.returns-clause-wrong_number
returns-clause-wrong_number c = record { broken = search arith; others = wrong_number_alone }

pub returns-clause-number_of_the_line_before : goal.returns-clause-number_of_the_line_before
returns-clause-number_of_the_line_before c = search arith

pub returns-clause-wrong_id : goal.returns-clause-wrong_id
returns-clause-wrong_id c = record { broken = search arith; others = wrong_id_alone }

pub returns-clause-second_end : goal.returns-clause-second_end
returns-clause-second_end c = search arith

pub returns-clause-number_of_a_line_again : goal.returns-clause-number_of_a_line_again
returns-clause-number_of_a_line_again c = search arith

pub returns-clause-next_is_never_a_move : goal.returns-clause-next_is_never_a_move
returns-clause-next_is_never_a_move c = search arith

pub returns-clause-idle_with_work : goal.returns-clause-idle_with_work
returns-clause-idle_with_work c = search arith

pub returns-clause-event_without_idle : goal.returns-clause-event_without_idle
returns-clause-event_without_idle c = search arith

pub returns-clause-number_of_an_idle_line : goal.returns-clause-number_of_an_idle_line
returns-clause-number_of_an_idle_line c = search arith

pub returns-clause-next_in_order_of_joining : goal.returns-clause-next_in_order_of_joining
returns-clause-next_in_order_of_joining c = search arith

pub returns-clause-next_before_its_sweep : goal.returns-clause-next_before_its_sweep
returns-clause-next_before_its_sweep c = search arith

pub returns-clause-attentions_descending : goal.returns-clause-attentions_descending
returns-clause-attentions_descending c = record { broken = search arith; others = attentions_descending_alone }

pub returns-clause-attend_clears_nothing : goal.returns-clause-attend_clears_nothing
returns-clause-attend_clears_nothing c = search arith

pub returns-clause-lowest_attention_only : goal.returns-clause-lowest_attention_only
returns-clause-lowest_attention_only c = search arith

pub returns-clause-adapter_start_before_the_attentions : goal.returns-clause-adapter_start_before_the_attentions
returns-clause-adapter_start_before_the_attentions c = search arith

pub returns-clause-second_ready_first : goal.returns-clause-second_ready_first
returns-clause-second_ready_first c = search arith

pub returns-clause-adapter_not_started : goal.returns-clause-adapter_not_started
returns-clause-adapter_not_started c = search arith

pub returns-clause-busy_adapter : goal.returns-clause-busy_adapter
returns-clause-busy_adapter c = search arith

pub returns-clause-other_unit_before_end : goal.returns-clause-other_unit_before_end
returns-clause-other_unit_before_end c = search arith

pub returns-clause-other_unit_before_search : goal.returns-clause-other_unit_before_search
returns-clause-other_unit_before_search c = search arith

pub returns-clause-drain_takes_a_sector_first : goal.returns-clause-drain_takes_a_sector_first
returns-clause-drain_takes_a_sector_first c = search arith

pub returns-clause-drain_attends_first : goal.returns-clause-drain_attends_first
returns-clause-drain_attends_first c = search arith

pub returns-clause-other_burst : goal.returns-clause-other_burst
returns-clause-other_burst c = search arith

pub returns-clause-burst_not_cleared : goal.returns-clause-burst_not_cleared
returns-clause-burst_not_cleared c = search arith

pub returns-clause-burst_tried_again : goal.returns-clause-burst_tried_again
returns-clause-burst_tried_again c = search arith

pub returns-clause-alias_taken_back : goal.returns-clause-alias_taken_back
returns-clause-alias_taken_back c = search arith

pub returns-clause-wrong_try : goal.returns-clause-wrong_try
returns-clause-wrong_try c = search arith

pub returns-clause-try_at_another_block : goal.returns-clause-try_at_another_block
returns-clause-try_at_another_block c = search arith

pub returns-clause-missing_try : goal.returns-clause-missing_try
returns-clause-missing_try c = search arith

pub returns-clause-missing_recal : goal.returns-clause-missing_recal
returns-clause-missing_recal c = search arith

pub returns-clause-needless_seek : goal.returns-clause-needless_seek
returns-clause-needless_seek c = search arith

pub returns-clause-wrong_offset : goal.returns-clause-wrong_offset
returns-clause-wrong_offset c = search arith

pub returns-clause-rtc_forgotten : goal.returns-clause-rtc_forgotten
returns-clause-rtc_forgotten c = search arith

pub returns-clause-gives_up_early : goal.returns-clause-gives_up_early
returns-clause-gives_up_early c = search arith

pub returns-clause-try_29 : goal.returns-clause-try_29
returns-clause-try_29 c = search arith

pub returns-clause-fault_out_of_order : goal.returns-clause-fault_out_of_order
returns-clause-fault_out_of_order c = search arith

pub returns-clause-offset_of_a_write : goal.returns-clause-offset_of_a_write
returns-clause-offset_of_a_write c = search arith

pub returns-clause-wrong_replacement : goal.returns-clause-wrong_replacement
returns-clause-wrong_replacement c = search arith

pub returns-clause-listed_but_unforwarded : goal.returns-clause-listed_but_unforwarded
returns-clause-listed_but_unforwarded c = search arith

pub returns-clause-mark_not_seen : goal.returns-clause-mark_not_seen
returns-clause-mark_not_seen c = search arith

pub returns-clause-continues_a_block_late : goal.returns-clause-continues_a_block_late
returns-clause-continues_a_block_late c = search arith

pub returns-clause-continues_a_block_early : goal.returns-clause-continues_a_block_early
returns-clause-continues_a_block_early c = search arith

pub returns-clause-bytes_of_the_marked_sector : goal.returns-clause-bytes_of_the_marked_sector
returns-clause-bytes_of_the_marked_sector c = search arith

pub returns-clause-forwarded_without_table : goal.returns-clause-forwarded_without_table
returns-clause-forwarded_without_table c = search arith

pub returns-clause-done_one_too_many : goal.returns-clause-done_one_too_many
returns-clause-done_one_too_many c = search arith

pub returns-clause-forwarded_unmarked : goal.returns-clause-forwarded_unmarked
returns-clause-forwarded_unmarked c = search arith

pub returns-clause-write_on_locked : goal.returns-clause-write_on_locked
returns-clause-write_on_locked c = search arith

pub returns-clause-locked_when_unlocked : goal.returns-clause-locked_when_unlocked
returns-clause-locked_when_unlocked c = search arith

pub returns-clause-transfer_offline : goal.returns-clause-transfer_offline
returns-clause-transfer_offline c = search arith

pub returns-clause-missing_pack : goal.returns-clause-missing_pack
returns-clause-missing_pack c = search arith

pub returns-clause-sector_of_other_adapter : goal.returns-clause-sector_of_other_adapter
returns-clause-sector_of_other_adapter c = search arith

pub returns-clause-old_bytes : goal.returns-clause-old_bytes
returns-clause-old_bytes c = search arith

pub returns-clause-eof_as_partition : goal.returns-clause-eof_as_partition
returns-clause-eof_as_partition c = search arith

pub returns-clause-refusal_of_other_id : goal.returns-clause-refusal_of_other_id
returns-clause-refusal_of_other_id c = search arith

pub returns-clause-refusal_of_other_unit : goal.returns-clause-refusal_of_other_unit
returns-clause-refusal_of_other_unit c = search arith

pub returns-clause-refusal_of_other_number : goal.returns-clause-refusal_of_other_number
returns-clause-refusal_of_other_number c = search arith

pub returns-clause-refusal_unanswered : goal.returns-clause-refusal_unanswered
returns-clause-refusal_unanswered c = search arith

pub returns-clause-frames_as_transfer : goal.returns-clause-frames_as_transfer
returns-clause-frames_as_transfer c = search arith

pub returns-clause-frames_that_are_there : goal.returns-clause-frames_that_are_there
returns-clause-frames_that_are_there c = search arith

pub returns-clause-skewed_adapter : goal.returns-clause-skewed_adapter
returns-clause-skewed_adapter c = record { broken = search arith; others = skewed_adapter_alone }

pub returns-clause-busy_drive : goal.returns-clause-busy_drive
returns-clause-busy_drive c = record { broken = search arith; others = busy_drive_alone }

pub returns-clause-stranded_unit : goal.returns-clause-stranded_unit
returns-clause-stranded_unit c = record { broken = search arith; others = stranded_unit_alone }

pub returns-clause-stranded_unit_at_a_line : goal.returns-clause-stranded_unit_at_a_line
returns-clause-stranded_unit_at_a_line c = search arith

pub returns-clause-one_seek_at_a_time : goal.returns-clause-one_seek_at_a_time
returns-clause-one_seek_at_a_time c = search arith

pub returns-clause-first_failure_is_final : goal.returns-clause-first_failure_is_final
returns-clause-first_failure_is_final c = search arith

pub returns-clause-one_deed_in_an_event : goal.returns-clause-one_deed_in_an_event
returns-clause-one_deed_in_an_event c = search arith

pub returns-clause-empty_script_unfinished : goal.returns-clause-empty_script_unfinished
returns-clause-empty_script_unfinished c = search arith

pub returns-clause-first_read_unfinished : goal.returns-clause-first_read_unfinished
returns-clause-first_read_unfinished c = search arith

pub returns-clause-retries_run_out_unfinished : goal.returns-clause-retries_run_out_unfinished
returns-clause-retries_run_out_unfinished c = search arith

pub returns-clause-attentions_together_unfinished : goal.returns-clause-attentions_together_unfinished
returns-clause-attentions_together_unfinished c = search arith
