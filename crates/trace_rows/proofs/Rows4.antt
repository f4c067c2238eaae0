-- Each moment of the rows may come, by computation; docs/trace-rows/rows.py writes this.
use Rattle.std.proofs.Common.{List, take, drop, refl}
use Rattle.trace_replay.specs.Moments.{Moment}
use Rattle.trace_replay.specs.Replay.{Replay, Follows, after_moments}
use Rattle.trace_replay.proofs.Following.{follow_on}
use Rattle.fire_code.specs.Repair as repair
use Rattle.trace_rows.specs.Accepted.{start_of, moments_of, IsAccepted}
use Rattle.trace_rows.specs.Rows4.{retries_run_out_in_the_request, rm03_partition_g, rm05_last_block, second_adapter, short_burst_repaired, turned}
use Rattle.trace_rows.proofs.Bursts.{burst_4091_1025}
use Rattle.trace_rows.proofs.Shown.{shown_0_7_14}

retries_run_out_in_the_request_part_0 : Follows (start_of retries_run_out_in_the_request) (take 40 (moments_of retries_run_out_in_the_request))
retries_run_out_in_the_request_part_0 = (record { later = refl; over = refl; finished = refl; at_work = refl }, (record { later = refl; over = refl; finished = refl; at_work = refl }, (record { number = refl; wished = refl; service = refl; talk = refl; drive = refl; adapter = refl; verdict = tt; at_work = tt }, (record { later = refl; over = refl; finished = refl; at_work = refl }, (record { number = refl; wished = refl; service = refl; talk = refl; drive = refl; adapter = (refl, refl); verdict = refl; at_work = tt }, (record { number = refl; wished = refl; service = refl; talk = refl; drive = refl; adapter = (refl, refl); verdict = refl; at_work = refl }, (record { number = refl; wished = refl; service = refl; talk = refl; drive = refl; adapter = (refl, refl); verdict = refl; at_work = refl }, (record { number = refl; wished = refl; service = refl; talk = refl; drive = refl; adapter = (refl, refl); verdict = shown_0_7_14; at_work = refl }, (record { number = refl; wished = refl; service = refl; talk = refl; drive = tt; adapter = refl; verdict = tt; at_work = refl }, (record { number = refl; wished = refl; service = refl; talk = refl; drive = refl; adapter = tt; verdict = tt; at_work = tt }, (record { number = refl; wished = refl; service = refl; talk = refl; drive = tt; adapter = tt; verdict = tt; at_work = tt }, (record { number = refl; wished = refl; service = refl; talk = refl; drive = refl; adapter = refl; verdict = tt; at_work = tt }, (record { number = refl; wished = refl; service = refl; talk = refl; drive = refl; adapter = (refl, refl); verdict = shown_0_7_14; at_work = refl }, (record { number = refl; wished = refl; service = refl; talk = refl; drive = tt; adapter = refl; verdict = tt; at_work = refl }, (record { number = refl; wished = refl; service = refl; talk = refl; drive = refl; adapter = tt; verdict = tt; at_work = tt }, (record { number = refl; wished = refl; service = refl; talk = refl; drive = tt; adapter = tt; verdict = tt; at_work = tt }, (record { number = refl; wished = refl; service = refl; talk = refl; drive = refl; adapter = refl; verdict = tt; at_work = tt }, (record { number = refl; wished = refl; service = refl; talk = refl; drive = refl; adapter = (refl, refl); verdict = shown_0_7_14; at_work = refl }, (record { number = refl; wished = refl; service = refl; talk = refl; drive = tt; adapter = refl; verdict = tt; at_work = refl }, (record { number = refl; wished = refl; service = refl; talk = refl; drive = refl; adapter = tt; verdict = tt; at_work = tt }, (record { number = refl; wished = refl; service = refl; talk = refl; drive = tt; adapter = tt; verdict = tt; at_work = tt }, (record { number = refl; wished = refl; service = refl; talk = refl; drive = refl; adapter = refl; verdict = tt; at_work = tt }, (record { number = refl; wished = refl; service = refl; talk = refl; drive = refl; adapter = (refl, refl); verdict = shown_0_7_14; at_work = refl }, (record { number = refl; wished = refl; service = refl; talk = refl; drive = tt; adapter = refl; verdict = tt; at_work = refl }, (record { number = refl; wished = refl; service = refl; talk = refl; drive = refl; adapter = tt; verdict = tt; at_work = tt }, (record { number = refl; wished = refl; service = refl; talk = refl; drive = tt; adapter = tt; verdict = tt; at_work = tt }, (record { number = refl; wished = refl; service = refl; talk = refl; drive = refl; adapter = tt; verdict = tt; at_work = tt }, (record { number = refl; wished = refl; service = refl; talk = refl; drive = refl; adapter = tt; verdict = tt; at_work = refl }, (record { number = refl; wished = refl; service = refl; talk = refl; drive = refl; adapter = refl; verdict = tt; at_work = refl }, (record { number = refl; wished = refl; service = refl; talk = refl; drive = refl; adapter = refl; verdict = tt; at_work = tt }, (record { number = refl; wished = refl; service = refl; talk = refl; drive = refl; adapter = (refl, refl); verdict = shown_0_7_14; at_work = refl }, (record { number = refl; wished = refl; service = refl; talk = refl; drive = tt; adapter = refl; verdict = tt; at_work = refl }, (record { number = refl; wished = refl; service = refl; talk = refl; drive = refl; adapter = tt; verdict = tt; at_work = tt }, (record { number = refl; wished = refl; service = refl; talk = refl; drive = tt; adapter = tt; verdict = tt; at_work = tt }, (record { number = refl; wished = refl; service = refl; talk = refl; drive = refl; adapter = refl; verdict = tt; at_work = tt }, (record { number = refl; wished = refl; service = refl; talk = refl; drive = refl; adapter = (refl, refl); verdict = shown_0_7_14; at_work = refl }, (record { number = refl; wished = refl; service = refl; talk = refl; drive = tt; adapter = refl; verdict = tt; at_work = refl }, (record { number = refl; wished = refl; service = refl; talk = refl; drive = refl; adapter = tt; verdict = tt; at_work = tt }, (record { number = refl; wished = refl; service = refl; talk = refl; drive = tt; adapter = tt; verdict = tt; at_work = tt }, (record { number = refl; wished = refl; service = refl; talk = refl; drive = refl; adapter = refl; verdict = tt; at_work = tt }, tt))))))))))))))))))))))))))))))))))))))))

abbrev retries_run_out_in_the_request_after_1 : Replay
retries_run_out_in_the_request_after_1 = after_moments (start_of retries_run_out_in_the_request) (take 40 (moments_of retries_run_out_in_the_request))

abbrev retries_run_out_in_the_request_from_1 : List Moment
retries_run_out_in_the_request_from_1 = drop 40 (moments_of retries_run_out_in_the_request)

retries_run_out_in_the_request_part_1 : Follows retries_run_out_in_the_request_after_1 (take 40 retries_run_out_in_the_request_from_1)
retries_run_out_in_the_request_part_1 = (record { number = refl; wished = refl; service = refl; talk = refl; drive = refl; adapter = (refl, refl); verdict = shown_0_7_14; at_work = refl }, (record { number = refl; wished = refl; service = refl; talk = refl; drive = tt; adapter = refl; verdict = tt; at_work = refl }, (record { number = refl; wished = refl; service = refl; talk = refl; drive = refl; adapter = tt; verdict = tt; at_work = tt }, (record { number = refl; wished = refl; service = refl; talk = refl; drive = tt; adapter = tt; verdict = tt; at_work = tt }, (record { number = refl; wished = refl; service = refl; talk = refl; drive = refl; adapter = refl; verdict = tt; at_work = tt }, (record { number = refl; wished = refl; service = refl; talk = refl; drive = refl; adapter = (refl, refl); verdict = shown_0_7_14; at_work = refl }, (record { number = refl; wished = refl; service = refl; talk = refl; drive = tt; adapter = refl; verdict = tt; at_work = refl }, (record { number = refl; wished = refl; service = refl; talk = refl; drive = refl; adapter = tt; verdict = tt; at_work = tt }, (record { number = refl; wished = refl; service = refl; talk = refl; drive = tt; adapter = tt; verdict = tt; at_work = tt }, (record { number = refl; wished = refl; service = refl; talk = refl; drive = refl; adapter = refl; verdict = tt; at_work = tt }, (record { number = refl; wished = refl; service = refl; talk = refl; drive = refl; adapter = (refl, refl); verdict = shown_0_7_14; at_work = refl }, (record { number = refl; wished = refl; service = refl; talk = refl; drive = tt; adapter = refl; verdict = tt; at_work = refl }, (record { number = refl; wished = refl; service = refl; talk = refl; drive = refl; adapter = tt; verdict = tt; at_work = tt }, (record { number = refl; wished = refl; service = refl; talk = refl; drive = tt; adapter = tt; verdict = tt; at_work = tt }, (record { number = refl; wished = refl; service = refl; talk = refl; drive = refl; adapter = refl; verdict = tt; at_work = tt }, (record { number = refl; wished = refl; service = refl; talk = refl; drive = refl; adapter = (refl, refl); verdict = shown_0_7_14; at_work = refl }, (record { number = refl; wished = refl; service = refl; talk = refl; drive = tt; adapter = refl; verdict = tt; at_work = refl }, (record { number = refl; wished = refl; service = refl; talk = refl; drive = refl; adapter = tt; verdict = tt; at_work = tt }, (record { number = refl; wished = refl; service = refl; talk = refl; drive = tt; adapter = tt; verdict = tt; at_work = tt }, (record { number = refl; wished = refl; service = refl; talk = refl; drive = refl; adapter = refl; verdict = tt; at_work = tt }, (record { number = refl; wished = refl; service = refl; talk = refl; drive = refl; adapter = (refl, refl); verdict = shown_0_7_14; at_work = refl }, (record { number = refl; wished = refl; service = refl; talk = refl; drive = tt; adapter = refl; verdict = tt; at_work = refl }, (record { number = refl; wished = refl; service = refl; talk = refl; drive = refl; adapter = tt; verdict = tt; at_work = tt }, (record { number = refl; wished = refl; service = refl; talk = refl; drive = tt; adapter = tt; verdict = tt; at_work = tt }, (record { number = refl; wished = refl; service = refl; talk = refl; drive = refl; adapter = refl; verdict = tt; at_work = tt }, (record { number = refl; wished = refl; service = refl; talk = refl; drive = refl; adapter = (refl, refl); verdict = shown_0_7_14; at_work = refl }, (record { number = refl; wished = refl; service = refl; talk = refl; drive = tt; adapter = refl; verdict = tt; at_work = refl }, (record { number = refl; wished = refl; service = refl; talk = refl; drive = refl; adapter = tt; verdict = tt; at_work = tt }, (record { number = refl; wished = refl; service = refl; talk = refl; drive = tt; adapter = tt; verdict = tt; at_work = tt }, (record { number = refl; wished = refl; service = refl; talk = refl; drive = refl; adapter = tt; verdict = tt; at_work = tt }, (record { number = refl; wished = refl; service = refl; talk = refl; drive = refl; adapter = tt; verdict = tt; at_work = refl }, (record { number = refl; wished = refl; service = refl; talk = refl; drive = refl; adapter = refl; verdict = tt; at_work = refl }, (record { number = refl; wished = refl; service = refl; talk = refl; drive = refl; adapter = refl; verdict = tt; at_work = tt }, (record { number = refl; wished = refl; service = refl; talk = refl; drive = refl; adapter = (refl, refl); verdict = shown_0_7_14; at_work = refl }, (record { number = refl; wished = refl; service = refl; talk = refl; drive = tt; adapter = refl; verdict = tt; at_work = refl }, (record { number = refl; wished = refl; service = refl; talk = refl; drive = refl; adapter = tt; verdict = tt; at_work = tt }, (record { number = refl; wished = refl; service = refl; talk = refl; drive = tt; adapter = tt; verdict = tt; at_work = tt }, (record { number = refl; wished = refl; service = refl; talk = refl; drive = refl; adapter = refl; verdict = tt; at_work = tt }, (record { number = refl; wished = refl; service = refl; talk = refl; drive = refl; adapter = (refl, refl); verdict = shown_0_7_14; at_work = refl }, (record { number = refl; wished = refl; service = refl; talk = refl; drive = tt; adapter = refl; verdict = tt; at_work = refl }, tt))))))))))))))))))))))))))))))))))))))))

abbrev retries_run_out_in_the_request_after_2 : Replay
retries_run_out_in_the_request_after_2 = after_moments retries_run_out_in_the_request_after_1 (take 40 retries_run_out_in_the_request_from_1)

abbrev retries_run_out_in_the_request_from_2 : List Moment
retries_run_out_in_the_request_from_2 = drop 40 retries_run_out_in_the_request_from_1

retries_run_out_in_the_request_part_2 : Follows retries_run_out_in_the_request_after_2 (take 40 retries_run_out_in_the_request_from_2)
retries_run_out_in_the_request_part_2 = (record { number = refl; wished = refl; service = refl; talk = refl; drive = refl; adapter = tt; verdict = tt; at_work = tt }, (record { number = refl; wished = refl; service = refl; talk = refl; drive = tt; adapter = tt; verdict = tt; at_work = tt }, (record { number = refl; wished = refl; service = refl; talk = refl; drive = refl; adapter = refl; verdict = tt; at_work = tt }, (record { number = refl; wished = refl; service = refl; talk = refl; drive = refl; adapter = (refl, refl); verdict = shown_0_7_14; at_work = refl }, (record { number = refl; wished = refl; service = refl; talk = refl; drive = tt; adapter = refl; verdict = tt; at_work = refl }, (record { number = refl; wished = refl; service = refl; talk = refl; drive = refl; adapter = tt; verdict = tt; at_work = tt }, (record { number = refl; wished = refl; service = refl; talk = refl; drive = tt; adapter = tt; verdict = tt; at_work = tt }, (record { number = refl; wished = refl; service = refl; talk = refl; drive = refl; adapter = refl; verdict = tt; at_work = tt }, (record { number = refl; wished = refl; service = refl; talk = refl; drive = refl; adapter = (refl, refl); verdict = shown_0_7_14; at_work = refl }, (record { number = refl; wished = refl; service = refl; talk = refl; drive = tt; adapter = refl; verdict = tt; at_work = refl }, (record { number = refl; wished = refl; service = refl; talk = refl; drive = refl; adapter = tt; verdict = tt; at_work = tt }, (record { number = refl; wished = refl; service = refl; talk = refl; drive = tt; adapter = tt; verdict = tt; at_work = tt }, (record { number = refl; wished = refl; service = refl; talk = refl; drive = refl; adapter = tt; verdict = tt; at_work = tt }, (record { number = refl; wished = refl; service = refl; talk = refl; drive = refl; adapter = tt; verdict = tt; at_work = refl }, (record { number = refl; wished = refl; service = refl; talk = refl; drive = refl; adapter = refl; verdict = tt; at_work = refl }, (record { number = refl; wished = refl; service = refl; talk = refl; drive = refl; adapter = refl; verdict = tt; at_work = tt }, (record { number = refl; wished = refl; service = refl; talk = refl; drive = refl; adapter = (refl, refl); verdict = shown_0_7_14; at_work = refl }, (record { number = refl; wished = refl; service = refl; talk = refl; drive = tt; adapter = refl; verdict = tt; at_work = refl }, (record { number = refl; wished = refl; service = refl; talk = refl; drive = refl; adapter = tt; verdict = tt; at_work = tt }, (record { number = refl; wished = refl; service = refl; talk = refl; drive = refl; adapter = tt; verdict = tt; at_work = tt }, (record { number = refl; wished = refl; service = refl; talk = refl; drive = tt; adapter = tt; verdict = tt; at_work = tt }, (record { number = refl; wished = refl; service = refl; talk = refl; drive = refl; adapter = tt; verdict = tt; at_work = tt }, (record { number = refl; wished = refl; service = refl; talk = refl; drive = refl; adapter = tt; verdict = tt; at_work = refl }, (record { number = refl; wished = refl; service = refl; talk = refl; drive = refl; adapter = refl; verdict = tt; at_work = refl }, (record { number = refl; wished = refl; service = refl; talk = refl; drive = refl; adapter = refl; verdict = tt; at_work = tt }, (record { number = refl; wished = refl; service = refl; talk = refl; drive = refl; adapter = (refl, refl); verdict = shown_0_7_14; at_work = refl }, (record { number = refl; wished = refl; service = refl; talk = refl; drive = tt; adapter = refl; verdict = tt; at_work = refl }, (record { number = refl; wished = refl; service = refl; talk = refl; drive = refl; adapter = tt; verdict = tt; at_work = tt }, (record { number = refl; wished = refl; service = refl; talk = refl; drive = refl; adapter = tt; verdict = tt; at_work = tt }, (record { number = refl; wished = refl; service = refl; talk = refl; drive = tt; adapter = tt; verdict = tt; at_work = tt }, (record { number = refl; wished = refl; service = refl; talk = refl; drive = refl; adapter = tt; verdict = tt; at_work = tt }, (record { number = refl; wished = refl; service = refl; talk = refl; drive = refl; adapter = tt; verdict = tt; at_work = refl }, (record { number = refl; wished = refl; service = refl; talk = refl; drive = refl; adapter = refl; verdict = tt; at_work = refl }, (record { number = refl; wished = refl; service = refl; talk = refl; drive = refl; adapter = refl; verdict = tt; at_work = tt }, (record { number = refl; wished = refl; service = refl; talk = refl; drive = refl; adapter = (refl, refl); verdict = shown_0_7_14; at_work = refl }, (record { number = refl; wished = refl; service = refl; talk = refl; drive = tt; adapter = refl; verdict = tt; at_work = refl }, (record { number = refl; wished = refl; service = refl; talk = refl; drive = refl; adapter = tt; verdict = tt; at_work = tt }, (record { number = refl; wished = refl; service = refl; talk = refl; drive = refl; adapter = tt; verdict = tt; at_work = tt }, (record { number = refl; wished = refl; service = refl; talk = refl; drive = tt; adapter = tt; verdict = tt; at_work = tt }, (record { number = refl; wished = refl; service = refl; talk = refl; drive = refl; adapter = tt; verdict = tt; at_work = tt }, tt))))))))))))))))))))))))))))))))))))))))

abbrev retries_run_out_in_the_request_after_3 : Replay
retries_run_out_in_the_request_after_3 = after_moments retries_run_out_in_the_request_after_2 (take 40 retries_run_out_in_the_request_from_2)

abbrev retries_run_out_in_the_request_from_3 : List Moment
retries_run_out_in_the_request_from_3 = drop 40 retries_run_out_in_the_request_from_2

retries_run_out_in_the_request_part_3 : Follows retries_run_out_in_the_request_after_3 (take 40 retries_run_out_in_the_request_from_3)
retries_run_out_in_the_request_part_3 = (record { number = refl; wished = refl; service = refl; talk = refl; drive = refl; adapter = tt; verdict = tt; at_work = refl }, (record { number = refl; wished = refl; service = refl; talk = refl; drive = refl; adapter = refl; verdict = tt; at_work = refl }, (record { number = refl; wished = refl; service = refl; talk = refl; drive = refl; adapter = refl; verdict = tt; at_work = tt }, (record { number = refl; wished = refl; service = refl; talk = refl; drive = refl; adapter = (refl, refl); verdict = shown_0_7_14; at_work = refl }, (record { number = refl; wished = refl; service = refl; talk = refl; drive = tt; adapter = refl; verdict = tt; at_work = refl }, (record { number = refl; wished = refl; service = refl; talk = refl; drive = refl; adapter = tt; verdict = tt; at_work = tt }, (record { number = refl; wished = refl; service = refl; talk = refl; drive = refl; adapter = tt; verdict = tt; at_work = tt }, (record { number = refl; wished = refl; service = refl; talk = refl; drive = tt; adapter = tt; verdict = tt; at_work = tt }, (record { number = refl; wished = refl; service = refl; talk = refl; drive = refl; adapter = tt; verdict = tt; at_work = tt }, (record { number = refl; wished = refl; service = refl; talk = refl; drive = refl; adapter = tt; verdict = tt; at_work = refl }, (record { number = refl; wished = refl; service = refl; talk = refl; drive = refl; adapter = refl; verdict = tt; at_work = refl }, (record { number = refl; wished = refl; service = refl; talk = refl; drive = refl; adapter = tt; verdict = tt; at_work = tt }, (record { number = refl; wished = refl; service = refl; talk = refl; drive = refl; adapter = tt; verdict = tt; at_work = refl }, (record { number = refl; wished = refl; service = refl; talk = refl; drive = refl; adapter = refl; verdict = tt; at_work = refl }, (record { number = refl; wished = refl; service = refl; talk = refl; drive = refl; adapter = refl; verdict = tt; at_work = tt }, (record { number = refl; wished = refl; service = refl; talk = refl; drive = refl; adapter = (refl, refl); verdict = shown_0_7_14; at_work = refl }, (record { number = refl; wished = refl; service = refl; talk = refl; drive = tt; adapter = refl; verdict = tt; at_work = refl }, (record { number = refl; wished = refl; service = refl; talk = refl; drive = refl; adapter = tt; verdict = tt; at_work = tt }, (record { number = refl; wished = refl; service = refl; talk = refl; drive = refl; adapter = tt; verdict = tt; at_work = tt }, (record { number = refl; wished = refl; service = refl; talk = refl; drive = tt; adapter = tt; verdict = tt; at_work = tt }, (record { number = refl; wished = refl; service = refl; talk = refl; drive = refl; adapter = tt; verdict = tt; at_work = tt }, (record { number = refl; wished = refl; service = refl; talk = refl; drive = refl; adapter = tt; verdict = tt; at_work = refl }, (record { number = refl; wished = refl; service = refl; talk = refl; drive = refl; adapter = refl; verdict = tt; at_work = refl }, (record { number = refl; wished = refl; service = refl; talk = refl; drive = refl; adapter = refl; verdict = tt; at_work = tt }, (record { number = refl; wished = refl; service = refl; talk = refl; drive = refl; adapter = (refl, refl); verdict = shown_0_7_14; at_work = refl }, (record { number = refl; wished = refl; service = refl; talk = refl; drive = tt; adapter = refl; verdict = tt; at_work = refl }, (record { number = refl; wished = refl; service = refl; talk = refl; drive = refl; adapter = tt; verdict = tt; at_work = tt }, (record { number = refl; wished = refl; service = refl; talk = refl; drive = refl; adapter = tt; verdict = tt; at_work = tt }, (record { number = refl; wished = refl; service = refl; talk = refl; drive = tt; adapter = tt; verdict = tt; at_work = tt }, (record { number = refl; wished = refl; service = refl; talk = refl; drive = refl; adapter = tt; verdict = tt; at_work = tt }, (record { number = refl; wished = refl; service = refl; talk = refl; drive = refl; adapter = tt; verdict = tt; at_work = refl }, (record { number = refl; wished = refl; service = refl; talk = refl; drive = refl; adapter = refl; verdict = tt; at_work = refl }, (record { number = refl; wished = refl; service = refl; talk = refl; drive = refl; adapter = refl; verdict = tt; at_work = tt }, (record { number = refl; wished = refl; service = refl; talk = refl; drive = refl; adapter = (refl, refl); verdict = shown_0_7_14; at_work = refl }, (record { number = refl; wished = refl; service = refl; talk = refl; drive = tt; adapter = refl; verdict = tt; at_work = refl }, (record { number = refl; wished = refl; service = refl; talk = refl; drive = refl; adapter = tt; verdict = tt; at_work = tt }, (record { number = refl; wished = refl; service = refl; talk = refl; drive = refl; adapter = tt; verdict = tt; at_work = tt }, (record { number = refl; wished = refl; service = refl; talk = refl; drive = tt; adapter = tt; verdict = tt; at_work = tt }, (record { number = refl; wished = refl; service = refl; talk = refl; drive = refl; adapter = tt; verdict = tt; at_work = tt }, (record { number = refl; wished = refl; service = refl; talk = refl; drive = refl; adapter = tt; verdict = tt; at_work = refl }, tt))))))))))))))))))))))))))))))))))))))))

abbrev retries_run_out_in_the_request_after_4 : Replay
retries_run_out_in_the_request_after_4 = after_moments retries_run_out_in_the_request_after_3 (take 40 retries_run_out_in_the_request_from_3)

abbrev retries_run_out_in_the_request_from_4 : List Moment
retries_run_out_in_the_request_from_4 = drop 40 retries_run_out_in_the_request_from_3

retries_run_out_in_the_request_part_4 : Follows retries_run_out_in_the_request_after_4 (take 40 retries_run_out_in_the_request_from_4)
retries_run_out_in_the_request_part_4 = (record { number = refl; wished = refl; service = refl; talk = refl; drive = refl; adapter = refl; verdict = tt; at_work = refl }, (record { number = refl; wished = refl; service = refl; talk = refl; drive = refl; adapter = refl; verdict = tt; at_work = tt }, (record { number = refl; wished = refl; service = refl; talk = refl; drive = refl; adapter = (refl, refl); verdict = shown_0_7_14; at_work = refl }, (record { number = refl; wished = refl; service = refl; talk = refl; drive = tt; adapter = refl; verdict = tt; at_work = refl }, (record { number = refl; wished = refl; service = refl; talk = refl; drive = refl; adapter = tt; verdict = tt; at_work = tt }, (record { number = refl; wished = refl; service = refl; talk = refl; drive = refl; adapter = tt; verdict = tt; at_work = tt }, (record { number = refl; wished = refl; service = refl; talk = refl; drive = tt; adapter = tt; verdict = tt; at_work = tt }, (record { number = refl; wished = refl; service = refl; talk = refl; drive = refl; adapter = tt; verdict = tt; at_work = tt }, (record { number = refl; wished = refl; service = refl; talk = refl; drive = refl; adapter = tt; verdict = tt; at_work = refl }, (record { number = refl; wished = refl; service = refl; talk = refl; drive = refl; adapter = refl; verdict = tt; at_work = refl }, (record { number = refl; wished = refl; service = refl; talk = refl; drive = refl; adapter = refl; verdict = tt; at_work = tt }, (record { number = refl; wished = refl; service = refl; talk = refl; drive = refl; adapter = (refl, refl); verdict = shown_0_7_14; at_work = refl }, (record { number = refl; wished = refl; service = refl; talk = refl; drive = tt; adapter = refl; verdict = tt; at_work = refl }, (record { number = refl; wished = refl; service = refl; talk = refl; drive = refl; adapter = tt; verdict = tt; at_work = tt }, (record { number = refl; wished = refl; service = refl; talk = refl; drive = refl; adapter = tt; verdict = tt; at_work = tt }, (record { number = refl; wished = refl; service = refl; talk = refl; drive = tt; adapter = tt; verdict = tt; at_work = tt }, (record { number = refl; wished = refl; service = refl; talk = refl; drive = refl; adapter = tt; verdict = tt; at_work = tt }, (record { number = refl; wished = refl; service = refl; talk = refl; drive = refl; adapter = tt; verdict = tt; at_work = refl }, (record { number = refl; wished = refl; service = refl; talk = refl; drive = refl; adapter = refl; verdict = tt; at_work = refl }, (record { number = refl; wished = refl; service = refl; talk = refl; drive = refl; adapter = refl; verdict = tt; at_work = tt }, (record { number = refl; wished = refl; service = refl; talk = refl; drive = refl; adapter = (refl, refl); verdict = shown_0_7_14; at_work = refl }, (record { number = refl; wished = refl; service = refl; talk = refl; drive = tt; adapter = refl; verdict = tt; at_work = refl }, (record { number = refl; wished = refl; service = refl; talk = refl; drive = refl; adapter = tt; verdict = tt; at_work = tt }, (record { number = refl; wished = refl; service = refl; talk = refl; drive = refl; adapter = tt; verdict = tt; at_work = tt }, (record { number = refl; wished = refl; service = refl; talk = refl; drive = tt; adapter = tt; verdict = tt; at_work = tt }, (record { number = refl; wished = refl; service = refl; talk = refl; drive = refl; adapter = tt; verdict = tt; at_work = tt }, (record { number = refl; wished = refl; service = refl; talk = refl; drive = refl; adapter = tt; verdict = tt; at_work = refl }, (record { number = refl; wished = refl; service = refl; talk = refl; drive = refl; adapter = refl; verdict = tt; at_work = refl }, (record { number = refl; wished = refl; service = refl; talk = refl; drive = refl; adapter = refl; verdict = tt; at_work = tt }, (record { number = refl; wished = refl; service = refl; talk = refl; drive = refl; adapter = (refl, refl); verdict = shown_0_7_14; at_work = refl }, (record { number = refl; wished = refl; service = refl; talk = refl; drive = tt; adapter = refl; verdict = tt; at_work = refl }, (record { number = refl; wished = refl; service = refl; talk = refl; drive = refl; adapter = tt; verdict = tt; at_work = tt }, (record { number = refl; wished = refl; service = refl; talk = refl; drive = refl; adapter = tt; verdict = tt; at_work = tt }, (record { number = refl; wished = refl; service = refl; talk = refl; drive = tt; adapter = tt; verdict = tt; at_work = tt }, (record { number = refl; wished = refl; service = refl; talk = refl; drive = refl; adapter = tt; verdict = tt; at_work = tt }, (record { number = refl; wished = refl; service = refl; talk = refl; drive = refl; adapter = tt; verdict = tt; at_work = refl }, (record { number = refl; wished = refl; service = refl; talk = refl; drive = refl; adapter = refl; verdict = tt; at_work = refl }, (record { number = refl; wished = refl; service = refl; talk = refl; drive = refl; adapter = refl; verdict = tt; at_work = tt }, (record { number = refl; wished = refl; service = refl; talk = refl; drive = refl; adapter = (refl, refl); verdict = shown_0_7_14; at_work = refl }, (record { number = refl; wished = refl; service = refl; talk = refl; drive = tt; adapter = refl; verdict = tt; at_work = refl }, tt))))))))))))))))))))))))))))))))))))))))

abbrev retries_run_out_in_the_request_after_5 : Replay
retries_run_out_in_the_request_after_5 = after_moments retries_run_out_in_the_request_after_4 (take 40 retries_run_out_in_the_request_from_4)

abbrev retries_run_out_in_the_request_from_5 : List Moment
retries_run_out_in_the_request_from_5 = drop 40 retries_run_out_in_the_request_from_4

retries_run_out_in_the_request_part_5 : Follows retries_run_out_in_the_request_after_5 (take 40 retries_run_out_in_the_request_from_5)
retries_run_out_in_the_request_part_5 = (record { number = refl; wished = refl; service = refl; talk = refl; drive = refl; adapter = tt; verdict = tt; at_work = tt }, (record { number = refl; wished = refl; service = refl; talk = refl; drive = refl; adapter = tt; verdict = tt; at_work = tt }, (record { number = refl; wished = refl; service = refl; talk = refl; drive = tt; adapter = tt; verdict = tt; at_work = tt }, (record { number = refl; wished = refl; service = refl; talk = refl; drive = tt; adapter = tt; verdict = tt; at_work = tt }, tt))))

retries_run_out_in_the_request_follows_5 : Follows retries_run_out_in_the_request_after_5 retries_run_out_in_the_request_from_5
retries_run_out_in_the_request_follows_5 = retries_run_out_in_the_request_part_5

retries_run_out_in_the_request_follows_4 : Follows retries_run_out_in_the_request_after_4 retries_run_out_in_the_request_from_4
retries_run_out_in_the_request_follows_4 = (follow_on retries_run_out_in_the_request_after_4 (take 40 retries_run_out_in_the_request_from_4) (drop 40 retries_run_out_in_the_request_from_4)).1 (retries_run_out_in_the_request_part_4, retries_run_out_in_the_request_follows_5)

retries_run_out_in_the_request_follows_3 : Follows retries_run_out_in_the_request_after_3 retries_run_out_in_the_request_from_3
retries_run_out_in_the_request_follows_3 = (follow_on retries_run_out_in_the_request_after_3 (take 40 retries_run_out_in_the_request_from_3) (drop 40 retries_run_out_in_the_request_from_3)).1 (retries_run_out_in_the_request_part_3, retries_run_out_in_the_request_follows_4)

retries_run_out_in_the_request_follows_2 : Follows retries_run_out_in_the_request_after_2 retries_run_out_in_the_request_from_2
retries_run_out_in_the_request_follows_2 = (follow_on retries_run_out_in_the_request_after_2 (take 40 retries_run_out_in_the_request_from_2) (drop 40 retries_run_out_in_the_request_from_2)).1 (retries_run_out_in_the_request_part_2, retries_run_out_in_the_request_follows_3)

retries_run_out_in_the_request_follows_1 : Follows retries_run_out_in_the_request_after_1 retries_run_out_in_the_request_from_1
retries_run_out_in_the_request_follows_1 = (follow_on retries_run_out_in_the_request_after_1 (take 40 retries_run_out_in_the_request_from_1) (drop 40 retries_run_out_in_the_request_from_1)).1 (retries_run_out_in_the_request_part_1, retries_run_out_in_the_request_follows_2)

retries_run_out_in_the_request_follows_0 : Follows (start_of retries_run_out_in_the_request) (moments_of retries_run_out_in_the_request)
retries_run_out_in_the_request_follows_0 = (follow_on (start_of retries_run_out_in_the_request) (take 40 (moments_of retries_run_out_in_the_request)) (drop 40 (moments_of retries_run_out_in_the_request))).1 (retries_run_out_in_the_request_part_0, retries_run_out_in_the_request_follows_1)

pub retries_run_out_in_the_request_accepted : IsAccepted retries_run_out_in_the_request
retries_run_out_in_the_request_accepted = record {
  inputs = refl;
  legal = record { follows = retries_run_out_in_the_request_follows_0; over = record { over = refl; answered = refl } };
}

pub rm03_partition_g_accepted : IsAccepted rm03_partition_g
rm03_partition_g_accepted = record {
  inputs = refl;
  legal = record { follows = (record { later = refl; over = refl; finished = refl; at_work = refl }, (record { number = refl; wished = refl; service = refl; talk = refl; drive = refl; adapter = tt; verdict = tt; at_work = tt }, (record { later = refl; over = refl; finished = refl; at_work = refl }, (record { number = refl; wished = refl; service = refl; talk = refl; drive = refl; adapter = tt; verdict = tt; at_work = tt }, (record { number = refl; wished = refl; service = refl; talk = refl; drive = refl; adapter = refl; verdict = tt; at_work = refl }, (record { number = refl; wished = refl; service = refl; talk = refl; drive = refl; adapter = refl; verdict = tt; at_work = tt }, (record { number = refl; wished = refl; service = refl; talk = refl; drive = refl; adapter = (refl, refl); verdict = refl; at_work = refl }, (record { number = refl; wished = refl; service = refl; talk = refl; drive = tt; adapter = refl; verdict = tt; at_work = refl }, (record { number = refl; wished = refl; service = refl; talk = refl; drive = tt; adapter = tt; verdict = tt; at_work = tt }, tt))))))))); over = record { over = refl; answered = refl } };
}

pub rm05_last_block_accepted : IsAccepted rm05_last_block
rm05_last_block_accepted = record {
  inputs = refl;
  legal = record { follows = (record { later = refl; over = refl; finished = refl; at_work = refl }, (record { number = refl; wished = refl; service = refl; talk = refl; drive = refl; adapter = tt; verdict = tt; at_work = tt }, (record { later = refl; over = refl; finished = refl; at_work = refl }, (record { later = refl; over = refl; finished = refl; at_work = refl }, (record { number = refl; same_unit = refl; same_id = refl; answered = refl }, (record { later = refl; over = refl; finished = refl; at_work = refl }, (record { number = refl; same_unit = refl; same_id = refl; answered = refl }, (record { later = refl; over = refl; finished = refl; at_work = refl }, (record { number = refl; wished = refl; service = refl; talk = refl; drive = refl; adapter = tt; verdict = tt; at_work = tt }, (record { number = refl; wished = refl; service = refl; talk = refl; drive = refl; adapter = refl; verdict = tt; at_work = refl }, (record { number = refl; wished = refl; service = refl; talk = refl; drive = refl; adapter = refl; verdict = tt; at_work = tt }, (record { number = refl; wished = refl; service = refl; talk = refl; drive = refl; adapter = (refl, refl); verdict = refl; at_work = refl }, (record { number = refl; wished = refl; service = refl; talk = refl; drive = tt; adapter = refl; verdict = tt; at_work = refl }, (record { number = refl; wished = refl; service = refl; talk = refl; drive = tt; adapter = tt; verdict = tt; at_work = tt }, (record { number = refl; wished = refl; service = refl; talk = refl; drive = refl; adapter = tt; verdict = tt; at_work = tt }, (record { number = refl; wished = refl; service = refl; talk = refl; drive = refl; adapter = tt; verdict = tt; at_work = refl }, (record { number = refl; wished = refl; service = refl; talk = refl; drive = refl; adapter = refl; verdict = tt; at_work = refl }, (record { number = refl; wished = refl; service = refl; talk = refl; drive = refl; adapter = refl; verdict = tt; at_work = tt }, (record { number = refl; wished = refl; service = refl; talk = refl; drive = refl; adapter = (refl, refl); verdict = refl; at_work = refl }, (record { number = refl; wished = refl; service = refl; talk = refl; drive = tt; adapter = refl; verdict = tt; at_work = refl }, (record { number = refl; wished = refl; service = refl; talk = refl; drive = tt; adapter = tt; verdict = tt; at_work = tt }, tt))))))))))))))))))))); over = record { over = refl; answered = refl } };
}

pub second_adapter_accepted : IsAccepted second_adapter
second_adapter_accepted = record {
  inputs = refl;
  legal = record { follows = (record { later = refl; over = refl; finished = refl; at_work = refl }, (record { number = refl; wished = refl; service = refl; talk = refl; drive = refl; adapter = refl; verdict = tt; at_work = tt }, (record { later = refl; over = refl; finished = refl; at_work = refl }, (record { number = refl; nothing = refl }, (record { later = refl; over = refl; finished = refl; at_work = refl }, (record { number = refl; nothing = refl }, (record { later = refl; over = refl; finished = refl; at_work = refl }, (record { number = refl; nothing = refl }, (record { later = refl; over = refl; finished = refl; at_work = refl }, (record { number = refl; wished = refl; service = refl; talk = refl; drive = refl; adapter = (refl, refl); verdict = refl; at_work = tt }, (record { later = refl; over = refl; finished = refl; at_work = refl }, (record { number = refl; nothing = refl }, (record { later = refl; over = refl; finished = refl; at_work = refl }, (record { number = refl; wished = refl; service = refl; talk = refl; drive = tt; adapter = refl; verdict = tt; at_work = tt }, (record { number = refl; wished = refl; service = refl; talk = refl; drive = tt; adapter = tt; verdict = tt; at_work = tt }, tt))))))))))))))); over = record { over = refl; answered = refl } };
}

pub short_burst_repaired_accepted : IsAccepted short_burst_repaired
unfolding repair.burst_byte
short_burst_repaired_accepted = record {
  inputs = refl;
  legal = record { follows = (record { later = refl; over = refl; finished = refl; at_work = refl }, (record { later = refl; over = refl; finished = refl; at_work = refl }, (record { number = refl; wished = refl; service = refl; talk = refl; drive = refl; adapter = refl; verdict = tt; at_work = tt }, (record { later = refl; over = refl; finished = refl; at_work = refl }, (record { number = refl; wished = refl; service = refl; talk = refl; drive = refl; adapter = (refl, refl); verdict = burst_4091_1025; at_work = tt }, (record { number = refl; wished = refl; service = refl; talk = refl; drive = tt; adapter = refl; verdict = tt; at_work = refl }, (record { number = refl; wished = refl; service = refl; talk = refl; drive = refl; adapter = tt; verdict = tt; at_work = tt }, (record { number = refl; wished = refl; service = refl; talk = refl; drive = tt; adapter = tt; verdict = tt; at_work = tt }, tt)))))))); over = record { over = refl; answered = refl } };
}

pub turned_accepted : IsAccepted turned
turned_accepted = record {
  inputs = refl;
  legal = record { follows = (record { later = refl; over = refl; finished = refl; at_work = refl }, (record { later = refl; over = refl; finished = refl; at_work = refl }, (record { number = refl; wished = refl; service = refl; talk = refl; drive = refl; adapter = tt; verdict = tt; at_work = tt }, (record { later = refl; over = refl; finished = refl; at_work = refl }, (record { number = refl; nothing = refl }, (record { later = refl; over = refl; finished = refl; at_work = refl }, (record { number = refl; nothing = refl }, (record { later = refl; over = refl; finished = refl; at_work = refl }, (record { number = refl; wished = refl; service = refl; talk = refl; drive = refl; adapter = tt; verdict = tt; at_work = tt }, (record { number = refl; wished = refl; service = refl; talk = refl; drive = refl; adapter = refl; verdict = tt; at_work = refl }, (record { number = refl; wished = refl; service = refl; talk = refl; drive = refl; adapter = refl; verdict = tt; at_work = tt }, (record { number = refl; wished = refl; service = refl; talk = refl; drive = refl; adapter = (refl, refl); verdict = refl; at_work = refl }, (record { number = refl; wished = refl; service = refl; talk = refl; drive = tt; adapter = refl; verdict = tt; at_work = refl }, (record { number = refl; wished = refl; service = refl; talk = refl; drive = tt; adapter = tt; verdict = tt; at_work = tt }, (record { later = refl; over = refl; finished = refl; at_work = refl }, (record { later = refl; over = refl; finished = refl; at_work = refl }, (record { number = refl; wished = refl; service = refl; talk = refl; drive = refl; adapter = refl; verdict = tt; at_work = tt }, (record { later = refl; over = refl; finished = refl; at_work = refl }, (record { number = refl; wished = refl; service = refl; talk = refl; drive = refl; adapter = (refl, refl); verdict = refl; at_work = tt }, (record { number = refl; wished = refl; service = refl; talk = refl; drive = tt; adapter = refl; verdict = tt; at_work = refl }, (record { number = refl; wished = refl; service = refl; talk = refl; drive = tt; adapter = tt; verdict = tt; at_work = tt }, tt))))))))))))))))))))); over = record { over = refl; answered = refl } };
}
