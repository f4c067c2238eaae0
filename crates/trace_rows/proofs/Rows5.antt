-- Each moment of the rows may come, by computation; docs/trace-rows/rows.py writes this.
use Rattle.std.proofs.Common.{List, take, drop, refl}
use Rattle.trace_replay.specs.Moments.{Moment}
use Rattle.trace_replay.specs.Replay.{Replay, Follows, after_moments}
use Rattle.trace_replay.proofs.Following.{follow_on}
use Rattle.trace_rows.specs.Accepted.{start_of, moments_of, IsAccepted}
use Rattle.trace_rows.specs.Rows5.{twenty_seven_retries, two_adapters_overlap, two_sweeps, unforwarded, unmarked_block_reads_its_own_sector}
use Rattle.trace_rows.proofs.Shown.{shown_0_7_14}

twenty_seven_retries_part_0 : Follows (start_of twenty_seven_retries) (take 40 (moments_of twenty_seven_retries))
twenty_seven_retries_part_0 = (record { later = refl; over = refl; finished = refl; at_work = refl }, (record { later = refl; over = refl; finished = refl; at_work = refl }, (record { number = refl; wished = refl; service = refl; talk = refl; drive = refl; adapter = refl; verdict = tt; at_work = tt }, (record { later = refl; over = refl; finished = refl; at_work = refl }, (record { number = refl; wished = refl; service = refl; talk = refl; drive = refl; adapter = (refl, refl); verdict = shown_0_7_14; at_work = tt }, (record { number = refl; wished = refl; service = refl; talk = refl; drive = tt; adapter = refl; verdict = tt; at_work = refl }, (record { number = refl; wished = refl; service = refl; talk = refl; drive = refl; adapter = tt; verdict = tt; at_work = tt }, (record { number = refl; wished = refl; service = refl; talk = refl; drive = tt; adapter = tt; verdict = tt; at_work = tt }, (record { number = refl; wished = refl; service = refl; talk = refl; drive = refl; adapter = refl; verdict = tt; at_work = tt }, (record { number = refl; wished = refl; service = refl; talk = refl; drive = refl; adapter = (refl, refl); verdict = shown_0_7_14; at_work = refl }, (record { number = refl; wished = refl; service = refl; talk = refl; drive = tt; adapter = refl; verdict = tt; at_work = refl }, (record { number = refl; wished = refl; service = refl; talk = refl; drive = refl; adapter = tt; verdict = tt; at_work = tt }, (record { number = refl; wished = refl; service = refl; talk = refl; drive = tt; adapter = tt; verdict = tt; at_work = tt }, (record { number = refl; wished = refl; service = refl; talk = refl; drive = refl; adapter = refl; verdict = tt; at_work = tt }, (record { number = refl; wished = refl; service = refl; talk = refl; drive = refl; adapter = (refl, refl); verdict = shown_0_7_14; at_work = refl }, (record { number = refl; wished = refl; service = refl; talk = refl; drive = tt; adapter = refl; verdict = tt; at_work = refl }, (record { number = refl; wished = refl; service = refl; talk = refl; drive = refl; adapter = tt; verdict = tt; at_work = tt }, (record { number = refl; wished = refl; service = refl; talk = refl; drive = tt; adapter = tt; verdict = tt; at_work = tt }, (record { number = refl; wished = refl; service = refl; talk = refl; drive = refl; adapter = refl; verdict = tt; at_work = tt }, (record { number = refl; wished = refl; service = refl; talk = refl; drive = refl; adapter = (refl, refl); verdict = shown_0_7_14; at_work = refl }, (record { number = refl; wished = refl; service = refl; talk = refl; drive = tt; adapter = refl; verdict = tt; at_work = refl }, (record { number = refl; wished = refl; service = refl; talk = refl; drive = refl; adapter = tt; verdict = tt; at_work = tt }, (record { number = refl; wished = refl; service = refl; talk = refl; drive = tt; adapter = tt; verdict = tt; at_work = tt }, (record { number = refl; wished = refl; service = refl; talk = refl; drive = refl; adapter = tt; verdict = tt; at_work = tt }, (record { number = refl; wished = refl; service = refl; talk = refl; drive = refl; adapter = tt; verdict = tt; at_work = refl }, (record { number = refl; wished = refl; service = refl; talk = refl; drive = refl; adapter = refl; verdict = tt; at_work = refl }, (record { number = refl; wished = refl; service = refl; talk = refl; drive = refl; adapter = refl; verdict = tt; at_work = tt }, (record { number = refl; wished = refl; service = refl; talk = refl; drive = refl; adapter = (refl, refl); verdict = shown_0_7_14; at_work = refl }, (record { number = refl; wished = refl; service = refl; talk = refl; drive = tt; adapter = refl; verdict = tt; at_work = refl }, (record { number = refl; wished = refl; service = refl; talk = refl; drive = refl; adapter = tt; verdict = tt; at_work = tt }, (record { number = refl; wished = refl; service = refl; talk = refl; drive = tt; adapter = tt; verdict = tt; at_work = tt }, (record { number = refl; wished = refl; service = refl; talk = refl; drive = refl; adapter = refl; verdict = tt; at_work = tt }, (record { number = refl; wished = refl; service = refl; talk = refl; drive = refl; adapter = (refl, refl); verdict = shown_0_7_14; at_work = refl }, (record { number = refl; wished = refl; service = refl; talk = refl; drive = tt; adapter = refl; verdict = tt; at_work = refl }, (record { number = refl; wished = refl; service = refl; talk = refl; drive = refl; adapter = tt; verdict = tt; at_work = tt }, (record { number = refl; wished = refl; service = refl; talk = refl; drive = tt; adapter = tt; verdict = tt; at_work = tt }, (record { number = refl; wished = refl; service = refl; talk = refl; drive = refl; adapter = refl; verdict = tt; at_work = tt }, (record { number = refl; wished = refl; service = refl; talk = refl; drive = refl; adapter = (refl, refl); verdict = shown_0_7_14; at_work = refl }, (record { number = refl; wished = refl; service = refl; talk = refl; drive = tt; adapter = refl; verdict = tt; at_work = refl }, (record { number = refl; wished = refl; service = refl; talk = refl; drive = refl; adapter = tt; verdict = tt; at_work = tt }, tt))))))))))))))))))))))))))))))))))))))))

abbrev twenty_seven_retries_after_1 : Replay
twenty_seven_retries_after_1 = after_moments (start_of twenty_seven_retries) (take 40 (moments_of twenty_seven_retries))

abbrev twenty_seven_retries_from_1 : List Moment
twenty_seven_retries_from_1 = drop 40 (moments_of twenty_seven_retries)

twenty_seven_retries_part_1 : Follows twenty_seven_retries_after_1 (take 40 twenty_seven_retries_from_1)
twenty_seven_retries_part_1 = (record { number = refl; wished = refl; service = refl; talk = refl; drive = tt; adapter = tt; verdict = tt; at_work = tt }, (record { number = refl; wished = refl; service = refl; talk = refl; drive = refl; adapter = refl; verdict = tt; at_work = tt }, (record { number = refl; wished = refl; service = refl; talk = refl; drive = refl; adapter = (refl, refl); verdict = shown_0_7_14; at_work = refl }, (record { number = refl; wished = refl; service = refl; talk = refl; drive = tt; adapter = refl; verdict = tt; at_work = refl }, (record { number = refl; wished = refl; service = refl; talk = refl; drive = refl; adapter = tt; verdict = tt; at_work = tt }, (record { number = refl; wished = refl; service = refl; talk = refl; drive = tt; adapter = tt; verdict = tt; at_work = tt }, (record { number = refl; wished = refl; service = refl; talk = refl; drive = refl; adapter = refl; verdict = tt; at_work = tt }, (record { number = refl; wished = refl; service = refl; talk = refl; drive = refl; adapter = (refl, refl); verdict = shown_0_7_14; at_work = refl }, (record { number = refl; wished = refl; service = refl; talk = refl; drive = tt; adapter = refl; verdict = tt; at_work = refl }, (record { number = refl; wished = refl; service = refl; talk = refl; drive = refl; adapter = tt; verdict = tt; at_work = tt }, (record { number = refl; wished = refl; service = refl; talk = refl; drive = tt; adapter = tt; verdict = tt; at_work = tt }, (record { number = refl; wished = refl; service = refl; talk = refl; drive = refl; adapter = refl; verdict = tt; at_work = tt }, (record { number = refl; wished = refl; service = refl; talk = refl; drive = refl; adapter = (refl, refl); verdict = shown_0_7_14; at_work = refl }, (record { number = refl; wished = refl; service = refl; talk = refl; drive = tt; adapter = refl; verdict = tt; at_work = refl }, (record { number = refl; wished = refl; service = refl; talk = refl; drive = refl; adapter = tt; verdict = tt; at_work = tt }, (record { number = refl; wished = refl; service = refl; talk = refl; drive = tt; adapter = tt; verdict = tt; at_work = tt }, (record { number = refl; wished = refl; service = refl; talk = refl; drive = refl; adapter = refl; verdict = tt; at_work = tt }, (record { number = refl; wished = refl; service = refl; talk = refl; drive = refl; adapter = (refl, refl); verdict = shown_0_7_14; at_work = refl }, (record { number = refl; wished = refl; service = refl; talk = refl; drive = tt; adapter = refl; verdict = tt; at_work = refl }, (record { number = refl; wished = refl; service = refl; talk = refl; drive = refl; adapter = tt; verdict = tt; at_work = tt }, (record { number = refl; wished = refl; service = refl; talk = refl; drive = tt; adapter = tt; verdict = tt; at_work = tt }, (record { number = refl; wished = refl; service = refl; talk = refl; drive = refl; adapter = refl; verdict = tt; at_work = tt }, (record { number = refl; wished = refl; service = refl; talk = refl; drive = refl; adapter = (refl, refl); verdict = shown_0_7_14; at_work = refl }, (record { number = refl; wished = refl; service = refl; talk = refl; drive = tt; adapter = refl; verdict = tt; at_work = refl }, (record { number = refl; wished = refl; service = refl; talk = refl; drive = refl; adapter = tt; verdict = tt; at_work = tt }, (record { number = refl; wished = refl; service = refl; talk = refl; drive = tt; adapter = tt; verdict = tt; at_work = tt }, (record { number = refl; wished = refl; service = refl; talk = refl; drive = refl; adapter = tt; verdict = tt; at_work = tt }, (record { number = refl; wished = refl; service = refl; talk = refl; drive = refl; adapter = tt; verdict = tt; at_work = refl }, (record { number = refl; wished = refl; service = refl; talk = refl; drive = refl; adapter = refl; verdict = tt; at_work = refl }, (record { number = refl; wished = refl; service = refl; talk = refl; drive = refl; adapter = refl; verdict = tt; at_work = tt }, (record { number = refl; wished = refl; service = refl; talk = refl; drive = refl; adapter = (refl, refl); verdict = shown_0_7_14; at_work = refl }, (record { number = refl; wished = refl; service = refl; talk = refl; drive = tt; adapter = refl; verdict = tt; at_work = refl }, (record { number = refl; wished = refl; service = refl; talk = refl; drive = refl; adapter = tt; verdict = tt; at_work = tt }, (record { number = refl; wished = refl; service = refl; talk = refl; drive = tt; adapter = tt; verdict = tt; at_work = tt }, (record { number = refl; wished = refl; service = refl; talk = refl; drive = refl; adapter = refl; verdict = tt; at_work = tt }, (record { number = refl; wished = refl; service = refl; talk = refl; drive = refl; adapter = (refl, refl); verdict = shown_0_7_14; at_work = refl }, (record { number = refl; wished = refl; service = refl; talk = refl; drive = tt; adapter = refl; verdict = tt; at_work = refl }, (record { number = refl; wished = refl; service = refl; talk = refl; drive = refl; adapter = tt; verdict = tt; at_work = tt }, (record { number = refl; wished = refl; service = refl; talk = refl; drive = tt; adapter = tt; verdict = tt; at_work = tt }, (record { number = refl; wished = refl; service = refl; talk = refl; drive = refl; adapter = refl; verdict = tt; at_work = tt }, tt))))))))))))))))))))))))))))))))))))))))

abbrev twenty_seven_retries_after_2 : Replay
twenty_seven_retries_after_2 = after_moments twenty_seven_retries_after_1 (take 40 twenty_seven_retries_from_1)

abbrev twenty_seven_retries_from_2 : List Moment
twenty_seven_retries_from_2 = drop 40 twenty_seven_retries_from_1

twenty_seven_retries_part_2 : Follows twenty_seven_retries_after_2 (take 40 twenty_seven_retries_from_2)
twenty_seven_retries_part_2 = (record { number = refl; wished = refl; service = refl; talk = refl; drive = refl; adapter = (refl, refl); verdict = shown_0_7_14; at_work = refl }, (record { number = refl; wished = refl; service = refl; talk = refl; drive = tt; adapter = refl; verdict = tt; at_work = refl }, (record { number = refl; wished = refl; service = refl; talk = refl; drive = refl; adapter = tt; verdict = tt; at_work = tt }, (record { number = refl; wished = refl; service = refl; talk = refl; drive = tt; adapter = tt; verdict = tt; at_work = tt }, (record { number = refl; wished = refl; service = refl; talk = refl; drive = refl; adapter = refl; verdict = tt; at_work = tt }, (record { number = refl; wished = refl; service = refl; talk = refl; drive = refl; adapter = (refl, refl); verdict = shown_0_7_14; at_work = refl }, (record { number = refl; wished = refl; service = refl; talk = refl; drive = tt; adapter = refl; verdict = tt; at_work = refl }, (record { number = refl; wished = refl; service = refl; talk = refl; drive = refl; adapter = tt; verdict = tt; at_work = tt }, (record { number = refl; wished = refl; service = refl; talk = refl; drive = tt; adapter = tt; verdict = tt; at_work = tt }, (record { number = refl; wished = refl; service = refl; talk = refl; drive = refl; adapter = tt; verdict = tt; at_work = tt }, (record { number = refl; wished = refl; service = refl; talk = refl; drive = refl; adapter = tt; verdict = tt; at_work = refl }, (record { number = refl; wished = refl; service = refl; talk = refl; drive = refl; adapter = refl; verdict = tt; at_work = refl }, (record { number = refl; wished = refl; service = refl; talk = refl; drive = refl; adapter = refl; verdict = tt; at_work = tt }, (record { number = refl; wished = refl; service = refl; talk = refl; drive = refl; adapter = (refl, refl); verdict = shown_0_7_14; at_work = refl }, (record { number = refl; wished = refl; service = refl; talk = refl; drive = tt; adapter = refl; verdict = tt; at_work = refl }, (record { number = refl; wished = refl; service = refl; talk = refl; drive = refl; adapter = tt; verdict = tt; at_work = tt }, (record { number = refl; wished = refl; service = refl; talk = refl; drive = refl; adapter = tt; verdict = tt; at_work = tt }, (record { number = refl; wished = refl; service = refl; talk = refl; drive = tt; adapter = tt; verdict = tt; at_work = tt }, (record { number = refl; wished = refl; service = refl; talk = refl; drive = refl; adapter = tt; verdict = tt; at_work = tt }, (record { number = refl; wished = refl; service = refl; talk = refl; drive = refl; adapter = tt; verdict = tt; at_work = refl }, (record { number = refl; wished = refl; service = refl; talk = refl; drive = refl; adapter = refl; verdict = tt; at_work = refl }, (record { number = refl; wished = refl; service = refl; talk = refl; drive = refl; adapter = refl; verdict = tt; at_work = tt }, (record { number = refl; wished = refl; service = refl; talk = refl; drive = refl; adapter = (refl, refl); verdict = shown_0_7_14; at_work = refl }, (record { number = refl; wished = refl; service = refl; talk = refl; drive = tt; adapter = refl; verdict = tt; at_work = refl }, (record { number = refl; wished = refl; service = refl; talk = refl; drive = refl; adapter = tt; verdict = tt; at_work = tt }, (record { number = refl; wished = refl; service = refl; talk = refl; drive = refl; adapter = tt; verdict = tt; at_work = tt }, (record { number = refl; wished = refl; service = refl; talk = refl; drive = tt; adapter = tt; verdict = tt; at_work = tt }, (record { number = refl; wished = refl; service = refl; talk = refl; drive = refl; adapter = tt; verdict = tt; at_work = tt }, (record { number = refl; wished = refl; service = refl; talk = refl; drive = refl; adapter = tt; verdict = tt; at_work = refl }, (record { number = refl; wished = refl; service = refl; talk = refl; drive = refl; adapter = refl; verdict = tt; at_work = refl }, (record { number = refl; wished = refl; service = refl; talk = refl; drive = refl; adapter = refl; verdict = tt; at_work = tt }, (record { number = refl; wished = refl; service = refl; talk = refl; drive = refl; adapter = (refl, refl); verdict = shown_0_7_14; at_work = refl }, (record { number = refl; wished = refl; service = refl; talk = refl; drive = tt; adapter = refl; verdict = tt; at_work = refl }, (record { number = refl; wished = refl; service = refl; talk = refl; drive = refl; adapter = tt; verdict = tt; at_work = tt }, (record { number = refl; wished = refl; service = refl; talk = refl; drive = refl; adapter = tt; verdict = tt; at_work = tt }, (record { number = refl; wished = refl; service = refl; talk = refl; drive = tt; adapter = tt; verdict = tt; at_work = tt }, (record { number = refl; wished = refl; service = refl; talk = refl; drive = refl; adapter = tt; verdict = tt; at_work = tt }, (record { number = refl; wished = refl; service = refl; talk = refl; drive = refl; adapter = tt; verdict = tt; at_work = refl }, (record { number = refl; wished = refl; service = refl; talk = refl; drive = refl; adapter = refl; verdict = tt; at_work = refl }, (record { number = refl; wished = refl; service = refl; talk = refl; drive = refl; adapter = refl; verdict = tt; at_work = tt }, tt))))))))))))))))))))))))))))))))))))))))

abbrev twenty_seven_retries_after_3 : Replay
twenty_seven_retries_after_3 = after_moments twenty_seven_retries_after_2 (take 40 twenty_seven_retries_from_2)

abbrev twenty_seven_retries_from_3 : List Moment
twenty_seven_retries_from_3 = drop 40 twenty_seven_retries_from_2

twenty_seven_retries_part_3 : Follows twenty_seven_retries_after_3 (take 40 twenty_seven_retries_from_3)
twenty_seven_retries_part_3 = (record { number = refl; wished = refl; service = refl; talk = refl; drive = refl; adapter = (refl, refl); verdict = shown_0_7_14; at_work = refl }, (record { number = refl; wished = refl; service = refl; talk = refl; drive = tt; adapter = refl; verdict = tt; at_work = refl }, (record { number = refl; wished = refl; service = refl; talk = refl; drive = refl; adapter = tt; verdict = tt; at_work = tt }, (record { number = refl; wished = refl; service = refl; talk = refl; drive = refl; adapter = tt; verdict = tt; at_work = tt }, (record { number = refl; wished = refl; service = refl; talk = refl; drive = tt; adapter = tt; verdict = tt; at_work = tt }, (record { number = refl; wished = refl; service = refl; talk = refl; drive = refl; adapter = tt; verdict = tt; at_work = tt }, (record { number = refl; wished = refl; service = refl; talk = refl; drive = refl; adapter = tt; verdict = tt; at_work = refl }, (record { number = refl; wished = refl; service = refl; talk = refl; drive = refl; adapter = refl; verdict = tt; at_work = refl }, (record { number = refl; wished = refl; service = refl; talk = refl; drive = refl; adapter = tt; verdict = tt; at_work = tt }, (record { number = refl; wished = refl; service = refl; talk = refl; drive = refl; adapter = tt; verdict = tt; at_work = refl }, (record { number = refl; wished = refl; service = refl; talk = refl; drive = refl; adapter = refl; verdict = tt; at_work = refl }, (record { number = refl; wished = refl; service = refl; talk = refl; drive = refl; adapter = refl; verdict = tt; at_work = tt }, (record { number = refl; wished = refl; service = refl; talk = refl; drive = refl; adapter = (refl, refl); verdict = shown_0_7_14; at_work = refl }, (record { number = refl; wished = refl; service = refl; talk = refl; drive = tt; adapter = refl; verdict = tt; at_work = refl }, (record { number = refl; wished = refl; service = refl; talk = refl; drive = refl; adapter = tt; verdict = tt; at_work = tt }, (record { number = refl; wished = refl; service = refl; talk = refl; drive = refl; adapter = tt; verdict = tt; at_work = tt }, (record { number = refl; wished = refl; service = refl; talk = refl; drive = tt; adapter = tt; verdict = tt; at_work = tt }, (record { number = refl; wished = refl; service = refl; talk = refl; drive = refl; adapter = tt; verdict = tt; at_work = tt }, (record { number = refl; wished = refl; service = refl; talk = refl; drive = refl; adapter = tt; verdict = tt; at_work = refl }, (record { number = refl; wished = refl; service = refl; talk = refl; drive = refl; adapter = refl; verdict = tt; at_work = refl }, (record { number = refl; wished = refl; service = refl; talk = refl; drive = refl; adapter = refl; verdict = tt; at_work = tt }, (record { number = refl; wished = refl; service = refl; talk = refl; drive = refl; adapter = (refl, refl); verdict = shown_0_7_14; at_work = refl }, (record { number = refl; wished = refl; service = refl; talk = refl; drive = tt; adapter = refl; verdict = tt; at_work = refl }, (record { number = refl; wished = refl; service = refl; talk = refl; drive = refl; adapter = tt; verdict = tt; at_work = tt }, (record { number = refl; wished = refl; service = refl; talk = refl; drive = refl; adapter = tt; verdict = tt; at_work = tt }, (record { number = refl; wished = refl; service = refl; talk = refl; drive = tt; adapter = tt; verdict = tt; at_work = tt }, (record { number = refl; wished = refl; service = refl; talk = refl; drive = refl; adapter = tt; verdict = tt; at_work = tt }, (record { number = refl; wished = refl; service = refl; talk = refl; drive = refl; adapter = tt; verdict = tt; at_work = refl }, (record { number = refl; wished = refl; service = refl; talk = refl; drive = refl; adapter = refl; verdict = tt; at_work = refl }, (record { number = refl; wished = refl; service = refl; talk = refl; drive = refl; adapter = refl; verdict = tt; at_work = tt }, (record { number = refl; wished = refl; service = refl; talk = refl; drive = refl; adapter = (refl, refl); verdict = shown_0_7_14; at_work = refl }, (record { number = refl; wished = refl; service = refl; talk = refl; drive = tt; adapter = refl; verdict = tt; at_work = refl }, (record { number = refl; wished = refl; service = refl; talk = refl; drive = refl; adapter = tt; verdict = tt; at_work = tt }, (record { number = refl; wished = refl; service = refl; talk = refl; drive = refl; adapter = tt; verdict = tt; at_work = tt }, (record { number = refl; wished = refl; service = refl; talk = refl; drive = tt; adapter = tt; verdict = tt; at_work = tt }, (record { number = refl; wished = refl; service = refl; talk = refl; drive = refl; adapter = tt; verdict = tt; at_work = tt }, (record { number = refl; wished = refl; service = refl; talk = refl; drive = refl; adapter = tt; verdict = tt; at_work = refl }, (record { number = refl; wished = refl; service = refl; talk = refl; drive = refl; adapter = refl; verdict = tt; at_work = refl }, (record { number = refl; wished = refl; service = refl; talk = refl; drive = refl; adapter = refl; verdict = tt; at_work = tt }, (record { number = refl; wished = refl; service = refl; talk = refl; drive = refl; adapter = (refl, refl); verdict = shown_0_7_14; at_work = refl }, tt))))))))))))))))))))))))))))))))))))))))

abbrev twenty_seven_retries_after_4 : Replay
twenty_seven_retries_after_4 = after_moments twenty_seven_retries_after_3 (take 40 twenty_seven_retries_from_3)

abbrev twenty_seven_retries_from_4 : List Moment
twenty_seven_retries_from_4 = drop 40 twenty_seven_retries_from_3

twenty_seven_retries_part_4 : Follows twenty_seven_retries_after_4 (take 40 twenty_seven_retries_from_4)
twenty_seven_retries_part_4 = (record { number = refl; wished = refl; service = refl; talk = refl; drive = tt; adapter = refl; verdict = tt; at_work = refl }, (record { number = refl; wished = refl; service = refl; talk = refl; drive = refl; adapter = tt; verdict = tt; at_work = tt }, (record { number = refl; wished = refl; service = refl; talk = refl; drive = refl; adapter = tt; verdict = tt; at_work = tt }, (record { number = refl; wished = refl; service = refl; talk = refl; drive = tt; adapter = tt; verdict = tt; at_work = tt }, (record { number = refl; wished = refl; service = refl; talk = refl; drive = refl; adapter = tt; verdict = tt; at_work = tt }, (record { number = refl; wished = refl; service = refl; talk = refl; drive = refl; adapter = tt; verdict = tt; at_work = refl }, (record { number = refl; wished = refl; service = refl; talk = refl; drive = refl; adapter = refl; verdict = tt; at_work = refl }, (record { number = refl; wished = refl; service = refl; talk = refl; drive = refl; adapter = refl; verdict = tt; at_work = tt }, (record { number = refl; wished = refl; service = refl; talk = refl; drive = refl; adapter = (refl, refl); verdict = shown_0_7_14; at_work = refl }, (record { number = refl; wished = refl; service = refl; talk = refl; drive = tt; adapter = refl; verdict = tt; at_work = refl }, (record { number = refl; wished = refl; service = refl; talk = refl; drive = refl; adapter = tt; verdict = tt; at_work = tt }, (record { number = refl; wished = refl; service = refl; talk = refl; drive = refl; adapter = tt; verdict = tt; at_work = tt }, (record { number = refl; wished = refl; service = refl; talk = refl; drive = tt; adapter = tt; verdict = tt; at_work = tt }, (record { number = refl; wished = refl; service = refl; talk = refl; drive = refl; adapter = tt; verdict = tt; at_work = tt }, (record { number = refl; wished = refl; service = refl; talk = refl; drive = refl; adapter = tt; verdict = tt; at_work = refl }, (record { number = refl; wished = refl; service = refl; talk = refl; drive = refl; adapter = refl; verdict = tt; at_work = refl }, (record { number = refl; wished = refl; service = refl; talk = refl; drive = refl; adapter = refl; verdict = tt; at_work = tt }, (record { number = refl; wished = refl; service = refl; talk = refl; drive = refl; adapter = (refl, refl); verdict = shown_0_7_14; at_work = refl }, (record { number = refl; wished = refl; service = refl; talk = refl; drive = tt; adapter = refl; verdict = tt; at_work = refl }, (record { number = refl; wished = refl; service = refl; talk = refl; drive = refl; adapter = tt; verdict = tt; at_work = tt }, (record { number = refl; wished = refl; service = refl; talk = refl; drive = refl; adapter = tt; verdict = tt; at_work = tt }, (record { number = refl; wished = refl; service = refl; talk = refl; drive = tt; adapter = tt; verdict = tt; at_work = tt }, (record { number = refl; wished = refl; service = refl; talk = refl; drive = refl; adapter = tt; verdict = tt; at_work = tt }, (record { number = refl; wished = refl; service = refl; talk = refl; drive = refl; adapter = tt; verdict = tt; at_work = refl }, (record { number = refl; wished = refl; service = refl; talk = refl; drive = refl; adapter = refl; verdict = tt; at_work = refl }, (record { number = refl; wished = refl; service = refl; talk = refl; drive = refl; adapter = refl; verdict = tt; at_work = tt }, (record { number = refl; wished = refl; service = refl; talk = refl; drive = refl; adapter = (refl, refl); verdict = shown_0_7_14; at_work = refl }, (record { number = refl; wished = refl; service = refl; talk = refl; drive = tt; adapter = refl; verdict = tt; at_work = refl }, (record { number = refl; wished = refl; service = refl; talk = refl; drive = refl; adapter = tt; verdict = tt; at_work = tt }, (record { number = refl; wished = refl; service = refl; talk = refl; drive = refl; adapter = tt; verdict = tt; at_work = tt }, (record { number = refl; wished = refl; service = refl; talk = refl; drive = tt; adapter = tt; verdict = tt; at_work = tt }, (record { number = refl; wished = refl; service = refl; talk = refl; drive = refl; adapter = tt; verdict = tt; at_work = tt }, (record { number = refl; wished = refl; service = refl; talk = refl; drive = refl; adapter = tt; verdict = tt; at_work = refl }, (record { number = refl; wished = refl; service = refl; talk = refl; drive = refl; adapter = refl; verdict = tt; at_work = refl }, (record { number = refl; wished = refl; service = refl; talk = refl; drive = refl; adapter = refl; verdict = tt; at_work = tt }, (record { number = refl; wished = refl; service = refl; talk = refl; drive = refl; adapter = (refl, refl); verdict = refl; at_work = refl }, (record { number = refl; wished = refl; service = refl; talk = refl; drive = tt; adapter = refl; verdict = tt; at_work = refl }, (record { number = refl; wished = refl; service = refl; talk = refl; drive = refl; adapter = tt; verdict = tt; at_work = tt }, (record { number = refl; wished = refl; service = refl; talk = refl; drive = tt; adapter = tt; verdict = tt; at_work = tt }, tt)))))))))))))))))))))))))))))))))))))))

twenty_seven_retries_follows_4 : Follows twenty_seven_retries_after_4 twenty_seven_retries_from_4
twenty_seven_retries_follows_4 = twenty_seven_retries_part_4

twenty_seven_retries_follows_3 : Follows twenty_seven_retries_after_3 twenty_seven_retries_from_3
twenty_seven_retries_follows_3 = (follow_on twenty_seven_retries_after_3 (take 40 twenty_seven_retries_from_3) (drop 40 twenty_seven_retries_from_3)).1 (twenty_seven_retries_part_3, twenty_seven_retries_follows_4)

twenty_seven_retries_follows_2 : Follows twenty_seven_retries_after_2 twenty_seven_retries_from_2
twenty_seven_retries_follows_2 = (follow_on twenty_seven_retries_after_2 (take 40 twenty_seven_retries_from_2) (drop 40 twenty_seven_retries_from_2)).1 (twenty_seven_retries_part_2, twenty_seven_retries_follows_3)

twenty_seven_retries_follows_1 : Follows twenty_seven_retries_after_1 twenty_seven_retries_from_1
twenty_seven_retries_follows_1 = (follow_on twenty_seven_retries_after_1 (take 40 twenty_seven_retries_from_1) (drop 40 twenty_seven_retries_from_1)).1 (twenty_seven_retries_part_1, twenty_seven_retries_follows_2)

twenty_seven_retries_follows_0 : Follows (start_of twenty_seven_retries) (moments_of twenty_seven_retries)
twenty_seven_retries_follows_0 = (follow_on (start_of twenty_seven_retries) (take 40 (moments_of twenty_seven_retries)) (drop 40 (moments_of twenty_seven_retries))).1 (twenty_seven_retries_part_0, twenty_seven_retries_follows_1)

pub twenty_seven_retries_accepted : IsAccepted twenty_seven_retries
twenty_seven_retries_accepted = record {
  inputs = refl;
  legal = record { follows = twenty_seven_retries_follows_0; over = record { over = refl; answered = refl } };
}

pub two_adapters_overlap_accepted : IsAccepted two_adapters_overlap
two_adapters_overlap_accepted = record {
  inputs = refl;
  legal = record { follows = (record { later = refl; over = refl; finished = refl; at_work = refl }, (record { number = refl; wished = refl; service = refl; talk = refl; drive = refl; adapter = tt; verdict = tt; at_work = tt }, (record { later = refl; over = refl; finished = refl; at_work = refl }, (record { number = refl; wished = refl; service = refl; talk = refl; drive = refl; adapter = tt; verdict = tt; at_work = tt }, (record { later = refl; over = refl; finished = refl; at_work = refl }, (record { number = refl; wished = refl; service = refl; talk = refl; drive = refl; adapter = tt; verdict = tt; at_work = tt }, (record { later = refl; over = refl; finished = refl; at_work = refl }, (record { number = refl; wished = refl; service = refl; talk = refl; drive = refl; adapter = tt; verdict = tt; at_work = tt }, (record { later = refl; over = refl; finished = refl; at_work = refl }, (record { number = refl; wished = refl; service = refl; talk = refl; drive = refl; adapter = refl; verdict = tt; at_work = tt }, (record { number = refl; wished = refl; service = refl; talk = refl; drive = refl; adapter = refl; verdict = tt; at_work = tt }, (record { later = refl; over = refl; finished = refl; at_work = refl }, (record { number = refl; wished = refl; service = refl; talk = refl; drive = refl; adapter = tt; verdict = tt; at_work = tt }, (record { later = refl; over = refl; finished = refl; at_work = refl }, (record { number = refl; wished = refl; service = refl; talk = refl; drive = refl; adapter = (refl, refl); verdict = refl; at_work = tt }, (record { later = refl; over = refl; finished = refl; at_work = refl }, (record { number = refl; wished = refl; service = refl; talk = refl; drive = tt; adapter = refl; verdict = tt; at_work = tt }, (record { number = refl; wished = refl; service = refl; talk = refl; drive = tt; adapter = tt; verdict = tt; at_work = tt }, (record { number = refl; wished = refl; service = refl; talk = refl; drive = refl; adapter = refl; verdict = tt; at_work = tt }, (record { number = refl; wished = refl; service = refl; talk = refl; drive = refl; adapter = refl; verdict = tt; at_work = tt }, (record { later = refl; over = refl; finished = refl; at_work = refl }, (record { number = refl; wished = refl; service = refl; talk = refl; drive = refl; adapter = tt; verdict = tt; at_work = tt }, (record { later = refl; over = refl; finished = refl; at_work = refl }, (record { number = refl; wished = refl; service = refl; talk = refl; drive = refl; adapter = refl; verdict = tt; at_work = tt }, (record { number = refl; wished = refl; service = refl; talk = refl; drive = refl; adapter = refl; verdict = tt; at_work = tt }, (record { later = refl; over = refl; finished = refl; at_work = refl }, (record { number = refl; wished = refl; service = refl; talk = refl; drive = refl; adapter = (refl, refl); verdict = refl; at_work = tt }, (record { later = refl; over = refl; finished = refl; at_work = refl }, (record { number = refl; wished = refl; service = refl; talk = refl; drive = refl; adapter = (refl, refl); verdict = refl; at_work = tt }, (record { later = refl; over = refl; finished = refl; at_work = refl }, (record { number = refl; wished = refl; service = refl; talk = refl; drive = tt; adapter = refl; verdict = tt; at_work = tt }, (record { number = refl; wished = refl; service = refl; talk = refl; drive = tt; adapter = tt; verdict = tt; at_work = tt }, (record { later = refl; over = refl; finished = refl; at_work = refl }, (record { number = refl; wished = refl; service = refl; talk = refl; drive = tt; adapter = refl; verdict = tt; at_work = tt }, (record { number = refl; wished = refl; service = refl; talk = refl; drive = tt; adapter = tt; verdict = tt; at_work = tt }, (record { later = refl; over = refl; finished = refl; at_work = refl }, (record { number = refl; nothing = refl }, tt))))))))))))))))))))))))))))))))))))); over = record { over = refl; answered = refl } };
}

pub two_sweeps_accepted : IsAccepted two_sweeps
two_sweeps_accepted = record {
  inputs = refl;
  legal = record { follows = (record { later = refl; over = refl; finished = refl; at_work = refl }, (record { number = refl; wished = refl; service = refl; talk = refl; drive = refl; adapter = tt; verdict = tt; at_work = tt }, (record { later = refl; over = refl; finished = refl; at_work = refl }, (record { later = refl; over = refl; finished = refl; at_work = refl }, (record { later = refl; over = refl; finished = refl; at_work = refl }, (record { later = refl; over = refl; finished = refl; at_work = refl }, (record { later = refl; over = refl; finished = refl; at_work = refl }, (record { number = refl; wished = refl; service = refl; talk = refl; drive = refl; adapter = tt; verdict = tt; at_work = tt }, (record { number = refl; wished = refl; service = refl; talk = refl; drive = refl; adapter = refl; verdict = tt; at_work = refl }, (record { number = refl; wished = refl; service = refl; talk = refl; drive = refl; adapter = refl; verdict = tt; at_work = tt }, (record { number = refl; wished = refl; service = refl; talk = refl; drive = refl; adapter = (refl, refl); verdict = refl; at_work = refl }, (record { number = refl; wished = refl; service = refl; talk = refl; drive = tt; adapter = refl; verdict = tt; at_work = refl }, (record { number = refl; wished = refl; service = refl; talk = refl; drive = tt; adapter = tt; verdict = tt; at_work = tt }, (record { number = refl; wished = refl; service = refl; talk = refl; drive = refl; adapter = tt; verdict = tt; at_work = tt }, (record { number = refl; wished = refl; service = refl; talk = refl; drive = refl; adapter = tt; verdict = tt; at_work = refl }, (record { number = refl; wished = refl; service = refl; talk = refl; drive = refl; adapter = refl; verdict = tt; at_work = refl }, (record { number = refl; wished = refl; service = refl; talk = refl; drive = refl; adapter = refl; verdict = tt; at_work = tt }, (record { number = refl; wished = refl; service = refl; talk = refl; drive = refl; adapter = (refl, refl); verdict = refl; at_work = refl }, (record { number = refl; wished = refl; service = refl; talk = refl; drive = tt; adapter = refl; verdict = tt; at_work = refl }, (record { number = refl; wished = refl; service = refl; talk = refl; drive = tt; adapter = tt; verdict = tt; at_work = tt }, (record { number = refl; wished = refl; service = refl; talk = refl; drive = refl; adapter = tt; verdict = tt; at_work = tt }, (record { number = refl; wished = refl; service = refl; talk = refl; drive = refl; adapter = tt; verdict = tt; at_work = refl }, (record { number = refl; wished = refl; service = refl; talk = refl; drive = refl; adapter = refl; verdict = tt; at_work = refl }, (record { number = refl; wished = refl; service = refl; talk = refl; drive = refl; adapter = refl; verdict = tt; at_work = tt }, (record { number = refl; wished = refl; service = refl; talk = refl; drive = refl; adapter = (refl, refl); verdict = refl; at_work = refl }, (record { number = refl; wished = refl; service = refl; talk = refl; drive = tt; adapter = refl; verdict = tt; at_work = refl }, (record { number = refl; wished = refl; service = refl; talk = refl; drive = tt; adapter = tt; verdict = tt; at_work = tt }, (record { number = refl; wished = refl; service = refl; talk = refl; drive = refl; adapter = tt; verdict = tt; at_work = tt }, (record { number = refl; wished = refl; service = refl; talk = refl; drive = refl; adapter = tt; verdict = tt; at_work = refl }, (record { number = refl; wished = refl; service = refl; talk = refl; drive = refl; adapter = refl; verdict = tt; at_work = refl }, (record { number = refl; wished = refl; service = refl; talk = refl; drive = refl; adapter = refl; verdict = tt; at_work = tt }, (record { number = refl; wished = refl; service = refl; talk = refl; drive = refl; adapter = (refl, refl); verdict = refl; at_work = refl }, (record { number = refl; wished = refl; service = refl; talk = refl; drive = tt; adapter = refl; verdict = tt; at_work = refl }, (record { number = refl; wished = refl; service = refl; talk = refl; drive = tt; adapter = tt; verdict = tt; at_work = tt }, (record { number = refl; wished = refl; service = refl; talk = refl; drive = refl; adapter = tt; verdict = tt; at_work = tt }, (record { number = refl; wished = refl; service = refl; talk = refl; drive = refl; adapter = tt; verdict = tt; at_work = refl }, (record { number = refl; wished = refl; service = refl; talk = refl; drive = refl; adapter = refl; verdict = tt; at_work = refl }, (record { number = refl; wished = refl; service = refl; talk = refl; drive = refl; adapter = refl; verdict = tt; at_work = tt }, (record { number = refl; wished = refl; service = refl; talk = refl; drive = refl; adapter = (refl, refl); verdict = refl; at_work = refl }, (record { number = refl; wished = refl; service = refl; talk = refl; drive = tt; adapter = refl; verdict = tt; at_work = refl }, (record { number = refl; wished = refl; service = refl; talk = refl; drive = tt; adapter = tt; verdict = tt; at_work = tt }, tt))))))))))))))))))))))))))))))))))))))))); over = record { over = refl; answered = refl } };
}

pub unforwarded_accepted : IsAccepted unforwarded
unforwarded_accepted = record {
  inputs = refl;
  legal = record { follows = (record { later = refl; over = refl; finished = refl; at_work = refl }, (record { number = refl; wished = refl; service = refl; talk = refl; drive = refl; adapter = tt; verdict = tt; at_work = tt }, (record { later = refl; over = refl; finished = refl; at_work = refl }, (record { number = refl; wished = refl; service = refl; talk = refl; drive = refl; adapter = tt; verdict = tt; at_work = tt }, (record { number = refl; wished = refl; service = refl; talk = refl; drive = refl; adapter = refl; verdict = tt; at_work = refl }, (record { number = refl; wished = refl; service = refl; talk = refl; drive = refl; adapter = refl; verdict = tt; at_work = tt }, (record { number = refl; wished = refl; service = refl; talk = refl; drive = refl; adapter = (refl, refl); verdict = refl; at_work = refl }, (record { number = refl; wished = refl; service = refl; talk = refl; drive = refl; adapter = (refl, refl); verdict = refl; at_work = refl }, (record { number = refl; wished = refl; service = refl; talk = refl; drive = refl; adapter = (refl, refl); verdict = refl; at_work = refl }, (record { number = refl; wished = refl; service = refl; talk = refl; drive = tt; adapter = refl; verdict = tt; at_work = refl }, (record { number = refl; wished = refl; service = refl; talk = refl; drive = refl; adapter = tt; verdict = tt; at_work = tt }, (record { number = refl; wished = refl; service = refl; talk = refl; drive = tt; adapter = tt; verdict = tt; at_work = tt }, tt)))))))))))); over = record { over = refl; answered = refl } };
}

pub unmarked_block_reads_its_own_sector_accepted : IsAccepted unmarked_block_reads_its_own_sector
unmarked_block_reads_its_own_sector_accepted = record {
  inputs = refl;
  legal = record { follows = (record { later = refl; over = refl; finished = refl; at_work = refl }, (record { number = refl; wished = refl; service = refl; talk = refl; drive = refl; adapter = tt; verdict = tt; at_work = tt }, (record { later = refl; over = refl; finished = refl; at_work = refl }, (record { number = refl; wished = refl; service = refl; talk = refl; drive = refl; adapter = tt; verdict = tt; at_work = tt }, (record { number = refl; wished = refl; service = refl; talk = refl; drive = refl; adapter = refl; verdict = tt; at_work = refl }, (record { number = refl; wished = refl; service = refl; talk = refl; drive = refl; adapter = refl; verdict = tt; at_work = tt }, (record { number = refl; wished = refl; service = refl; talk = refl; drive = refl; adapter = (refl, refl); verdict = refl; at_work = refl }, (record { number = refl; wished = refl; service = refl; talk = refl; drive = refl; adapter = (refl, refl); verdict = refl; at_work = refl }, (record { number = refl; wished = refl; service = refl; talk = refl; drive = refl; adapter = (refl, refl); verdict = refl; at_work = refl }, (record { number = refl; wished = refl; service = refl; talk = refl; drive = refl; adapter = (refl, refl); verdict = refl; at_work = refl }, (record { number = refl; wished = refl; service = refl; talk = refl; drive = refl; adapter = (refl, refl); verdict = refl; at_work = refl }, (record { number = refl; wished = refl; service = refl; talk = refl; drive = tt; adapter = refl; verdict = tt; at_work = refl }, (record { number = refl; wished = refl; service = refl; talk = refl; drive = tt; adapter = tt; verdict = tt; at_work = tt }, tt))))))))))))); over = record { over = refl; answered = refl } };
}
