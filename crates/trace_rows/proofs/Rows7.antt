-- Each moment of the rows may come, by computation; docs/trace-rows/rows.py writes this.
use Rattle.std.proofs.Common.{List, take, drop, refl}
use Rattle.trace_replay.specs.Moments.{Moment}
use Rattle.trace_replay.specs.Replay.{Replay, Follows, after_moments}
use Rattle.trace_replay.proofs.Following.{follow_on}
use Rattle.fire_code.specs.Repair as repair
use Rattle.trace_rows.specs.Accepted.{start_of, moments_of, IsAccepted}
use Rattle.trace_rows.specs.Rows7.{users_run}
use Rattle.trace_rows.proofs.Bursts.{burst_9_1025, burst_101_33}

users_run_part_0 : Follows (start_of users_run) (take 40 (moments_of users_run))
unfolding repair.burst_byte
users_run_part_0 = (record { later = refl; over = refl; finished = refl; at_work = refl }, (record { later = refl; over = refl; finished = refl; at_work = refl }, (record { later = refl; over = refl; finished = refl; at_work = refl }, (record { number = refl; wished = refl; service = refl; talk = refl; drive = refl; adapter = tt; verdict = tt; at_work = tt }, (record { later = refl; over = refl; finished = refl; at_work = refl }, (record { number = refl; wished = refl; service = refl; talk = refl; drive = refl; adapter = tt; verdict = tt; at_work = tt }, (record { later = refl; over = refl; finished = refl; at_work = refl }, (record { number = refl; wished = refl; service = refl; talk = refl; drive = refl; adapter = tt; verdict = tt; at_work = tt }, (record { later = refl; over = refl; finished = refl; at_work = refl }, (record { later = refl; over = refl; finished = refl; at_work = refl }, (record { later = refl; over = refl; finished = refl; at_work = refl }, (record { later = refl; over = refl; finished = refl; at_work = refl }, (record { later = refl; over = refl; finished = refl; at_work = refl }, (record { later = refl; over = refl; finished = refl; at_work = refl }, (record { later = refl; over = refl; finished = refl; at_work = refl }, (record { later = refl; over = refl; finished = refl; at_work = refl }, (record { later = refl; over = refl; finished = refl; at_work = refl }, (record { later = refl; over = refl; finished = refl; at_work = refl }, (record { later = refl; over = refl; finished = refl; at_work = refl }, (record { later = refl; over = refl; finished = refl; at_work = refl }, (record { later = refl; over = refl; finished = refl; at_work = refl }, (record { later = refl; over = refl; finished = refl; at_work = refl }, (record { later = refl; over = refl; finished = refl; at_work = refl }, (record { later = refl; over = refl; finished = refl; at_work = refl }, (record { later = refl; over = refl; finished = refl; at_work = refl }, (record { later = refl; over = refl; finished = refl; at_work = refl }, (record { later = refl; over = refl; finished = refl; at_work = refl }, (record { later = refl; over = refl; finished = refl; at_work = refl }, (record { later = refl; over = refl; finished = refl; at_work = refl }, (record { later = refl; over = refl; finished = refl; at_work = refl }, (record { later = refl; over = refl; finished = refl; at_work = refl }, (record { later = refl; over = refl; finished = refl; at_work = refl }, (record { later = refl; over = refl; finished = refl; at_work = refl }, (record { later = refl; over = refl; finished = refl; at_work = refl }, (record { later = refl; over = refl; finished = refl; at_work = refl }, (record { later = refl; over = refl; finished = refl; at_work = refl }, (record { later = refl; over = refl; finished = refl; at_work = refl }, (record { later = refl; over = refl; finished = refl; at_work = refl }, (record { later = refl; over = refl; finished = refl; at_work = refl }, (record { later = refl; over = refl; finished = refl; at_work = refl }, tt))))))))))))))))))))))))))))))))))))))))

abbrev users_run_after_1 : Replay
users_run_after_1 = after_moments (start_of users_run) (take 40 (moments_of users_run))

abbrev users_run_from_1 : List Moment
users_run_from_1 = drop 40 (moments_of users_run)

users_run_part_1 : Follows users_run_after_1 (take 40 users_run_from_1)
unfolding repair.burst_byte
users_run_part_1 = (record { later = refl; over = refl; finished = refl; at_work = refl }, (record { later = refl; over = refl; finished = refl; at_work = refl }, (record { later = refl; over = refl; finished = refl; at_work = refl }, (record { later = refl; over = refl; finished = refl; at_work = refl }, (record { later = refl; over = refl; finished = refl; at_work = refl }, (record { later = refl; over = refl; finished = refl; at_work = refl }, (record { number = refl; wished = refl; service = refl; talk = refl; drive = refl; adapter = tt; verdict = tt; at_work = tt }, (record { number = refl; wished = refl; service = refl; talk = refl; drive = refl; adapter = tt; verdict = tt; at_work = refl }, (record { number = refl; wished = refl; service = refl; talk = refl; drive = refl; adapter = tt; verdict = tt; at_work = refl }, (record { number = refl; wished = refl; service = refl; talk = refl; drive = refl; adapter = refl; verdict = tt; at_work = refl }, (record { number = refl; wished = refl; service = refl; talk = refl; drive = refl; adapter = refl; verdict = tt; at_work = tt }, (record { number = refl; wished = refl; service = refl; talk = refl; drive = refl; adapter = refl; verdict = tt; at_work = tt }, (record { number = refl; wished = refl; service = refl; talk = refl; drive = refl; adapter = refl; verdict = tt; at_work = tt }, (record { number = refl; wished = refl; service = refl; talk = refl; drive = refl; adapter = (refl, refl); verdict = refl; at_work = refl }, (record { number = refl; wished = refl; service = refl; talk = refl; drive = refl; adapter = (refl, refl); verdict = refl; at_work = refl }, (record { number = refl; wished = refl; service = refl; talk = refl; drive = refl; adapter = (refl, refl); verdict = refl; at_work = refl }, (record { number = refl; wished = refl; service = refl; talk = refl; drive = refl; adapter = (refl, refl); verdict = refl; at_work = refl }, (record { number = refl; wished = refl; service = refl; talk = refl; drive = refl; adapter = (refl, refl); verdict = refl; at_work = refl }, (record { number = refl; wished = refl; service = refl; talk = refl; drive = refl; adapter = (refl, refl); verdict = refl; at_work = refl }, (record { number = refl; wished = refl; service = refl; talk = refl; drive = refl; adapter = (refl, refl); verdict = refl; at_work = refl }, (record { number = refl; wished = refl; service = refl; talk = refl; drive = refl; adapter = (refl, refl); verdict = refl; at_work = refl }, (record { number = refl; wished = refl; service = refl; talk = refl; drive = tt; adapter = refl; verdict = tt; at_work = refl }, (record { number = refl; wished = refl; service = refl; talk = refl; drive = tt; adapter = tt; verdict = tt; at_work = tt }, (record { number = refl; wished = refl; service = refl; talk = refl; drive = refl; adapter = tt; verdict = tt; at_work = tt }, (record { number = refl; wished = refl; service = refl; talk = refl; drive = refl; adapter = refl; verdict = tt; at_work = tt }, (record { number = refl; wished = refl; service = refl; talk = refl; drive = refl; adapter = tt; verdict = tt; at_work = refl }, (record { number = refl; wished = refl; service = refl; talk = refl; drive = refl; adapter = (refl, refl); verdict = refl; at_work = refl }, (record { number = refl; wished = refl; service = refl; talk = refl; drive = refl; adapter = (refl, refl); verdict = refl; at_work = refl }, (record { number = refl; wished = refl; service = refl; talk = refl; drive = refl; adapter = (refl, refl); verdict = refl; at_work = refl }, (record { number = refl; wished = refl; service = refl; talk = refl; drive = refl; adapter = (refl, refl); verdict = refl; at_work = refl }, (record { number = refl; wished = refl; service = refl; talk = refl; drive = refl; adapter = (refl, refl); verdict = refl; at_work = refl }, (record { number = refl; wished = refl; service = refl; talk = refl; drive = refl; adapter = (refl, refl); verdict = refl; at_work = refl }, (record { number = refl; wished = refl; service = refl; talk = refl; drive = refl; adapter = (refl, refl); verdict = refl; at_work = refl }, (record { number = refl; wished = refl; service = refl; talk = refl; drive = refl; adapter = (refl, refl); verdict = refl; at_work = refl }, (record { number = refl; wished = refl; service = refl; talk = refl; drive = tt; adapter = refl; verdict = tt; at_work = refl }, (record { number = refl; wished = refl; service = refl; talk = refl; drive = tt; adapter = tt; verdict = tt; at_work = tt }, (record { number = refl; wished = refl; service = refl; talk = refl; drive = refl; adapter = tt; verdict = tt; at_work = tt }, (record { number = refl; wished = refl; service = refl; talk = refl; drive = refl; adapter = refl; verdict = tt; at_work = tt }, (record { number = refl; wished = refl; service = refl; talk = refl; drive = refl; adapter = refl; verdict = tt; at_work = tt }, (record { number = refl; wished = refl; service = refl; talk = refl; drive = refl; adapter = tt; verdict = tt; at_work = refl }, tt))))))))))))))))))))))))))))))))))))))))

abbrev users_run_after_2 : Replay
users_run_after_2 = after_moments users_run_after_1 (take 40 users_run_from_1)

abbrev users_run_from_2 : List Moment
users_run_from_2 = drop 40 users_run_from_1

users_run_part_2 : Follows users_run_after_2 (take 40 users_run_from_2)
unfolding repair.burst_byte
users_run_part_2 = (record { number = refl; wished = refl; service = refl; talk = refl; drive = refl; adapter = (refl, refl); verdict = refl; at_work = refl }, (record { number = refl; wished = refl; service = refl; talk = refl; drive = refl; adapter = (refl, refl); verdict = refl; at_work = refl }, (record { number = refl; wished = refl; service = refl; talk = refl; drive = refl; adapter = (refl, refl); verdict = refl; at_work = refl }, (record { number = refl; wished = refl; service = refl; talk = refl; drive = refl; adapter = (refl, refl); verdict = refl; at_work = refl }, (record { number = refl; wished = refl; service = refl; talk = refl; drive = refl; adapter = (refl, refl); verdict = refl; at_work = refl }, (record { number = refl; wished = refl; service = refl; talk = refl; drive = refl; adapter = (refl, refl); verdict = refl; at_work = refl }, (record { number = refl; wished = refl; service = refl; talk = refl; drive = refl; adapter = (refl, refl); verdict = refl; at_work = refl }, (record { number = refl; wished = refl; service = refl; talk = refl; drive = refl; adapter = (refl, refl); verdict = refl; at_work = refl }, (record { number = refl; wished = refl; service = refl; talk = refl; drive = tt; adapter = refl; verdict = tt; at_work = refl }, (record { number = refl; wished = refl; service = refl; talk = refl; drive = tt; adapter = tt; verdict = tt; at_work = tt }, (record { number = refl; wished = refl; service = refl; talk = refl; drive = refl; adapter = tt; verdict = tt; at_work = tt }, (record { number = refl; wished = refl; service = refl; talk = refl; drive = refl; adapter = refl; verdict = tt; at_work = tt }, (record { number = refl; wished = refl; service = refl; talk = refl; drive = refl; adapter = refl; verdict = tt; at_work = tt }, (record { number = refl; wished = refl; service = refl; talk = refl; drive = refl; adapter = tt; verdict = tt; at_work = refl }, (record { number = refl; wished = refl; service = refl; talk = refl; drive = refl; adapter = (refl, refl); verdict = refl; at_work = refl }, (record { number = refl; wished = refl; service = refl; talk = refl; drive = refl; adapter = (refl, refl); verdict = refl; at_work = refl }, (record { number = refl; wished = refl; service = refl; talk = refl; drive = refl; adapter = (refl, refl); verdict = refl; at_work = refl }, (record { number = refl; wished = refl; service = refl; talk = refl; drive = refl; adapter = (refl, refl); verdict = refl; at_work = refl }, (record { number = refl; wished = refl; service = refl; talk = refl; drive = refl; adapter = (refl, refl); verdict = refl; at_work = refl }, (record { number = refl; wished = refl; service = refl; talk = refl; drive = tt; adapter = refl; verdict = tt; at_work = refl }, (record { number = refl; wished = refl; service = refl; talk = refl; drive = refl; adapter = tt; verdict = tt; at_work = tt }, (record { number = refl; wished = refl; service = refl; talk = refl; drive = refl; adapter = refl; verdict = tt; at_work = tt }, (record { number = refl; wished = refl; service = refl; talk = refl; drive = refl; adapter = refl; verdict = tt; at_work = tt }, (record { number = refl; wished = refl; service = refl; talk = refl; drive = refl; adapter = (refl, refl); verdict = refl; at_work = refl }, (record { number = refl; wished = refl; service = refl; talk = refl; drive = tt; adapter = refl; verdict = tt; at_work = refl }, (record { number = refl; wished = refl; service = refl; talk = refl; drive = refl; adapter = refl; verdict = tt; at_work = tt }, (record { number = refl; wished = refl; service = refl; talk = refl; drive = refl; adapter = (refl, refl); verdict = refl; at_work = refl }, (record { number = refl; wished = refl; service = refl; talk = refl; drive = refl; adapter = (refl, refl); verdict = refl; at_work = refl }, (record { number = refl; wished = refl; service = refl; talk = refl; drive = refl; adapter = (refl, refl); verdict = refl; at_work = refl }, (record { number = refl; wished = refl; service = refl; talk = refl; drive = tt; adapter = refl; verdict = tt; at_work = refl }, (record { number = refl; wished = refl; service = refl; talk = refl; drive = tt; adapter = tt; verdict = tt; at_work = tt }, (record { number = refl; wished = refl; service = refl; talk = refl; drive = refl; adapter = tt; verdict = tt; at_work = tt }, (record { number = refl; wished = refl; service = refl; talk = refl; drive = refl; adapter = refl; verdict = tt; at_work = tt }, (record { number = refl; wished = refl; service = refl; talk = refl; drive = refl; adapter = tt; verdict = tt; at_work = refl }, (record { number = refl; wished = refl; service = refl; talk = refl; drive = refl; adapter = (refl, refl); verdict = refl; at_work = refl }, (record { number = refl; wished = refl; service = refl; talk = refl; drive = refl; adapter = (refl, refl); verdict = refl; at_work = refl }, (record { number = refl; wished = refl; service = refl; talk = refl; drive = refl; adapter = (refl, refl); verdict = refl; at_work = refl }, (record { number = refl; wished = refl; service = refl; talk = refl; drive = refl; adapter = (refl, refl); verdict = refl; at_work = refl }, (record { number = refl; wished = refl; service = refl; talk = refl; drive = refl; adapter = (refl, refl); verdict = refl; at_work = refl }, (record { number = refl; wished = refl; service = refl; talk = refl; drive = refl; adapter = (refl, refl); verdict = refl; at_work = refl }, tt))))))))))))))))))))))))))))))))))))))))

abbrev users_run_after_3 : Replay
users_run_after_3 = after_moments users_run_after_2 (take 40 users_run_from_2)

abbrev users_run_from_3 : List Moment
users_run_from_3 = drop 40 users_run_from_2

users_run_part_3 : Follows users_run_after_3 (take 40 users_run_from_3)
unfolding repair.burst_byte
users_run_part_3 = (record { number = refl; wished = refl; service = refl; talk = refl; drive = refl; adapter = (refl, refl); verdict = refl; at_work = refl }, (record { number = refl; wished = refl; service = refl; talk = refl; drive = refl; adapter = (refl, refl); verdict = refl; at_work = refl }, (record { number = refl; wished = refl; service = refl; talk = refl; drive = tt; adapter = refl; verdict = tt; at_work = refl }, (record { number = refl; wished = refl; service = refl; talk = refl; drive = tt; adapter = tt; verdict = tt; at_work = tt }, (record { number = refl; wished = refl; service = refl; talk = refl; drive = refl; adapter = tt; verdict = tt; at_work = tt }, (record { number = refl; wished = refl; service = refl; talk = refl; drive = refl; adapter = refl; verdict = tt; at_work = tt }, (record { number = refl; wished = refl; service = refl; talk = refl; drive = refl; adapter = refl; verdict = tt; at_work = tt }, (record { number = refl; wished = refl; service = refl; talk = refl; drive = refl; adapter = tt; verdict = tt; at_work = refl }, (record { number = refl; wished = refl; service = refl; talk = refl; drive = refl; adapter = (refl, refl); verdict = refl; at_work = refl }, (record { number = refl; wished = refl; service = refl; talk = refl; drive = refl; adapter = (refl, refl); verdict = burst_9_1025; at_work = refl }, (record { number = refl; wished = refl; service = refl; talk = refl; drive = tt; adapter = refl; verdict = tt; at_work = refl }, (record { number = refl; wished = refl; service = refl; talk = refl; drive = refl; adapter = tt; verdict = tt; at_work = tt }, (record { number = refl; wished = refl; service = refl; talk = refl; drive = refl; adapter = refl; verdict = tt; at_work = tt }, (record { number = refl; wished = refl; service = refl; talk = refl; drive = refl; adapter = refl; verdict = tt; at_work = tt }, (record { number = refl; wished = refl; service = refl; talk = refl; drive = refl; adapter = (refl, refl); verdict = refl; at_work = refl }, (record { number = refl; wished = refl; service = refl; talk = refl; drive = refl; adapter = (refl, refl); verdict = refl; at_work = refl }, (record { number = refl; wished = refl; service = refl; talk = refl; drive = refl; adapter = (refl, refl); verdict = refl; at_work = refl }, (record { number = refl; wished = refl; service = refl; talk = refl; drive = refl; adapter = (refl, refl); verdict = refl; at_work = refl }, (record { number = refl; wished = refl; service = refl; talk = refl; drive = refl; adapter = (refl, refl); verdict = refl; at_work = refl }, (record { number = refl; wished = refl; service = refl; talk = refl; drive = refl; adapter = (refl, refl); verdict = refl; at_work = refl }, (record { number = refl; wished = refl; service = refl; talk = refl; drive = tt; adapter = refl; verdict = tt; at_work = refl }, (record { number = refl; wished = refl; service = refl; talk = refl; drive = tt; adapter = tt; verdict = tt; at_work = tt }, (record { number = refl; wished = refl; service = refl; talk = refl; drive = refl; adapter = tt; verdict = tt; at_work = tt }, (record { number = refl; wished = refl; service = refl; talk = refl; drive = refl; adapter = refl; verdict = tt; at_work = tt }, (record { number = refl; wished = refl; service = refl; talk = refl; drive = refl; adapter = tt; verdict = tt; at_work = refl }, (record { number = refl; wished = refl; service = refl; talk = refl; drive = refl; adapter = (refl, refl); verdict = refl; at_work = refl }, (record { number = refl; wished = refl; service = refl; talk = refl; drive = refl; adapter = (refl, refl); verdict = refl; at_work = refl }, (record { number = refl; wished = refl; service = refl; talk = refl; drive = refl; adapter = (refl, refl); verdict = refl; at_work = refl }, (record { number = refl; wished = refl; service = refl; talk = refl; drive = refl; adapter = (refl, refl); verdict = refl; at_work = refl }, (record { number = refl; wished = refl; service = refl; talk = refl; drive = refl; adapter = (refl, refl); verdict = refl; at_work = refl }, (record { number = refl; wished = refl; service = refl; talk = refl; drive = refl; adapter = (refl, refl); verdict = refl; at_work = refl }, (record { number = refl; wished = refl; service = refl; talk = refl; drive = refl; adapter = (refl, refl); verdict = refl; at_work = refl }, (record { number = refl; wished = refl; service = refl; talk = refl; drive = refl; adapter = (refl, refl); verdict = refl; at_work = refl }, (record { number = refl; wished = refl; service = refl; talk = refl; drive = tt; adapter = refl; verdict = tt; at_work = refl }, (record { number = refl; wished = refl; service = refl; talk = refl; drive = tt; adapter = tt; verdict = tt; at_work = tt }, (record { number = refl; wished = refl; service = refl; talk = refl; drive = refl; adapter = tt; verdict = tt; at_work = tt }, (record { number = refl; wished = refl; service = refl; talk = refl; drive = refl; adapter = refl; verdict = tt; at_work = tt }, (record { number = refl; wished = refl; service = refl; talk = refl; drive = refl; adapter = refl; verdict = tt; at_work = tt }, (record { number = refl; wished = refl; service = refl; talk = refl; drive = refl; adapter = tt; verdict = tt; at_work = refl }, (record { number = refl; wished = refl; service = refl; talk = refl; drive = refl; adapter = (refl, refl); verdict = refl; at_work = refl }, tt))))))))))))))))))))))))))))))))))))))))

abbrev users_run_after_4 : Replay
users_run_after_4 = after_moments users_run_after_3 (take 40 users_run_from_3)

abbrev users_run_from_4 : List Moment
users_run_from_4 = drop 40 users_run_from_3

users_run_part_4 : Follows users_run_after_4 (take 40 users_run_from_4)
unfolding repair.burst_byte
users_run_part_4 = (record { number = refl; wished = refl; service = refl; talk = refl; drive = refl; adapter = (refl, refl); verdict = refl; at_work = refl }, (record { number = refl; wished = refl; service = refl; talk = refl; drive = refl; adapter = (refl, refl); verdict = refl; at_work = refl }, (record { number = refl; wished = refl; service = refl; talk = refl; drive = refl; adapter = (refl, refl); verdict = refl; at_work = refl }, (record { number = refl; wished = refl; service = refl; talk = refl; drive = refl; adapter = (refl, refl); verdict = refl; at_work = refl }, (record { number = refl; wished = refl; service = refl; talk = refl; drive = refl; adapter = (refl, refl); verdict = refl; at_work = refl }, (record { number = refl; wished = refl; service = refl; talk = refl; drive = refl; adapter = (refl, refl); verdict = refl; at_work = refl }, (record { number = refl; wished = refl; service = refl; talk = refl; drive = refl; adapter = (refl, refl); verdict = refl; at_work = refl }, (record { number = refl; wished = refl; service = refl; talk = refl; drive = tt; adapter = refl; verdict = tt; at_work = refl }, (record { number = refl; wished = refl; service = refl; talk = refl; drive = tt; adapter = tt; verdict = tt; at_work = tt }, (record { number = refl; wished = refl; service = refl; talk = refl; drive = refl; adapter = tt; verdict = tt; at_work = tt }, (record { number = refl; wished = refl; service = refl; talk = refl; drive = refl; adapter = refl; verdict = tt; at_work = tt }, (record { number = refl; wished = refl; service = refl; talk = refl; drive = refl; adapter = refl; verdict = tt; at_work = tt }, (record { number = refl; wished = refl; service = refl; talk = refl; drive = refl; adapter = tt; verdict = tt; at_work = refl }, (record { number = refl; wished = refl; service = refl; talk = refl; drive = refl; adapter = (refl, refl); verdict = refl; at_work = refl }, (record { number = refl; wished = refl; service = refl; talk = refl; drive = refl; adapter = (refl, refl); verdict = refl; at_work = refl }, (record { number = refl; wished = refl; service = refl; talk = refl; drive = refl; adapter = (refl, refl); verdict = refl; at_work = refl }, (record { number = refl; wished = refl; service = refl; talk = refl; drive = refl; adapter = (refl, refl); verdict = refl; at_work = refl }, (record { number = refl; wished = refl; service = refl; talk = refl; drive = refl; adapter = (refl, refl); verdict = refl; at_work = refl }, (record { number = refl; wished = refl; service = refl; talk = refl; drive = refl; adapter = (refl, refl); verdict = refl; at_work = refl }, (record { number = refl; wished = refl; service = refl; talk = refl; drive = refl; adapter = (refl, refl); verdict = refl; at_work = refl }, (record { number = refl; wished = refl; service = refl; talk = refl; drive = refl; adapter = (refl, refl); verdict = refl; at_work = refl }, (record { number = refl; wished = refl; service = refl; talk = refl; drive = tt; adapter = refl; verdict = tt; at_work = refl }, (record { number = refl; wished = refl; service = refl; talk = refl; drive = tt; adapter = tt; verdict = tt; at_work = tt }, (record { number = refl; wished = refl; service = refl; talk = refl; drive = refl; adapter = tt; verdict = tt; at_work = tt }, (record { number = refl; wished = refl; service = refl; talk = refl; drive = refl; adapter = refl; verdict = tt; at_work = tt }, (record { number = refl; wished = refl; service = refl; talk = refl; drive = refl; adapter = refl; verdict = tt; at_work = tt }, (record { number = refl; wished = refl; service = refl; talk = refl; drive = refl; adapter = tt; verdict = tt; at_work = refl }, (record { number = refl; wished = refl; service = refl; talk = refl; drive = refl; adapter = (refl, refl); verdict = refl; at_work = refl }, (record { number = refl; wished = refl; service = refl; talk = refl; drive = refl; adapter = (refl, refl); verdict = refl; at_work = refl }, (record { number = refl; wished = refl; service = refl; talk = refl; drive = refl; adapter = (refl, refl); verdict = refl; at_work = refl }, (record { number = refl; wished = refl; service = refl; talk = refl; drive = refl; adapter = (refl, refl); verdict = refl; at_work = refl }, (record { number = refl; wished = refl; service = refl; talk = refl; drive = refl; adapter = (refl, refl); verdict = refl; at_work = refl }, (record { number = refl; wished = refl; service = refl; talk = refl; drive = refl; adapter = (refl, refl); verdict = refl; at_work = refl }, (record { number = refl; wished = refl; service = refl; talk = refl; drive = refl; adapter = (refl, refl); verdict = refl; at_work = refl }, (record { number = refl; wished = refl; service = refl; talk = refl; drive = refl; adapter = (refl, refl); verdict = refl; at_work = refl }, (record { number = refl; wished = refl; service = refl; talk = refl; drive = tt; adapter = refl; verdict = tt; at_work = refl }, (record { number = refl; wished = refl; service = refl; talk = refl; drive = tt; adapter = tt; verdict = tt; at_work = tt }, (record { number = refl; wished = refl; service = refl; talk = refl; drive = refl; adapter = tt; verdict = tt; at_work = tt }, (record { number = refl; wished = refl; service = refl; talk = refl; drive = refl; adapter = refl; verdict = tt; at_work = tt }, (record { number = refl; wished = refl; service = refl; talk = refl; drive = refl; adapter = refl; verdict = tt; at_work = tt }, tt))))))))))))))))))))))))))))))))))))))))

abbrev users_run_after_5 : Replay
users_run_after_5 = after_moments users_run_after_4 (take 40 users_run_from_4)

abbrev users_run_from_5 : List Moment
users_run_from_5 = drop 40 users_run_from_4

users_run_part_5 : Follows users_run_after_5 (take 40 users_run_from_5)
unfolding repair.burst_byte
users_run_part_5 = (record { number = refl; wished = refl; service = refl; talk = refl; drive = refl; adapter = tt; verdict = tt; at_work = refl }, (record { number = refl; wished = refl; service = refl; talk = refl; drive = refl; adapter = (refl, refl); verdict = refl; at_work = refl }, (record { number = refl; wished = refl; service = refl; talk = refl; drive = refl; adapter = (refl, refl); verdict = refl; at_work = refl }, (record { number = refl; wished = refl; service = refl; talk = refl; drive = refl; adapter = (refl, refl); verdict = refl; at_work = refl }, (record { number = refl; wished = refl; service = refl; talk = refl; drive = refl; adapter = (refl, refl); verdict = refl; at_work = refl }, (record { number = refl; wished = refl; service = refl; talk = refl; drive = refl; adapter = (refl, refl); verdict = refl; at_work = refl }, (record { number = refl; wished = refl; service = refl; talk = refl; drive = refl; adapter = (refl, refl); verdict = refl; at_work = refl }, (record { number = refl; wished = refl; service = refl; talk = refl; drive = refl; adapter = (refl, refl); verdict = refl; at_work = refl }, (record { number = refl; wished = refl; service = refl; talk = refl; drive = refl; adapter = (refl, refl); verdict = refl; at_work = refl }, (record { number = refl; wished = refl; service = refl; talk = refl; drive = tt; adapter = refl; verdict = tt; at_work = refl }, (record { number = refl; wished = refl; service = refl; talk = refl; drive = tt; adapter = tt; verdict = tt; at_work = tt }, (record { number = refl; wished = refl; service = refl; talk = refl; drive = refl; adapter = tt; verdict = tt; at_work = tt }, (record { number = refl; wished = refl; service = refl; talk = refl; drive = refl; adapter = refl; verdict = tt; at_work = tt }, (record { number = refl; wished = refl; service = refl; talk = refl; drive = refl; adapter = refl; verdict = tt; at_work = tt }, (record { number = refl; wished = refl; service = refl; talk = refl; drive = refl; adapter = tt; verdict = tt; at_work = refl }, (record { number = refl; wished = refl; service = refl; talk = refl; drive = refl; adapter = (refl, refl); verdict = refl; at_work = refl }, (record { number = refl; wished = refl; service = refl; talk = refl; drive = refl; adapter = (refl, refl); verdict = refl; at_work = refl }, (record { number = refl; wished = refl; service = refl; talk = refl; drive = refl; adapter = (refl, refl); verdict = refl; at_work = refl }, (record { number = refl; wished = refl; service = refl; talk = refl; drive = refl; adapter = (refl, refl); verdict = refl; at_work = refl }, (record { number = refl; wished = refl; service = refl; talk = refl; drive = refl; adapter = (refl, refl); verdict = refl; at_work = refl }, (record { number = refl; wished = refl; service = refl; talk = refl; drive = refl; adapter = (refl, refl); verdict = refl; at_work = refl }, (record { number = refl; wished = refl; service = refl; talk = refl; drive = refl; adapter = (refl, refl); verdict = refl; at_work = refl }, (record { number = refl; wished = refl; service = refl; talk = refl; drive = refl; adapter = (refl, refl); verdict = refl; at_work = refl }, (record { number = refl; wished = refl; service = refl; talk = refl; drive = tt; adapter = refl; verdict = tt; at_work = refl }, (record { number = refl; wished = refl; service = refl; talk = refl; drive = tt; adapter = tt; verdict = tt; at_work = tt }, (record { number = refl; wished = refl; service = refl; talk = refl; drive = refl; adapter = tt; verdict = tt; at_work = tt }, (record { number = refl; wished = refl; service = refl; talk = refl; drive = refl; adapter = refl; verdict = tt; at_work = tt }, (record { number = refl; wished = refl; service = refl; talk = refl; drive = refl; adapter = refl; verdict = tt; at_work = tt }, (record { number = refl; wished = refl; service = refl; talk = refl; drive = refl; adapter = tt; verdict = tt; at_work = refl }, (record { number = refl; wished = refl; service = refl; talk = refl; drive = refl; adapter = (refl, refl); verdict = refl; at_work = refl }, (record { number = refl; wished = refl; service = refl; talk = refl; drive = refl; adapter = (refl, refl); verdict = burst_101_33; at_work = refl }, (record { number = refl; wished = refl; service = refl; talk = refl; drive = tt; adapter = refl; verdict = tt; at_work = refl }, (record { number = refl; wished = refl; service = refl; talk = refl; drive = refl; adapter = tt; verdict = tt; at_work = tt }, (record { number = refl; wished = refl; service = refl; talk = refl; drive = refl; adapter = refl; verdict = tt; at_work = tt }, (record { number = refl; wished = refl; service = refl; talk = refl; drive = refl; adapter = refl; verdict = tt; at_work = tt }, (record { number = refl; wished = refl; service = refl; talk = refl; drive = refl; adapter = (refl, refl); verdict = refl; at_work = refl }, (record { number = refl; wished = refl; service = refl; talk = refl; drive = refl; adapter = (refl, refl); verdict = refl; at_work = refl }, (record { number = refl; wished = refl; service = refl; talk = refl; drive = refl; adapter = (refl, refl); verdict = refl; at_work = refl }, (record { number = refl; wished = refl; service = refl; talk = refl; drive = refl; adapter = (refl, refl); verdict = refl; at_work = refl }, (record { number = refl; wished = refl; service = refl; talk = refl; drive = refl; adapter = (refl, refl); verdict = refl; at_work = refl }, tt))))))))))))))))))))))))))))))))))))))))

abbrev users_run_after_6 : Replay
users_run_after_6 = after_moments users_run_after_5 (take 40 users_run_from_5)

abbrev users_run_from_6 : List Moment
users_run_from_6 = drop 40 users_run_from_5

users_run_part_6 : Follows users_run_after_6 (take 40 users_run_from_6)
unfolding repair.burst_byte
users_run_part_6 = (record { number = refl; wished = refl; service = refl; talk = refl; drive = refl; adapter = (refl, refl); verdict = refl; at_work = refl }, (record { number = refl; wished = refl; service = refl; talk = refl; drive = tt; adapter = refl; verdict = tt; at_work = refl }, (record { number = refl; wished = refl; service = refl; talk = refl; drive = tt; adapter = tt; verdict = tt; at_work = tt }, (record { number = refl; wished = refl; service = refl; talk = refl; drive = refl; adapter = tt; verdict = tt; at_work = tt }, (record { number = refl; wished = refl; service = refl; talk = refl; drive = refl; adapter = refl; verdict = tt; at_work = tt }, (record { number = refl; wished = refl; service = refl; talk = refl; drive = refl; adapter = tt; verdict = tt; at_work = refl }, (record { number = refl; wished = refl; service = refl; talk = refl; drive = refl; adapter = (refl, refl); verdict = refl; at_work = refl }, (record { number = refl; wished = refl; service = refl; talk = refl; drive = refl; adapter = (refl, refl); verdict = refl; at_work = refl }, (record { number = refl; wished = refl; service = refl; talk = refl; drive = refl; adapter = (refl, refl); verdict = refl; at_work = refl }, (record { number = refl; wished = refl; service = refl; talk = refl; drive = refl; adapter = (refl, refl); verdict = refl; at_work = refl }, (record { number = refl; wished = refl; service = refl; talk = refl; drive = refl; adapter = (refl, refl); verdict = refl; at_work = refl }, (record { number = refl; wished = refl; service = refl; talk = refl; drive = refl; adapter = (refl, refl); verdict = refl; at_work = refl }, (record { number = refl; wished = refl; service = refl; talk = refl; drive = refl; adapter = (refl, refl); verdict = refl; at_work = refl }, (record { number = refl; wished = refl; service = refl; talk = refl; drive = refl; adapter = (refl, refl); verdict = refl; at_work = refl }, (record { number = refl; wished = refl; service = refl; talk = refl; drive = tt; adapter = refl; verdict = tt; at_work = refl }, (record { number = refl; wished = refl; service = refl; talk = refl; drive = tt; adapter = tt; verdict = tt; at_work = tt }, (record { number = refl; wished = refl; service = refl; talk = refl; drive = refl; adapter = tt; verdict = tt; at_work = tt }, (record { number = refl; wished = refl; service = refl; talk = refl; drive = refl; adapter = refl; verdict = tt; at_work = tt }, (record { number = refl; wished = refl; service = refl; talk = refl; drive = refl; adapter = refl; verdict = tt; at_work = tt }, (record { number = refl; wished = refl; service = refl; talk = refl; drive = refl; adapter = tt; verdict = tt; at_work = refl }, (record { number = refl; wished = refl; service = refl; talk = refl; drive = refl; adapter = (refl, refl); verdict = refl; at_work = refl }, (record { number = refl; wished = refl; service = refl; talk = refl; drive = refl; adapter = (refl, refl); verdict = refl; at_work = refl }, (record { number = refl; wished = refl; service = refl; talk = refl; drive = refl; adapter = (refl, refl); verdict = refl; at_work = refl }, (record { number = refl; wished = refl; service = refl; talk = refl; drive = refl; adapter = (refl, refl); verdict = refl; at_work = refl }, (record { number = refl; wished = refl; service = refl; talk = refl; drive = refl; adapter = (refl, refl); verdict = refl; at_work = refl }, (record { number = refl; wished = refl; service = refl; talk = refl; drive = refl; adapter = (refl, refl); verdict = refl; at_work = refl }, (record { number = refl; wished = refl; service = refl; talk = refl; drive = refl; adapter = (refl, refl); verdict = refl; at_work = refl }, (record { number = refl; wished = refl; service = refl; talk = refl; drive = refl; adapter = (refl, refl); verdict = refl; at_work = refl }, (record { number = refl; wished = refl; service = refl; talk = refl; drive = tt; adapter = refl; verdict = tt; at_work = refl }, (record { number = refl; wished = refl; service = refl; talk = refl; drive = tt; adapter = tt; verdict = tt; at_work = tt }, (record { number = refl; wished = refl; service = refl; talk = refl; drive = refl; adapter = tt; verdict = tt; at_work = tt }, (record { number = refl; wished = refl; service = refl; talk = refl; drive = refl; adapter = refl; verdict = tt; at_work = tt }, (record { number = refl; wished = refl; service = refl; talk = refl; drive = refl; adapter = refl; verdict = tt; at_work = tt }, (record { number = refl; wished = refl; service = refl; talk = refl; drive = refl; adapter = tt; verdict = tt; at_work = refl }, (record { number = refl; wished = refl; service = refl; talk = refl; drive = refl; adapter = (refl, refl); verdict = refl; at_work = refl }, (record { number = refl; wished = refl; service = refl; talk = refl; drive = refl; adapter = (refl, refl); verdict = refl; at_work = refl }, (record { number = refl; wished = refl; service = refl; talk = refl; drive = refl; adapter = (refl, refl); verdict = refl; at_work = refl }, (record { number = refl; wished = refl; service = refl; talk = refl; drive = refl; adapter = (refl, refl); verdict = refl; at_work = refl }, (record { number = refl; wished = refl; service = refl; talk = refl; drive = refl; adapter = (refl, refl); verdict = refl; at_work = refl }, (record { number = refl; wished = refl; service = refl; talk = refl; drive = tt; adapter = refl; verdict = tt; at_work = refl }, tt))))))))))))))))))))))))))))))))))))))))

abbrev users_run_after_7 : Replay
users_run_after_7 = after_moments users_run_after_6 (take 40 users_run_from_6)

abbrev users_run_from_7 : List Moment
users_run_from_7 = drop 40 users_run_from_6

users_run_part_7 : Follows users_run_after_7 (take 40 users_run_from_7)
unfolding repair.burst_byte
users_run_part_7 = (record { number = refl; wished = refl; service = refl; talk = refl; drive = refl; adapter = tt; verdict = tt; at_work = tt }, (record { number = refl; wished = refl; service = refl; talk = refl; drive = refl; adapter = refl; verdict = tt; at_work = tt }, (record { number = refl; wished = refl; service = refl; talk = refl; drive = refl; adapter = refl; verdict = tt; at_work = tt }, (record { number = refl; wished = refl; service = refl; talk = refl; drive = refl; adapter = (refl, refl); verdict = refl; at_work = refl }, (record { number = refl; wished = refl; service = refl; talk = refl; drive = tt; adapter = refl; verdict = tt; at_work = refl }, (record { number = refl; wished = refl; service = refl; talk = refl; drive = refl; adapter = refl; verdict = tt; at_work = tt }, (record { number = refl; wished = refl; service = refl; talk = refl; drive = refl; adapter = (refl, refl); verdict = refl; at_work = refl }, (record { number = refl; wished = refl; service = refl; talk = refl; drive = refl; adapter = (refl, refl); verdict = refl; at_work = refl }, (record { number = refl; wished = refl; service = refl; talk = refl; drive = refl; adapter = (refl, refl); verdict = refl; at_work = refl }, (record { number = refl; wished = refl; service = refl; talk = refl; drive = tt; adapter = refl; verdict = tt; at_work = refl }, (record { number = refl; wished = refl; service = refl; talk = refl; drive = tt; adapter = tt; verdict = tt; at_work = tt }, (record { number = refl; wished = refl; service = refl; talk = refl; drive = refl; adapter = tt; verdict = tt; at_work = tt }, (record { number = refl; wished = refl; service = refl; talk = refl; drive = refl; adapter = refl; verdict = tt; at_work = tt }, (record { number = refl; wished = refl; service = refl; talk = refl; drive = refl; adapter = tt; verdict = tt; at_work = refl }, (record { number = refl; wished = refl; service = refl; talk = refl; drive = refl; adapter = (refl, refl); verdict = refl; at_work = refl }, (record { number = refl; wished = refl; service = refl; talk = refl; drive = refl; adapter = (refl, refl); verdict = refl; at_work = refl }, (record { number = refl; wished = refl; service = refl; talk = refl; drive = refl; adapter = (refl, refl); verdict = refl; at_work = refl }, (record { number = refl; wished = refl; service = refl; talk = refl; drive = refl; adapter = (refl, refl); verdict = refl; at_work = refl }, (record { number = refl; wished = refl; service = refl; talk = refl; drive = refl; adapter = (refl, refl); verdict = refl; at_work = refl }, (record { number = refl; wished = refl; service = refl; talk = refl; drive = refl; adapter = (refl, refl); verdict = refl; at_work = refl }, (record { number = refl; wished = refl; service = refl; talk = refl; drive = refl; adapter = (refl, refl); verdict = refl; at_work = refl }, (record { number = refl; wished = refl; service = refl; talk = refl; drive = refl; adapter = (refl, refl); verdict = refl; at_work = refl }, (record { number = refl; wished = refl; service = refl; talk = refl; drive = tt; adapter = refl; verdict = tt; at_work = refl }, (record { number = refl; wished = refl; service = refl; talk = refl; drive = tt; adapter = tt; verdict = tt; at_work = tt }, (record { number = refl; wished = refl; service = refl; talk = refl; drive = refl; adapter = tt; verdict = tt; at_work = tt }, (record { number = refl; wished = refl; service = refl; talk = refl; drive = refl; adapter = refl; verdict = tt; at_work = tt }, (record { number = refl; wished = refl; service = refl; talk = refl; drive = refl; adapter = refl; verdict = tt; at_work = tt }, (record { number = refl; wished = refl; service = refl; talk = refl; drive = refl; adapter = tt; verdict = tt; at_work = refl }, (record { number = refl; wished = refl; service = refl; talk = refl; drive = refl; adapter = (refl, refl); verdict = refl; at_work = refl }, (record { number = refl; wished = refl; service = refl; talk = refl; drive = refl; adapter = (refl, refl); verdict = refl; at_work = refl }, (record { number = refl; wished = refl; service = refl; talk = refl; drive = refl; adapter = (refl, refl); verdict = refl; at_work = refl }, (record { number = refl; wished = refl; service = refl; talk = refl; drive = refl; adapter = (refl, refl); verdict = refl; at_work = refl }, (record { number = refl; wished = refl; service = refl; talk = refl; drive = refl; adapter = (refl, refl); verdict = refl; at_work = refl }, (record { number = refl; wished = refl; service = refl; talk = refl; drive = refl; adapter = (refl, refl); verdict = refl; at_work = refl }, (record { number = refl; wished = refl; service = refl; talk = refl; drive = refl; adapter = (refl, refl); verdict = refl; at_work = refl }, (record { number = refl; wished = refl; service = refl; talk = refl; drive = refl; adapter = (refl, refl); verdict = refl; at_work = refl }, (record { number = refl; wished = refl; service = refl; talk = refl; drive = tt; adapter = refl; verdict = tt; at_work = refl }, (record { number = refl; wished = refl; service = refl; talk = refl; drive = tt; adapter = tt; verdict = tt; at_work = tt }, (record { number = refl; wished = refl; service = refl; talk = refl; drive = refl; adapter = tt; verdict = tt; at_work = tt }, (record { number = refl; wished = refl; service = refl; talk = refl; drive = refl; adapter = refl; verdict = tt; at_work = tt }, tt))))))))))))))))))))))))))))))))))))))))

abbrev users_run_after_8 : Replay
users_run_after_8 = after_moments users_run_after_7 (take 40 users_run_from_7)

abbrev users_run_from_8 : List Moment
users_run_from_8 = drop 40 users_run_from_7

users_run_part_8 : Follows users_run_after_8 (take 40 users_run_from_8)
unfolding repair.burst_byte
users_run_part_8 = (record { number = refl; wished = refl; service = refl; talk = refl; drive = refl; adapter = refl; verdict = tt; at_work = tt }, (record { number = refl; wished = refl; service = refl; talk = refl; drive = refl; adapter = tt; verdict = tt; at_work = refl }, (record { number = refl; wished = refl; service = refl; talk = refl; drive = refl; adapter = (refl, refl); verdict = refl; at_work = refl }, (record { number = refl; wished = refl; service = refl; talk = refl; drive = refl; adapter = (refl, refl); verdict = refl; at_work = refl }, (record { number = refl; wished = refl; service = refl; talk = refl; drive = refl; adapter = (refl, refl); verdict = refl; at_work = refl }, (record { number = refl; wished = refl; service = refl; talk = refl; drive = refl; adapter = (refl, refl); verdict = refl; at_work = refl }, (record { number = refl; wished = refl; service = refl; talk = refl; drive = refl; adapter = (refl, refl); verdict = refl; at_work = refl }, (record { number = refl; wished = refl; service = refl; talk = refl; drive = refl; adapter = (refl, refl); verdict = refl; at_work = refl }, (record { number = refl; wished = refl; service = refl; talk = refl; drive = refl; adapter = (refl, refl); verdict = refl; at_work = refl }, (record { number = refl; wished = refl; service = refl; talk = refl; drive = refl; adapter = (refl, refl); verdict = refl; at_work = refl }, (record { number = refl; wished = refl; service = refl; talk = refl; drive = tt; adapter = refl; verdict = tt; at_work = refl }, (record { number = refl; wished = refl; service = refl; talk = refl; drive = tt; adapter = tt; verdict = tt; at_work = tt }, (record { number = refl; wished = refl; service = refl; talk = refl; drive = refl; adapter = tt; verdict = tt; at_work = tt }, (record { number = refl; wished = refl; service = refl; talk = refl; drive = refl; adapter = refl; verdict = tt; at_work = tt }, (record { number = refl; wished = refl; service = refl; talk = refl; drive = refl; adapter = refl; verdict = tt; at_work = tt }, (record { number = refl; wished = refl; service = refl; talk = refl; drive = refl; adapter = tt; verdict = tt; at_work = refl }, (record { number = refl; wished = refl; service = refl; talk = refl; drive = refl; adapter = (refl, refl); verdict = refl; at_work = refl }, (record { number = refl; wished = refl; service = refl; talk = refl; drive = refl; adapter = (refl, refl); verdict = refl; at_work = refl }, (record { number = refl; wished = refl; service = refl; talk = refl; drive = refl; adapter = (refl, refl); verdict = refl; at_work = refl }, (record { number = refl; wished = refl; service = refl; talk = refl; drive = refl; adapter = (refl, refl); verdict = refl; at_work = refl }, (record { number = refl; wished = refl; service = refl; talk = refl; drive = refl; adapter = (refl, refl); verdict = refl; at_work = refl }, (record { number = refl; wished = refl; service = refl; talk = refl; drive = refl; adapter = (refl, refl); verdict = refl; at_work = refl }, (record { number = refl; wished = refl; service = refl; talk = refl; drive = refl; adapter = (refl, refl); verdict = refl; at_work = refl }, (record { number = refl; wished = refl; service = refl; talk = refl; drive = refl; adapter = (refl, refl); verdict = refl; at_work = refl }, (record { number = refl; wished = refl; service = refl; talk = refl; drive = tt; adapter = refl; verdict = tt; at_work = refl }, (record { number = refl; wished = refl; service = refl; talk = refl; drive = tt; adapter = tt; verdict = tt; at_work = tt }, (record { number = refl; wished = refl; service = refl; talk = refl; drive = refl; adapter = tt; verdict = tt; at_work = tt }, (record { number = refl; wished = refl; service = refl; talk = refl; drive = refl; adapter = refl; verdict = tt; at_work = tt }, (record { number = refl; wished = refl; service = refl; talk = refl; drive = refl; adapter = refl; verdict = tt; at_work = tt }, (record { number = refl; wished = refl; service = refl; talk = refl; drive = refl; adapter = tt; verdict = tt; at_work = refl }, (record { number = refl; wished = refl; service = refl; talk = refl; drive = refl; adapter = (refl, refl); verdict = refl; at_work = refl }, (record { number = refl; wished = refl; service = refl; talk = refl; drive = refl; adapter = (refl, refl); verdict = refl; at_work = refl }, (record { number = refl; wished = refl; service = refl; talk = refl; drive = refl; adapter = (refl, refl); verdict = refl; at_work = refl }, (record { number = refl; wished = refl; service = refl; talk = refl; drive = refl; adapter = (refl, refl); verdict = refl; at_work = refl }, (record { number = refl; wished = refl; service = refl; talk = refl; drive = refl; adapter = (refl, refl); verdict = refl; at_work = refl }, (record { number = refl; wished = refl; service = refl; talk = refl; drive = refl; adapter = (refl, refl); verdict = refl; at_work = refl }, (record { number = refl; wished = refl; service = refl; talk = refl; drive = refl; adapter = (refl, refl); verdict = refl; at_work = refl }, (record { number = refl; wished = refl; service = refl; talk = refl; drive = refl; adapter = (refl, refl); verdict = refl; at_work = refl }, (record { number = refl; wished = refl; service = refl; talk = refl; drive = tt; adapter = refl; verdict = tt; at_work = refl }, (record { number = refl; wished = refl; service = refl; talk = refl; drive = tt; adapter = tt; verdict = tt; at_work = tt }, tt))))))))))))))))))))))))))))))))))))))))

abbrev users_run_after_9 : Replay
users_run_after_9 = after_moments users_run_after_8 (take 40 users_run_from_8)

abbrev users_run_from_9 : List Moment
users_run_from_9 = drop 40 users_run_from_8

users_run_part_9 : Follows users_run_after_9 (take 40 users_run_from_9)
unfolding repair.burst_byte
users_run_part_9 = (record { number = refl; wished = refl; service = refl; talk = refl; drive = refl; adapter = tt; verdict = tt; at_work = tt }, (record { number = refl; wished = refl; service = refl; talk = refl; drive = refl; adapter = refl; verdict = tt; at_work = tt }, (record { number = refl; wished = refl; service = refl; talk = refl; drive = refl; adapter = refl; verdict = tt; at_work = tt }, (record { number = refl; wished = refl; service = refl; talk = refl; drive = refl; adapter = tt; verdict = tt; at_work = refl }, (record { number = refl; wished = refl; service = refl; talk = refl; drive = refl; adapter = (refl, refl); verdict = refl; at_work = refl }, (record { number = refl; wished = refl; service = refl; talk = refl; drive = refl; adapter = (refl, refl); verdict = refl; at_work = refl }, (record { number = refl; wished = refl; service = refl; talk = refl; drive = refl; adapter = (refl, refl); verdict = refl; at_work = refl }, (record { number = refl; wished = refl; service = refl; talk = refl; drive = refl; adapter = (refl, refl); verdict = refl; at_work = refl }, (record { number = refl; wished = refl; service = refl; talk = refl; drive = refl; adapter = (refl, refl); verdict = refl; at_work = refl }, (record { number = refl; wished = refl; service = refl; talk = refl; drive = refl; adapter = (refl, refl); verdict = refl; at_work = refl }, (record { number = refl; wished = refl; service = refl; talk = refl; drive = refl; adapter = (refl, refl); verdict = refl; at_work = refl }, (record { number = refl; wished = refl; service = refl; talk = refl; drive = refl; adapter = (refl, refl); verdict = refl; at_work = refl }, (record { number = refl; wished = refl; service = refl; talk = refl; drive = tt; adapter = refl; verdict = tt; at_work = refl }, (record { number = refl; wished = refl; service = refl; talk = refl; drive = tt; adapter = tt; verdict = tt; at_work = tt }, (record { number = refl; wished = refl; service = refl; talk = refl; drive = refl; adapter = tt; verdict = tt; at_work = tt }, (record { number = refl; wished = refl; service = refl; talk = refl; drive = refl; adapter = refl; verdict = tt; at_work = tt }, (record { number = refl; wished = refl; service = refl; talk = refl; drive = refl; adapter = refl; verdict = tt; at_work = tt }, (record { number = refl; wished = refl; service = refl; talk = refl; drive = refl; adapter = tt; verdict = tt; at_work = refl }, (record { number = refl; wished = refl; service = refl; talk = refl; drive = refl; adapter = (refl, refl); verdict = refl; at_work = refl }, (record { number = refl; wished = refl; service = refl; talk = refl; drive = refl; adapter = (refl, refl); verdict = refl; at_work = refl }, (record { number = refl; wished = refl; service = refl; talk = refl; drive = refl; adapter = (refl, refl); verdict = refl; at_work = refl }, (record { number = refl; wished = refl; service = refl; talk = refl; drive = refl; adapter = (refl, refl); verdict = refl; at_work = refl }, (record { number = refl; wished = refl; service = refl; talk = refl; drive = refl; adapter = (refl, refl); verdict = refl; at_work = refl }, (record { number = refl; wished = refl; service = refl; talk = refl; drive = refl; adapter = (refl, refl); verdict = refl; at_work = refl }, (record { number = refl; wished = refl; service = refl; talk = refl; drive = refl; adapter = (refl, refl); verdict = refl; at_work = refl }, (record { number = refl; wished = refl; service = refl; talk = refl; drive = refl; adapter = (refl, refl); verdict = refl; at_work = refl }, (record { number = refl; wished = refl; service = refl; talk = refl; drive = tt; adapter = refl; verdict = tt; at_work = refl }, (record { number = refl; wished = refl; service = refl; talk = refl; drive = tt; adapter = tt; verdict = tt; at_work = tt }, (record { number = refl; wished = refl; service = refl; talk = refl; drive = refl; adapter = tt; verdict = tt; at_work = tt }, (record { number = refl; wished = refl; service = refl; talk = refl; drive = refl; adapter = refl; verdict = tt; at_work = tt }, (record { number = refl; wished = refl; service = refl; talk = refl; drive = refl; adapter = refl; verdict = tt; at_work = tt }, (record { number = refl; wished = refl; service = refl; talk = refl; drive = refl; adapter = tt; verdict = tt; at_work = refl }, (record { number = refl; wished = refl; service = refl; talk = refl; drive = refl; adapter = (refl, refl); verdict = refl; at_work = refl }, (record { number = refl; wished = refl; service = refl; talk = refl; drive = refl; adapter = (refl, refl); verdict = refl; at_work = refl }, (record { number = refl; wished = refl; service = refl; talk = refl; drive = refl; adapter = (refl, refl); verdict = refl; at_work = refl }, (record { number = refl; wished = refl; service = refl; talk = refl; drive = refl; adapter = (refl, refl); verdict = refl; at_work = refl }, (record { number = refl; wished = refl; service = refl; talk = refl; drive = refl; adapter = (refl, refl); verdict = refl; at_work = refl }, (record { number = refl; wished = refl; service = refl; talk = refl; drive = refl; adapter = (refl, refl); verdict = refl; at_work = refl }, (record { number = refl; wished = refl; service = refl; talk = refl; drive = refl; adapter = (refl, refl); verdict = refl; at_work = refl }, (record { number = refl; wished = refl; service = refl; talk = refl; drive = refl; adapter = (refl, refl); verdict = refl; at_work = refl }, tt))))))))))))))))))))))))))))))))))))))))

abbrev users_run_after_10 : Replay
users_run_after_10 = after_moments users_run_after_9 (take 40 users_run_from_9)

abbrev users_run_from_10 : List Moment
users_run_from_10 = drop 40 users_run_from_9

users_run_part_10 : Follows users_run_after_10 (take 40 users_run_from_10)
unfolding repair.burst_byte
users_run_part_10 = (record { number = refl; wished = refl; service = refl; talk = refl; drive = tt; adapter = refl; verdict = tt; at_work = refl }, (record { number = refl; wished = refl; service = refl; talk = refl; drive = tt; adapter = tt; verdict = tt; at_work = tt }, (record { number = refl; wished = refl; service = refl; talk = refl; drive = refl; adapter = tt; verdict = tt; at_work = tt }, (record { number = refl; wished = refl; service = refl; talk = refl; drive = refl; adapter = refl; verdict = tt; at_work = tt }, (record { number = refl; wished = refl; service = refl; talk = refl; drive = refl; adapter = refl; verdict = tt; at_work = tt }, (record { number = refl; wished = refl; service = refl; talk = refl; drive = refl; adapter = tt; verdict = tt; at_work = refl }, (record { number = refl; wished = refl; service = refl; talk = refl; drive = refl; adapter = (refl, refl); verdict = refl; at_work = refl }, (record { number = refl; wished = refl; service = refl; talk = refl; drive = refl; adapter = (refl, refl); verdict = refl; at_work = refl }, (record { number = refl; wished = refl; service = refl; talk = refl; drive = refl; adapter = (refl, refl); verdict = refl; at_work = refl }, (record { number = refl; wished = refl; service = refl; talk = refl; drive = refl; adapter = (refl, refl); verdict = refl; at_work = refl }, (record { number = refl; wished = refl; service = refl; talk = refl; drive = refl; adapter = (refl, refl); verdict = refl; at_work = refl }, (record { number = refl; wished = refl; service = refl; talk = refl; drive = refl; adapter = (refl, refl); verdict = refl; at_work = refl }, (record { number = refl; wished = refl; service = refl; talk = refl; drive = refl; adapter = (refl, refl); verdict = refl; at_work = refl }, (record { number = refl; wished = refl; service = refl; talk = refl; drive = refl; adapter = (refl, refl); verdict = refl; at_work = refl }, (record { number = refl; wished = refl; service = refl; talk = refl; drive = tt; adapter = refl; verdict = tt; at_work = refl }, (record { number = refl; wished = refl; service = refl; talk = refl; drive = tt; adapter = tt; verdict = tt; at_work = tt }, (record { number = refl; wished = refl; service = refl; talk = refl; drive = refl; adapter = tt; verdict = tt; at_work = tt }, (record { number = refl; wished = refl; service = refl; talk = refl; drive = refl; adapter = refl; verdict = tt; at_work = tt }, (record { number = refl; wished = refl; service = refl; talk = refl; drive = refl; adapter = refl; verdict = tt; at_work = tt }, (record { number = refl; wished = refl; service = refl; talk = refl; drive = refl; adapter = tt; verdict = tt; at_work = refl }, (record { number = refl; wished = refl; service = refl; talk = refl; drive = refl; adapter = (refl, refl); verdict = refl; at_work = refl }, (record { number = refl; wished = refl; service = refl; talk = refl; drive = refl; adapter = (refl, refl); verdict = refl; at_work = refl }, (record { number = refl; wished = refl; service = refl; talk = refl; drive = refl; adapter = (refl, refl); verdict = refl; at_work = refl }, (record { number = refl; wished = refl; service = refl; talk = refl; drive = refl; adapter = (refl, refl); verdict = refl; at_work = refl }, (record { number = refl; wished = refl; service = refl; talk = refl; drive = refl; adapter = (refl, refl); verdict = refl; at_work = refl }, (record { number = refl; wished = refl; service = refl; talk = refl; drive = refl; adapter = (refl, refl); verdict = refl; at_work = refl }, (record { number = refl; wished = refl; service = refl; talk = refl; drive = refl; adapter = (refl, refl); verdict = refl; at_work = refl }, (record { number = refl; wished = refl; service = refl; talk = refl; drive = refl; adapter = (refl, refl); verdict = refl; at_work = refl }, (record { number = refl; wished = refl; service = refl; talk = refl; drive = tt; adapter = refl; verdict = tt; at_work = refl }, (record { number = refl; wished = refl; service = refl; talk = refl; drive = tt; adapter = tt; verdict = tt; at_work = tt }, (record { number = refl; wished = refl; service = refl; talk = refl; drive = refl; adapter = tt; verdict = tt; at_work = tt }, (record { number = refl; wished = refl; service = refl; talk = refl; drive = refl; adapter = refl; verdict = tt; at_work = tt }, (record { number = refl; wished = refl; service = refl; talk = refl; drive = refl; adapter = refl; verdict = tt; at_work = tt }, (record { number = refl; wished = refl; service = refl; talk = refl; drive = refl; adapter = tt; verdict = tt; at_work = refl }, (record { number = refl; wished = refl; service = refl; talk = refl; drive = refl; adapter = (refl, refl); verdict = refl; at_work = refl }, (record { number = refl; wished = refl; service = refl; talk = refl; drive = refl; adapter = (refl, refl); verdict = refl; at_work = refl }, (record { number = refl; wished = refl; service = refl; talk = refl; drive = refl; adapter = (refl, refl); verdict = refl; at_work = refl }, (record { number = refl; wished = refl; service = refl; talk = refl; drive = refl; adapter = (refl, refl); verdict = refl; at_work = refl }, (record { number = refl; wished = refl; service = refl; talk = refl; drive = refl; adapter = (refl, refl); verdict = refl; at_work = refl }, (record { number = refl; wished = refl; service = refl; talk = refl; drive = refl; adapter = (refl, refl); verdict = refl; at_work = refl }, tt))))))))))))))))))))))))))))))))))))))))

abbrev users_run_after_11 : Replay
users_run_after_11 = after_moments users_run_after_10 (take 40 users_run_from_10)

abbrev users_run_from_11 : List Moment
users_run_from_11 = drop 40 users_run_from_10

users_run_part_11 : Follows users_run_after_11 (take 40 users_run_from_11)
unfolding repair.burst_byte
users_run_part_11 = (record { number = refl; wished = refl; service = refl; talk = refl; drive = refl; adapter = (refl, refl); verdict = refl; at_work = refl }, (record { number = refl; wished = refl; service = refl; talk = refl; drive = refl; adapter = (refl, refl); verdict = refl; at_work = refl }, (record { number = refl; wished = refl; service = refl; talk = refl; drive = tt; adapter = refl; verdict = tt; at_work = refl }, (record { number = refl; wished = refl; service = refl; talk = refl; drive = tt; adapter = tt; verdict = tt; at_work = tt }, (record { number = refl; wished = refl; service = refl; talk = refl; drive = refl; adapter = tt; verdict = tt; at_work = tt }, (record { number = refl; wished = refl; service = refl; talk = refl; drive = refl; adapter = refl; verdict = tt; at_work = tt }, (record { number = refl; wished = refl; service = refl; talk = refl; drive = refl; adapter = refl; verdict = tt; at_work = tt }, (record { number = refl; wished = refl; service = refl; talk = refl; drive = refl; adapter = tt; verdict = tt; at_work = refl }, (record { number = refl; wished = refl; service = refl; talk = refl; drive = refl; adapter = (refl, refl); verdict = refl; at_work = refl }, (record { number = refl; wished = refl; service = refl; talk = refl; drive = refl; adapter = (refl, refl); verdict = refl; at_work = refl }, (record { number = refl; wished = refl; service = refl; talk = refl; drive = refl; adapter = (refl, refl); verdict = refl; at_work = refl }, (record { number = refl; wished = refl; service = refl; talk = refl; drive = refl; adapter = (refl, refl); verdict = refl; at_work = refl }, (record { number = refl; wished = refl; service = refl; talk = refl; drive = refl; adapter = (refl, refl); verdict = refl; at_work = refl }, (record { number = refl; wished = refl; service = refl; talk = refl; drive = refl; adapter = (refl, refl); verdict = refl; at_work = refl }, (record { number = refl; wished = refl; service = refl; talk = refl; drive = refl; adapter = (refl, refl); verdict = refl; at_work = refl }, (record { number = refl; wished = refl; service = refl; talk = refl; drive = refl; adapter = (refl, refl); verdict = refl; at_work = refl }, (record { number = refl; wished = refl; service = refl; talk = refl; drive = tt; adapter = refl; verdict = tt; at_work = refl }, (record { number = refl; wished = refl; service = refl; talk = refl; drive = tt; adapter = tt; verdict = tt; at_work = tt }, (record { number = refl; wished = refl; service = refl; talk = refl; drive = refl; adapter = tt; verdict = tt; at_work = tt }, (record { number = refl; wished = refl; service = refl; talk = refl; drive = refl; adapter = refl; verdict = tt; at_work = tt }, (record { number = refl; wished = refl; service = refl; talk = refl; drive = refl; adapter = refl; verdict = tt; at_work = tt }, (record { number = refl; wished = refl; service = refl; talk = refl; drive = refl; adapter = tt; verdict = tt; at_work = refl }, (record { number = refl; wished = refl; service = refl; talk = refl; drive = refl; adapter = (refl, refl); verdict = refl; at_work = refl }, (record { number = refl; wished = refl; service = refl; talk = refl; drive = refl; adapter = (refl, refl); verdict = refl; at_work = refl }, (record { number = refl; wished = refl; service = refl; talk = refl; drive = refl; adapter = (refl, refl); verdict = refl; at_work = refl }, (record { number = refl; wished = refl; service = refl; talk = refl; drive = refl; adapter = (refl, refl); verdict = refl; at_work = refl }, (record { number = refl; wished = refl; service = refl; talk = refl; drive = refl; adapter = (refl, refl); verdict = refl; at_work = refl }, (record { number = refl; wished = refl; service = refl; talk = refl; drive = refl; adapter = (refl, refl); verdict = refl; at_work = refl }, (record { number = refl; wished = refl; service = refl; talk = refl; drive = refl; adapter = (refl, refl); verdict = refl; at_work = refl }, (record { number = refl; wished = refl; service = refl; talk = refl; drive = refl; adapter = (refl, refl); verdict = refl; at_work = refl }, (record { number = refl; wished = refl; service = refl; talk = refl; drive = tt; adapter = refl; verdict = tt; at_work = refl }, (record { number = refl; wished = refl; service = refl; talk = refl; drive = tt; adapter = tt; verdict = tt; at_work = tt }, (record { number = refl; wished = refl; service = refl; talk = refl; drive = refl; adapter = tt; verdict = tt; at_work = tt }, (record { number = refl; wished = refl; service = refl; talk = refl; drive = refl; adapter = refl; verdict = tt; at_work = tt }, (record { number = refl; wished = refl; service = refl; talk = refl; drive = refl; adapter = refl; verdict = tt; at_work = tt }, (record { number = refl; wished = refl; service = refl; talk = refl; drive = refl; adapter = tt; verdict = tt; at_work = refl }, (record { number = refl; wished = refl; service = refl; talk = refl; drive = refl; adapter = (refl, refl); verdict = refl; at_work = refl }, (record { number = refl; wished = refl; service = refl; talk = refl; drive = refl; adapter = (refl, refl); verdict = refl; at_work = refl }, (record { number = refl; wished = refl; service = refl; talk = refl; drive = refl; adapter = (refl, refl); verdict = refl; at_work = refl }, (record { number = refl; wished = refl; service = refl; talk = refl; drive = refl; adapter = (refl, refl); verdict = refl; at_work = refl }, tt))))))))))))))))))))))))))))))))))))))))

abbrev users_run_after_12 : Replay
users_run_after_12 = after_moments users_run_after_11 (take 40 users_run_from_11)

abbrev users_run_from_12 : List Moment
users_run_from_12 = drop 40 users_run_from_11

users_run_part_12 : Follows users_run_after_12 (take 40 users_run_from_12)
unfolding repair.burst_byte
users_run_part_12 = (record { number = refl; wished = refl; service = refl; talk = refl; drive = refl; adapter = (refl, refl); verdict = refl; at_work = refl }, (record { number = refl; wished = refl; service = refl; talk = refl; drive = refl; adapter = (refl, refl); verdict = refl; at_work = refl }, (record { number = refl; wished = refl; service = refl; talk = refl; drive = refl; adapter = (refl, refl); verdict = refl; at_work = refl }, (record { number = refl; wished = refl; service = refl; talk = refl; drive = refl; adapter = (refl, refl); verdict = refl; at_work = refl }, (record { number = refl; wished = refl; service = refl; talk = refl; drive = tt; adapter = refl; verdict = tt; at_work = refl }, (record { number = refl; wished = refl; service = refl; talk = refl; drive = tt; adapter = tt; verdict = tt; at_work = tt }, (record { number = refl; wished = refl; service = refl; talk = refl; drive = refl; adapter = tt; verdict = tt; at_work = tt }, (record { number = refl; wished = refl; service = refl; talk = refl; drive = refl; adapter = refl; verdict = tt; at_work = tt }, (record { number = refl; wished = refl; service = refl; talk = refl; drive = refl; adapter = refl; verdict = tt; at_work = tt }, (record { number = refl; wished = refl; service = refl; talk = refl; drive = refl; adapter = tt; verdict = tt; at_work = refl }, (record { number = refl; wished = refl; service = refl; talk = refl; drive = refl; adapter = (refl, refl); verdict = refl; at_work = refl }, (record { number = refl; wished = refl; service = refl; talk = refl; drive = refl; adapter = (refl, refl); verdict = refl; at_work = refl }, (record { number = refl; wished = refl; service = refl; talk = refl; drive = refl; adapter = (refl, refl); verdict = refl; at_work = refl }, (record { number = refl; wished = refl; service = refl; talk = refl; drive = refl; adapter = (refl, refl); verdict = refl; at_work = refl }, (record { number = refl; wished = refl; service = refl; talk = refl; drive = refl; adapter = (refl, refl); verdict = refl; at_work = refl }, (record { number = refl; wished = refl; service = refl; talk = refl; drive = refl; adapter = (refl, refl); verdict = refl; at_work = refl }, (record { number = refl; wished = refl; service = refl; talk = refl; drive = refl; adapter = (refl, refl); verdict = refl; at_work = refl }, (record { number = refl; wished = refl; service = refl; talk = refl; drive = refl; adapter = (refl, refl); verdict = refl; at_work = refl }, (record { number = refl; wished = refl; service = refl; talk = refl; drive = tt; adapter = refl; verdict = tt; at_work = refl }, (record { number = refl; wished = refl; service = refl; talk = refl; drive = tt; adapter = tt; verdict = tt; at_work = tt }, (record { number = refl; wished = refl; service = refl; talk = refl; drive = refl; adapter = tt; verdict = tt; at_work = tt }, (record { number = refl; wished = refl; service = refl; talk = refl; drive = refl; adapter = refl; verdict = tt; at_work = tt }, (record { number = refl; wished = refl; service = refl; talk = refl; drive = refl; adapter = refl; verdict = tt; at_work = tt }, (record { number = refl; wished = refl; service = refl; talk = refl; drive = refl; adapter = tt; verdict = tt; at_work = refl }, (record { number = refl; wished = refl; service = refl; talk = refl; drive = refl; adapter = (refl, refl); verdict = refl; at_work = refl }, (record { number = refl; wished = refl; service = refl; talk = refl; drive = refl; adapter = (refl, refl); verdict = refl; at_work = refl }, (record { number = refl; wished = refl; service = refl; talk = refl; drive = refl; adapter = (refl, refl); verdict = refl; at_work = refl }, (record { number = refl; wished = refl; service = refl; talk = refl; drive = refl; adapter = (refl, refl); verdict = refl; at_work = refl }, (record { number = refl; wished = refl; service = refl; talk = refl; drive = refl; adapter = (refl, refl); verdict = refl; at_work = refl }, (record { number = refl; wished = refl; service = refl; talk = refl; drive = refl; adapter = (refl, refl); verdict = refl; at_work = refl }, (record { number = refl; wished = refl; service = refl; talk = refl; drive = refl; adapter = (refl, refl); verdict = refl; at_work = refl }, (record { number = refl; wished = refl; service = refl; talk = refl; drive = refl; adapter = (refl, refl); verdict = refl; at_work = refl }, (record { number = refl; wished = refl; service = refl; talk = refl; drive = tt; adapter = refl; verdict = tt; at_work = refl }, (record { number = refl; wished = refl; service = refl; talk = refl; drive = tt; adapter = tt; verdict = tt; at_work = tt }, (record { number = refl; wished = refl; service = refl; talk = refl; drive = refl; adapter = tt; verdict = tt; at_work = tt }, (record { number = refl; wished = refl; service = refl; talk = refl; drive = refl; adapter = refl; verdict = tt; at_work = tt }, (record { number = refl; wished = refl; service = refl; talk = refl; drive = refl; adapter = refl; verdict = tt; at_work = tt }, (record { number = refl; wished = refl; service = refl; talk = refl; drive = refl; adapter = tt; verdict = tt; at_work = refl }, (record { number = refl; wished = refl; service = refl; talk = refl; drive = refl; adapter = (refl, refl); verdict = refl; at_work = refl }, (record { number = refl; wished = refl; service = refl; talk = refl; drive = refl; adapter = (refl, refl); verdict = refl; at_work = refl }, tt))))))))))))))))))))))))))))))))))))))))

abbrev users_run_after_13 : Replay
users_run_after_13 = after_moments users_run_after_12 (take 40 users_run_from_12)

abbrev users_run_from_13 : List Moment
users_run_from_13 = drop 40 users_run_from_12

users_run_part_13 : Follows users_run_after_13 (take 40 users_run_from_13)
unfolding repair.burst_byte
users_run_part_13 = (record { number = refl; wished = refl; service = refl; talk = refl; drive = refl; adapter = (refl, refl); verdict = refl; at_work = refl }, (record { number = refl; wished = refl; service = refl; talk = refl; drive = refl; adapter = (refl, refl); verdict = refl; at_work = refl }, (record { number = refl; wished = refl; service = refl; talk = refl; drive = refl; adapter = (refl, refl); verdict = refl; at_work = refl }, (record { number = refl; wished = refl; service = refl; talk = refl; drive = refl; adapter = (refl, refl); verdict = refl; at_work = refl }, (record { number = refl; wished = refl; service = refl; talk = refl; drive = refl; adapter = (refl, refl); verdict = refl; at_work = refl }, (record { number = refl; wished = refl; service = refl; talk = refl; drive = refl; adapter = (refl, refl); verdict = refl; at_work = refl }, (record { number = refl; wished = refl; service = refl; talk = refl; drive = tt; adapter = refl; verdict = tt; at_work = refl }, (record { number = refl; wished = refl; service = refl; talk = refl; drive = tt; adapter = tt; verdict = tt; at_work = tt }, (record { number = refl; wished = refl; service = refl; talk = refl; drive = refl; adapter = tt; verdict = tt; at_work = tt }, (record { number = refl; wished = refl; service = refl; talk = refl; drive = refl; adapter = refl; verdict = tt; at_work = tt }, (record { number = refl; wished = refl; service = refl; talk = refl; drive = refl; adapter = refl; verdict = tt; at_work = tt }, (record { number = refl; wished = refl; service = refl; talk = refl; drive = refl; adapter = tt; verdict = tt; at_work = refl }, (record { number = refl; wished = refl; service = refl; talk = refl; drive = refl; adapter = (refl, refl); verdict = refl; at_work = refl }, (record { number = refl; wished = refl; service = refl; talk = refl; drive = refl; adapter = (refl, refl); verdict = refl; at_work = refl }, (record { number = refl; wished = refl; service = refl; talk = refl; drive = refl; adapter = (refl, refl); verdict = refl; at_work = refl }, (record { number = refl; wished = refl; service = refl; talk = refl; drive = refl; adapter = (refl, refl); verdict = refl; at_work = refl }, (record { number = refl; wished = refl; service = refl; talk = refl; drive = refl; adapter = (refl, refl); verdict = refl; at_work = refl }, (record { number = refl; wished = refl; service = refl; talk = refl; drive = refl; adapter = (refl, refl); verdict = refl; at_work = refl }, (record { number = refl; wished = refl; service = refl; talk = refl; drive = refl; adapter = (refl, refl); verdict = refl; at_work = refl }, (record { number = refl; wished = refl; service = refl; talk = refl; drive = refl; adapter = (refl, refl); verdict = refl; at_work = refl }, (record { number = refl; wished = refl; service = refl; talk = refl; drive = tt; adapter = refl; verdict = tt; at_work = refl }, (record { number = refl; wished = refl; service = refl; talk = refl; drive = tt; adapter = tt; verdict = tt; at_work = tt }, (record { number = refl; wished = refl; service = refl; talk = refl; drive = refl; adapter = tt; verdict = tt; at_work = tt }, (record { number = refl; wished = refl; service = refl; talk = refl; drive = refl; adapter = refl; verdict = tt; at_work = tt }, (record { number = refl; wished = refl; service = refl; talk = refl; drive = refl; adapter = refl; verdict = tt; at_work = tt }, (record { number = refl; wished = refl; service = refl; talk = refl; drive = refl; adapter = tt; verdict = tt; at_work = refl }, (record { number = refl; wished = refl; service = refl; talk = refl; drive = refl; adapter = (refl, refl); verdict = refl; at_work = refl }, (record { number = refl; wished = refl; service = refl; talk = refl; drive = refl; adapter = (refl, refl); verdict = refl; at_work = refl }, (record { number = refl; wished = refl; service = refl; talk = refl; drive = refl; adapter = (refl, refl); verdict = refl; at_work = refl }, (record { number = refl; wished = refl; service = refl; talk = refl; drive = refl; adapter = (refl, refl); verdict = refl; at_work = refl }, (record { number = refl; wished = refl; service = refl; talk = refl; drive = refl; adapter = (refl, refl); verdict = refl; at_work = refl }, (record { number = refl; wished = refl; service = refl; talk = refl; drive = refl; adapter = (refl, refl); verdict = refl; at_work = refl }, (record { number = refl; wished = refl; service = refl; talk = refl; drive = refl; adapter = (refl, refl); verdict = refl; at_work = refl }, (record { number = refl; wished = refl; service = refl; talk = refl; drive = refl; adapter = (refl, refl); verdict = refl; at_work = refl }, (record { number = refl; wished = refl; service = refl; talk = refl; drive = tt; adapter = refl; verdict = tt; at_work = refl }, (record { number = refl; wished = refl; service = refl; talk = refl; drive = tt; adapter = tt; verdict = tt; at_work = tt }, (record { number = refl; wished = refl; service = refl; talk = refl; drive = refl; adapter = tt; verdict = tt; at_work = tt }, (record { number = refl; wished = refl; service = refl; talk = refl; drive = refl; adapter = refl; verdict = tt; at_work = tt }, (record { number = refl; wished = refl; service = refl; talk = refl; drive = refl; adapter = refl; verdict = tt; at_work = tt }, (record { number = refl; wished = refl; service = refl; talk = refl; drive = refl; adapter = tt; verdict = tt; at_work = refl }, tt))))))))))))))))))))))))))))))))))))))))

abbrev users_run_after_14 : Replay
users_run_after_14 = after_moments users_run_after_13 (take 40 users_run_from_13)

abbrev users_run_from_14 : List Moment
users_run_from_14 = drop 40 users_run_from_13

users_run_part_14 : Follows users_run_after_14 (take 40 users_run_from_14)
unfolding repair.burst_byte
users_run_part_14 = (record { number = refl; wished = refl; service = refl; talk = refl; drive = refl; adapter = (refl, refl); verdict = refl; at_work = refl }, (record { number = refl; wished = refl; service = refl; talk = refl; drive = refl; adapter = (refl, refl); verdict = refl; at_work = refl }, (record { number = refl; wished = refl; service = refl; talk = refl; drive = refl; adapter = (refl, refl); verdict = refl; at_work = refl }, (record { number = refl; wished = refl; service = refl; talk = refl; drive = refl; adapter = (refl, refl); verdict = refl; at_work = refl }, (record { number = refl; wished = refl; service = refl; talk = refl; drive = refl; adapter = (refl, refl); verdict = refl; at_work = refl }, (record { number = refl; wished = refl; service = refl; talk = refl; drive = refl; adapter = (refl, refl); verdict = refl; at_work = refl }, (record { number = refl; wished = refl; service = refl; talk = refl; drive = refl; adapter = (refl, refl); verdict = refl; at_work = refl }, (record { number = refl; wished = refl; service = refl; talk = refl; drive = refl; adapter = (refl, refl); verdict = refl; at_work = refl }, (record { number = refl; wished = refl; service = refl; talk = refl; drive = tt; adapter = refl; verdict = tt; at_work = refl }, (record { number = refl; wished = refl; service = refl; talk = refl; drive = tt; adapter = tt; verdict = tt; at_work = tt }, (record { number = refl; wished = refl; service = refl; talk = refl; drive = refl; adapter = refl; verdict = tt; at_work = tt }, (record { number = refl; wished = refl; service = refl; talk = refl; drive = refl; adapter = refl; verdict = tt; at_work = tt }, (record { number = refl; wished = refl; service = refl; talk = refl; drive = refl; adapter = (refl, refl); verdict = refl; at_work = refl }, (record { number = refl; wished = refl; service = refl; talk = refl; drive = refl; adapter = (refl, refl); verdict = refl; at_work = refl }, (record { number = refl; wished = refl; service = refl; talk = refl; drive = refl; adapter = (refl, refl); verdict = refl; at_work = refl }, (record { number = refl; wished = refl; service = refl; talk = refl; drive = refl; adapter = (refl, refl); verdict = refl; at_work = refl }, (record { number = refl; wished = refl; service = refl; talk = refl; drive = refl; adapter = (refl, refl); verdict = refl; at_work = refl }, (record { number = refl; wished = refl; service = refl; talk = refl; drive = refl; adapter = (refl, refl); verdict = refl; at_work = refl }, (record { number = refl; wished = refl; service = refl; talk = refl; drive = refl; adapter = (refl, refl); verdict = refl; at_work = refl }, (record { number = refl; wished = refl; service = refl; talk = refl; drive = refl; adapter = (refl, refl); verdict = refl; at_work = refl }, (record { number = refl; wished = refl; service = refl; talk = refl; drive = tt; adapter = refl; verdict = tt; at_work = refl }, (record { number = refl; wished = refl; service = refl; talk = refl; drive = tt; adapter = tt; verdict = tt; at_work = tt }, (record { number = refl; wished = refl; service = refl; talk = refl; drive = refl; adapter = tt; verdict = tt; at_work = tt }, (record { number = refl; wished = refl; service = refl; talk = refl; drive = refl; adapter = refl; verdict = tt; at_work = tt }, (record { number = refl; wished = refl; service = refl; talk = refl; drive = refl; adapter = tt; verdict = tt; at_work = refl }, (record { number = refl; wished = refl; service = refl; talk = refl; drive = refl; adapter = (refl, refl); verdict = refl; at_work = refl }, (record { number = refl; wished = refl; service = refl; talk = refl; drive = refl; adapter = (refl, refl); verdict = refl; at_work = refl }, (record { number = refl; wished = refl; service = refl; talk = refl; drive = refl; adapter = (refl, refl); verdict = refl; at_work = refl }, (record { number = refl; wished = refl; service = refl; talk = refl; drive = refl; adapter = (refl, refl); verdict = refl; at_work = refl }, (record { number = refl; wished = refl; service = refl; talk = refl; drive = refl; adapter = (refl, refl); verdict = refl; at_work = refl }, (record { number = refl; wished = refl; service = refl; talk = refl; drive = refl; adapter = (refl, refl); verdict = refl; at_work = refl }, (record { number = refl; wished = refl; service = refl; talk = refl; drive = refl; adapter = (refl, refl); verdict = refl; at_work = refl }, (record { number = refl; wished = refl; service = refl; talk = refl; drive = refl; adapter = (refl, refl); verdict = refl; at_work = refl }, (record { number = refl; wished = refl; service = refl; talk = refl; drive = tt; adapter = refl; verdict = tt; at_work = refl }, (record { number = refl; wished = refl; service = refl; talk = refl; drive = tt; adapter = tt; verdict = tt; at_work = tt }, (record { number = refl; wished = refl; service = refl; talk = refl; drive = refl; adapter = tt; verdict = tt; at_work = tt }, (record { number = refl; wished = refl; service = refl; talk = refl; drive = refl; adapter = refl; verdict = tt; at_work = tt }, (record { number = refl; wished = refl; service = refl; talk = refl; drive = refl; adapter = refl; verdict = tt; at_work = tt }, (record { number = refl; wished = refl; service = refl; talk = refl; drive = refl; adapter = tt; verdict = tt; at_work = refl }, (record { number = refl; wished = refl; service = refl; talk = refl; drive = refl; adapter = (refl, refl); verdict = refl; at_work = refl }, tt))))))))))))))))))))))))))))))))))))))))

abbrev users_run_after_15 : Replay
users_run_after_15 = after_moments users_run_after_14 (take 40 users_run_from_14)

abbrev users_run_from_15 : List Moment
users_run_from_15 = drop 40 users_run_from_14

users_run_part_15 : Follows users_run_after_15 (take 40 users_run_from_15)
unfolding repair.burst_byte
users_run_part_15 = (record { number = refl; wished = refl; service = refl; talk = refl; drive = refl; adapter = (refl, refl); verdict = refl; at_work = refl }, (record { number = refl; wished = refl; service = refl; talk = refl; drive = refl; adapter = (refl, refl); verdict = refl; at_work = refl }, (record { number = refl; wished = refl; service = refl; talk = refl; drive = refl; adapter = (refl, refl); verdict = refl; at_work = refl }, (record { number = refl; wished = refl; service = refl; talk = refl; drive = refl; adapter = (refl, refl); verdict = refl; at_work = refl }, (record { number = refl; wished = refl; service = refl; talk = refl; drive = refl; adapter = (refl, refl); verdict = refl; at_work = refl }, (record { number = refl; wished = refl; service = refl; talk = refl; drive = refl; adapter = (refl, refl); verdict = refl; at_work = refl }, (record { number = refl; wished = refl; service = refl; talk = refl; drive = refl; adapter = (refl, refl); verdict = refl; at_work = refl }, (record { number = refl; wished = refl; service = refl; talk = refl; drive = tt; adapter = refl; verdict = tt; at_work = refl }, (record { number = refl; wished = refl; service = refl; talk = refl; drive = tt; adapter = tt; verdict = tt; at_work = tt }, (record { number = refl; wished = refl; service = refl; talk = refl; drive = refl; adapter = refl; verdict = tt; at_work = tt }, (record { number = refl; wished = refl; service = refl; talk = refl; drive = refl; adapter = refl; verdict = tt; at_work = tt }, (record { number = refl; wished = refl; service = refl; talk = refl; drive = refl; adapter = (refl, refl); verdict = refl; at_work = refl }, (record { number = refl; wished = refl; service = refl; talk = refl; drive = refl; adapter = (refl, refl); verdict = refl; at_work = refl }, (record { number = refl; wished = refl; service = refl; talk = refl; drive = refl; adapter = (refl, refl); verdict = refl; at_work = refl }, (record { number = refl; wished = refl; service = refl; talk = refl; drive = refl; adapter = (refl, refl); verdict = refl; at_work = refl }, (record { number = refl; wished = refl; service = refl; talk = refl; drive = refl; adapter = (refl, refl); verdict = refl; at_work = refl }, (record { number = refl; wished = refl; service = refl; talk = refl; drive = refl; adapter = (refl, refl); verdict = refl; at_work = refl }, (record { number = refl; wished = refl; service = refl; talk = refl; drive = refl; adapter = (refl, refl); verdict = refl; at_work = refl }, (record { number = refl; wished = refl; service = refl; talk = refl; drive = refl; adapter = (refl, refl); verdict = refl; at_work = refl }, (record { number = refl; wished = refl; service = refl; talk = refl; drive = tt; adapter = refl; verdict = tt; at_work = refl }, (record { number = refl; wished = refl; service = refl; talk = refl; drive = tt; adapter = tt; verdict = tt; at_work = tt }, tt)))))))))))))))))))))

users_run_follows_15 : Follows users_run_after_15 users_run_from_15
users_run_follows_15 = users_run_part_15

users_run_follows_14 : Follows users_run_after_14 users_run_from_14
users_run_follows_14 = (follow_on users_run_after_14 (take 40 users_run_from_14) (drop 40 users_run_from_14)).1 (users_run_part_14, users_run_follows_15)

users_run_follows_13 : Follows users_run_after_13 users_run_from_13
users_run_follows_13 = (follow_on users_run_after_13 (take 40 users_run_from_13) (drop 40 users_run_from_13)).1 (users_run_part_13, users_run_follows_14)

users_run_follows_12 : Follows users_run_after_12 users_run_from_12
users_run_follows_12 = (follow_on users_run_after_12 (take 40 users_run_from_12) (drop 40 users_run_from_12)).1 (users_run_part_12, users_run_follows_13)

users_run_follows_11 : Follows users_run_after_11 users_run_from_11
users_run_follows_11 = (follow_on users_run_after_11 (take 40 users_run_from_11) (drop 40 users_run_from_11)).1 (users_run_part_11, users_run_follows_12)

users_run_follows_10 : Follows users_run_after_10 users_run_from_10
users_run_follows_10 = (follow_on users_run_after_10 (take 40 users_run_from_10) (drop 40 users_run_from_10)).1 (users_run_part_10, users_run_follows_11)

users_run_follows_9 : Follows users_run_after_9 users_run_from_9
users_run_follows_9 = (follow_on users_run_after_9 (take 40 users_run_from_9) (drop 40 users_run_from_9)).1 (users_run_part_9, users_run_follows_10)

users_run_follows_8 : Follows users_run_after_8 users_run_from_8
users_run_follows_8 = (follow_on users_run_after_8 (take 40 users_run_from_8) (drop 40 users_run_from_8)).1 (users_run_part_8, users_run_follows_9)

users_run_follows_7 : Follows users_run_after_7 users_run_from_7
users_run_follows_7 = (follow_on users_run_after_7 (take 40 users_run_from_7) (drop 40 users_run_from_7)).1 (users_run_part_7, users_run_follows_8)

users_run_follows_6 : Follows users_run_after_6 users_run_from_6
users_run_follows_6 = (follow_on users_run_after_6 (take 40 users_run_from_6) (drop 40 users_run_from_6)).1 (users_run_part_6, users_run_follows_7)

users_run_follows_5 : Follows users_run_after_5 users_run_from_5
users_run_follows_5 = (follow_on users_run_after_5 (take 40 users_run_from_5) (drop 40 users_run_from_5)).1 (users_run_part_5, users_run_follows_6)

users_run_follows_4 : Follows users_run_after_4 users_run_from_4
users_run_follows_4 = (follow_on users_run_after_4 (take 40 users_run_from_4) (drop 40 users_run_from_4)).1 (users_run_part_4, users_run_follows_5)

users_run_follows_3 : Follows users_run_after_3 users_run_from_3
users_run_follows_3 = (follow_on users_run_after_3 (take 40 users_run_from_3) (drop 40 users_run_from_3)).1 (users_run_part_3, users_run_follows_4)

users_run_follows_2 : Follows users_run_after_2 users_run_from_2
users_run_follows_2 = (follow_on users_run_after_2 (take 40 users_run_from_2) (drop 40 users_run_from_2)).1 (users_run_part_2, users_run_follows_3)

users_run_follows_1 : Follows users_run_after_1 users_run_from_1
users_run_follows_1 = (follow_on users_run_after_1 (take 40 users_run_from_1) (drop 40 users_run_from_1)).1 (users_run_part_1, users_run_follows_2)

users_run_follows_0 : Follows (start_of users_run) (moments_of users_run)
users_run_follows_0 = (follow_on (start_of users_run) (take 40 (moments_of users_run)) (drop 40 (moments_of users_run))).1 (users_run_part_0, users_run_follows_1)

pub users_run_accepted : IsAccepted users_run
unfolding repair.burst_byte
users_run_accepted = record {
  inputs = refl;
  legal = record { follows = users_run_follows_0; over = record { over = refl; answered = refl } };
}
