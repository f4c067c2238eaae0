-- Each moment of the rows may come, by computation; docs/trace-rows/rows.py writes this.
use Rattle.std.proofs.Common.{refl}
use Rattle.fire_code.specs.Remainder as code
use Rattle.fire_code.specs.Repair as repair
use Rattle.trace_rows.specs.Accepted.{IsAccepted}
use Rattle.trace_rows.specs.Rows1.{alias_noise, answers_in_service_order, attentions_together, burst_across_two_frames, burst_beyond_the_end, each_fault, empty_script, first_read, forwarded_between_other_units, forwarded_read, frames_run_out, last_data_block, locked, marked_replacement, near_enough, offline, offline_behind_a_burst, offline_in_a_transfer}
use Rattle.trace_rows.proofs.Bursts.{burst_9_1, burst_29_65, burst_1691_257, burst_4091_1025}

pub alias_noise_accepted : IsAccepted alias_noise
unfolding code.remainder code.power code.times_x
alias_noise_accepted = record {
  inputs = refl;
  legal = record { follows = (record { later = refl; over = refl; finished = refl; at_work = refl }, (record { later = refl; over = refl; finished = refl; at_work = refl }, (record { number = refl; wished = refl; service = refl; talk = refl; drive = refl; adapter = refl; verdict = tt; at_work = tt }, (record { later = refl; over = refl; finished = refl; at_work = refl }, (record { number = refl; wished = refl; service = refl; talk = refl; drive = refl; adapter = (refl, refl); verdict = refl; at_work = tt }, (record { number = refl; wished = refl; service = refl; talk = refl; drive = tt; adapter = refl; verdict = tt; at_work = refl }, (record { number = refl; wished = refl; service = refl; talk = refl; drive = tt; adapter = tt; verdict = tt; at_work = tt }, tt))))))); over = record { over = refl; answered = refl } };
}

pub answers_in_service_order_accepted : IsAccepted answers_in_service_order
answers_in_service_order_accepted = record {
  inputs = refl;
  legal = record { follows = (record { later = refl; over = refl; finished = refl; at_work = refl }, (record { number = refl; wished = refl; service = refl; talk = refl; drive = refl; adapter = tt; verdict = tt; at_work = tt }, (record { later = refl; over = refl; finished = refl; at_work = refl }, (record { later = refl; over = refl; finished = refl; at_work = refl }, (record { later = refl; over = refl; finished = refl; at_work = refl }, (record { later = refl; over = refl; finished = refl; at_work = refl }, (record { number = refl; wished = refl; service = refl; talk = refl; drive = refl; adapter = tt; verdict = tt; at_work = tt }, (record { number = refl; wished = refl; service = refl; talk = refl; drive = refl; adapter = refl; verdict = tt; at_work = refl }, (record { number = refl; wished = refl; service = refl; talk = refl; drive = refl; adapter = refl; verdict = tt; at_work = tt }, (record { number = refl; wished = refl; service = refl; talk = refl; drive = refl; adapter = (refl, refl); verdict = refl; at_work = refl }, (record { number = refl; wished = refl; service = refl; talk = refl; drive = tt; adapter = refl; verdict = tt; at_work = refl }, (record { number = refl; wished = refl; service = refl; talk = refl; drive = tt; adapter = tt; verdict = tt; at_work = tt }, (record { number = refl; wished = refl; service = refl; talk = refl; drive = refl; adapter = tt; verdict = tt; at_work = tt }, (record { number = refl; wished = refl; service = refl; talk = refl; drive = refl; adapter = tt; verdict = tt; at_work = refl }, (record { number = refl; wished = refl; service = refl; talk = refl; drive = refl; adapter = refl; verdict = tt; at_work = refl }, (record { number = refl; wished = refl; service = refl; talk = refl; drive = refl; adapter = refl; verdict = tt; at_work = tt }, (record { number = refl; wished = refl; service = refl; talk = refl; drive = refl; adapter = (refl, refl); verdict = refl; at_work = refl }, (record { number = refl; wished = refl; service = refl; talk = refl; drive = refl; adapter = (refl, refl); verdict = refl; at_work = refl }, (record { number = refl; wished = refl; service = refl; talk = refl; drive = tt; adapter = refl; verdict = tt; at_work = refl }, (record { number = refl; wished = refl; service = refl; talk = refl; drive = tt; adapter = tt; verdict = tt; at_work = tt }, (record { number = refl; wished = refl; service = refl; talk = refl; drive = refl; adapter = tt; verdict = tt; at_work = tt }, (record { number = refl; wished = refl; service = refl; talk = refl; drive = refl; adapter = tt; verdict = tt; at_work = refl }, (record { number = refl; wished = refl; service = refl; talk = refl; drive = refl; adapter = refl; verdict = tt; at_work = refl }, (record { number = refl; wished = refl; service = refl; talk = refl; drive = refl; adapter = refl; verdict = tt; at_work = tt }, (record { number = refl; wished = refl; service = refl; talk = refl; drive = refl; adapter = (refl, refl); verdict = refl; at_work = refl }, (record { number = refl; wished = refl; service = refl; talk = refl; drive = tt; adapter = refl; verdict = tt; at_work = refl }, (record { number = refl; wished = refl; service = refl; talk = refl; drive = tt; adapter = tt; verdict = tt; at_work = tt }, (record { number = refl; wished = refl; service = refl; talk = refl; drive = refl; adapter = tt; verdict = tt; at_work = tt }, (record { number = refl; wished = refl; service = refl; talk = refl; drive = refl; adapter = tt; verdict = tt; at_work = refl }, (record { number = refl; wished = refl; service = refl; talk = refl; drive = refl; adapter = refl; verdict = tt; at_work = refl }, (record { number = refl; wished = refl; service = refl; talk = refl; drive = refl; adapter = refl; verdict = tt; at_work = tt }, (record { number = refl; wished = refl; service = refl; talk = refl; drive = refl; adapter = (refl, refl); verdict = refl; at_work = refl }, (record { number = refl; wished = refl; service = refl; talk = refl; drive = tt; adapter = refl; verdict = tt; at_work = refl }, (record { number = refl; wished = refl; service = refl; talk = refl; drive = tt; adapter = tt; verdict = tt; at_work = tt }, tt)))))))))))))))))))))))))))))))))); over = record { over = refl; answered = refl } };
}

pub attentions_together_accepted : IsAccepted attentions_together
attentions_together_accepted = record {
  inputs = refl;
  legal = record { follows = (record { later = refl; over = refl; finished = refl; at_work = refl }, (record { number = refl; wished = refl; service = refl; talk = refl; drive = refl; adapter = tt; verdict = tt; at_work = tt }, (record { later = refl; over = refl; finished = refl; at_work = refl }, (record { number = refl; wished = refl; service = refl; talk = refl; drive = refl; adapter = tt; verdict = tt; at_work = tt }, (record { later = refl; over = refl; finished = refl; at_work = refl }, (record { later = refl; over = refl; finished = refl; at_work = refl }, (record { number = refl; wished = refl; service = refl; talk = refl; drive = refl; adapter = tt; verdict = tt; at_work = tt }, (record { later = refl; over = refl; finished = refl; at_work = refl }, (record { number = refl; wished = refl; service = refl; talk = refl; drive = refl; adapter = tt; verdict = tt; at_work = tt }, (record { later = refl; over = refl; finished = refl; at_work = refl }, (record { number = refl; wished = refl; service = refl; talk = refl; drive = refl; adapter = refl; verdict = tt; at_work = tt }, (record { number = refl; wished = refl; service = refl; talk = refl; drive = refl; adapter = refl; verdict = tt; at_work = tt }, (record { number = refl; wished = refl; service = refl; talk = refl; drive = refl; adapter = refl; verdict = tt; at_work = tt }, (record { later = refl; over = refl; finished = refl; at_work = refl }, (record { number = refl; wished = refl; service = refl; talk = refl; drive = refl; adapter = (refl, refl); verdict = refl; at_work = tt }, (record { later = refl; over = refl; finished = refl; at_work = refl }, (record { number = refl; wished = refl; service = refl; talk = refl; drive = tt; adapter = refl; verdict = tt; at_work = tt }, (record { number = refl; wished = refl; service = refl; talk = refl; drive = tt; adapter = tt; verdict = tt; at_work = tt }, (record { number = refl; wished = refl; service = refl; talk = refl; drive = refl; adapter = tt; verdict = tt; at_work = tt }, (record { number = refl; wished = refl; service = refl; talk = refl; drive = refl; adapter = refl; verdict = tt; at_work = tt }, (record { later = refl; over = refl; finished = refl; at_work = refl }, (record { number = refl; wished = refl; service = refl; talk = refl; drive = refl; adapter = tt; verdict = tt; at_work = tt }, (record { number = refl; wished = refl; service = refl; talk = refl; drive = refl; adapter = (refl, refl); verdict = refl; at_work = refl }, (record { number = refl; wished = refl; service = refl; talk = refl; drive = tt; adapter = refl; verdict = tt; at_work = refl }, (record { number = refl; wished = refl; service = refl; talk = refl; drive = tt; adapter = tt; verdict = tt; at_work = tt }, (record { number = refl; wished = refl; service = refl; talk = refl; drive = refl; adapter = refl; verdict = tt; at_work = tt }, (record { number = refl; wished = refl; service = refl; talk = refl; drive = refl; adapter = refl; verdict = tt; at_work = tt }, (record { number = refl; wished = refl; service = refl; talk = refl; drive = refl; adapter = (refl, refl); verdict = refl; at_work = refl }, (record { number = refl; wished = refl; service = refl; talk = refl; drive = tt; adapter = refl; verdict = tt; at_work = refl }, (record { number = refl; wished = refl; service = refl; talk = refl; drive = tt; adapter = tt; verdict = tt; at_work = tt }, tt)))))))))))))))))))))))))))))); over = record { over = refl; answered = refl } };
}

pub burst_across_two_frames_accepted : IsAccepted burst_across_two_frames
unfolding repair.burst_byte
burst_across_two_frames_accepted = record {
  inputs = refl;
  legal = record { follows = (record { later = refl; over = refl; finished = refl; at_work = refl }, (record { later = refl; over = refl; finished = refl; at_work = refl }, (record { number = refl; wished = refl; service = refl; talk = refl; drive = refl; adapter = refl; verdict = tt; at_work = tt }, (record { later = refl; over = refl; finished = refl; at_work = refl }, (record { number = refl; wished = refl; service = refl; talk = refl; drive = refl; adapter = (refl, refl); verdict = burst_1691_257; at_work = tt }, (record { number = refl; wished = refl; service = refl; talk = refl; drive = tt; adapter = refl; verdict = tt; at_work = refl }, (record { number = refl; wished = refl; service = refl; talk = refl; drive = refl; adapter = tt; verdict = tt; at_work = tt }, (record { number = refl; wished = refl; service = refl; talk = refl; drive = tt; adapter = tt; verdict = tt; at_work = tt }, tt)))))))); over = record { over = refl; answered = refl } };
}

pub burst_beyond_the_end_accepted : IsAccepted burst_beyond_the_end
unfolding repair.burst_byte
burst_beyond_the_end_accepted = record {
  inputs = refl;
  legal = record { follows = (record { later = refl; over = refl; finished = refl; at_work = refl }, (record { later = refl; over = refl; finished = refl; at_work = refl }, (record { number = refl; wished = refl; service = refl; talk = refl; drive = refl; adapter = refl; verdict = tt; at_work = tt }, (record { later = refl; over = refl; finished = refl; at_work = refl }, (record { number = refl; wished = refl; service = refl; talk = refl; drive = refl; adapter = (refl, refl); verdict = burst_29_65; at_work = tt }, (record { number = refl; wished = refl; service = refl; talk = refl; drive = tt; adapter = refl; verdict = tt; at_work = refl }, (record { number = refl; wished = refl; service = refl; talk = refl; drive = refl; adapter = tt; verdict = tt; at_work = tt }, (record { number = refl; wished = refl; service = refl; talk = refl; drive = tt; adapter = tt; verdict = tt; at_work = tt }, tt)))))))); over = record { over = refl; answered = refl } };
}

pub each_fault_accepted : IsAccepted each_fault
each_fault_accepted = record {
  inputs = refl;
  legal = record { follows = (record { later = refl; over = refl; finished = refl; at_work = refl }, (record { later = refl; over = refl; finished = refl; at_work = refl }, (record { later = refl; over = refl; finished = refl; at_work = refl }, (record { later = refl; over = refl; finished = refl; at_work = refl }, (record { later = refl; over = refl; finished = refl; at_work = refl }, (record { later = refl; over = refl; finished = refl; at_work = refl }, (record { number = refl; wished = refl; service = refl; talk = refl; drive = refl; adapter = refl; verdict = tt; at_work = tt }, (record { later = refl; over = refl; finished = refl; at_work = refl }, (record { number = refl; wished = refl; service = refl; talk = refl; drive = refl; adapter = (refl, refl); verdict = refl; at_work = tt }, (record { number = refl; wished = refl; service = refl; talk = refl; drive = tt; adapter = refl; verdict = tt; at_work = refl }, (record { number = refl; wished = refl; service = refl; talk = refl; drive = refl; adapter = tt; verdict = tt; at_work = tt }, (record { number = refl; wished = refl; service = refl; talk = refl; drive = tt; adapter = tt; verdict = tt; at_work = tt }, (record { number = refl; wished = refl; service = refl; talk = refl; drive = refl; adapter = refl; verdict = tt; at_work = tt }, (record { number = refl; wished = refl; service = refl; talk = refl; drive = refl; adapter = (refl, refl); verdict = refl; at_work = refl }, (record { number = refl; wished = refl; service = refl; talk = refl; drive = tt; adapter = refl; verdict = tt; at_work = refl }, (record { number = refl; wished = refl; service = refl; talk = refl; drive = refl; adapter = tt; verdict = tt; at_work = tt }, (record { number = refl; wished = refl; service = refl; talk = refl; drive = tt; adapter = tt; verdict = tt; at_work = tt }, (record { number = refl; wished = refl; service = refl; talk = refl; drive = refl; adapter = refl; verdict = tt; at_work = tt }, (record { number = refl; wished = refl; service = refl; talk = refl; drive = refl; adapter = (refl, refl); verdict = refl; at_work = refl }, (record { number = refl; wished = refl; service = refl; talk = refl; drive = tt; adapter = refl; verdict = tt; at_work = refl }, (record { number = refl; wished = refl; service = refl; talk = refl; drive = refl; adapter = tt; verdict = tt; at_work = tt }, (record { number = refl; wished = refl; service = refl; talk = refl; drive = tt; adapter = tt; verdict = tt; at_work = tt }, (record { number = refl; wished = refl; service = refl; talk = refl; drive = refl; adapter = refl; verdict = tt; at_work = tt }, (record { number = refl; wished = refl; service = refl; talk = refl; drive = refl; adapter = (refl, refl); verdict = refl; at_work = refl }, (record { number = refl; wished = refl; service = refl; talk = refl; drive = tt; adapter = refl; verdict = tt; at_work = refl }, (record { number = refl; wished = refl; service = refl; talk = refl; drive = refl; adapter = tt; verdict = tt; at_work = tt }, (record { number = refl; wished = refl; service = refl; talk = refl; drive = tt; adapter = tt; verdict = tt; at_work = tt }, (record { number = refl; wished = refl; service = refl; talk = refl; drive = refl; adapter = tt; verdict = tt; at_work = tt }, (record { number = refl; wished = refl; service = refl; talk = refl; drive = refl; adapter = tt; verdict = tt; at_work = refl }, (record { number = refl; wished = refl; service = refl; talk = refl; drive = refl; adapter = refl; verdict = tt; at_work = refl }, (record { number = refl; wished = refl; service = refl; talk = refl; drive = refl; adapter = refl; verdict = tt; at_work = tt }, (record { number = refl; wished = refl; service = refl; talk = refl; drive = refl; adapter = (refl, refl); verdict = refl; at_work = refl }, (record { number = refl; wished = refl; service = refl; talk = refl; drive = tt; adapter = refl; verdict = tt; at_work = refl }, (record { number = refl; wished = refl; service = refl; talk = refl; drive = refl; adapter = tt; verdict = tt; at_work = tt }, (record { number = refl; wished = refl; service = refl; talk = refl; drive = tt; adapter = tt; verdict = tt; at_work = tt }, (record { number = refl; wished = refl; service = refl; talk = refl; drive = refl; adapter = refl; verdict = tt; at_work = tt }, (record { number = refl; wished = refl; service = refl; talk = refl; drive = refl; adapter = (refl, refl); verdict = refl; at_work = refl }, (record { number = refl; wished = refl; service = refl; talk = refl; drive = tt; adapter = refl; verdict = tt; at_work = refl }, (record { number = refl; wished = refl; service = refl; talk = refl; drive = tt; adapter = tt; verdict = tt; at_work = tt }, tt))))))))))))))))))))))))))))))))))))))); over = record { over = refl; answered = refl } };
}

pub empty_script_accepted : IsAccepted empty_script
empty_script_accepted = record {
  inputs = refl;
  legal = record { follows = (record { later = refl; over = refl; finished = refl; at_work = refl }, (record { number = refl; nothing = refl }, tt)); over = record { over = refl; answered = refl } };
}

pub first_read_accepted : IsAccepted first_read
first_read_accepted = record {
  inputs = refl;
  legal = record { follows = (record { later = refl; over = refl; finished = refl; at_work = refl }, (record { number = refl; wished = refl; service = refl; talk = refl; drive = refl; adapter = tt; verdict = tt; at_work = tt }, (record { later = refl; over = refl; finished = refl; at_work = refl }, (record { number = refl; wished = refl; service = refl; talk = refl; drive = refl; adapter = tt; verdict = tt; at_work = tt }, (record { number = refl; wished = refl; service = refl; talk = refl; drive = refl; adapter = refl; verdict = tt; at_work = refl }, (record { number = refl; wished = refl; service = refl; talk = refl; drive = refl; adapter = refl; verdict = tt; at_work = tt }, (record { number = refl; wished = refl; service = refl; talk = refl; drive = refl; adapter = (refl, refl); verdict = refl; at_work = refl }, (record { number = refl; wished = refl; service = refl; talk = refl; drive = tt; adapter = refl; verdict = tt; at_work = refl }, (record { number = refl; wished = refl; service = refl; talk = refl; drive = tt; adapter = tt; verdict = tt; at_work = tt }, tt))))))))); over = record { over = refl; answered = refl } };
}

pub forwarded_between_other_units_accepted : IsAccepted forwarded_between_other_units
unfolding repair.burst_byte
forwarded_between_other_units_accepted = record {
  inputs = refl;
  legal = record { follows = (record { later = refl; over = refl; finished = refl; at_work = refl }, (record { later = refl; over = refl; finished = refl; at_work = refl }, (record { number = refl; wished = refl; service = refl; talk = refl; drive = refl; adapter = tt; verdict = tt; at_work = tt }, (record { later = refl; over = refl; finished = refl; at_work = refl }, (record { number = refl; wished = refl; service = refl; talk = refl; drive = refl; adapter = tt; verdict = tt; at_work = tt }, (record { later = refl; over = refl; finished = refl; at_work = refl }, (record { number = refl; wished = refl; service = refl; talk = refl; drive = refl; adapter = tt; verdict = tt; at_work = tt }, (record { later = refl; over = refl; finished = refl; at_work = refl }, (record { number = refl; wished = refl; service = refl; talk = refl; drive = refl; adapter = refl; verdict = tt; at_work = tt }, (record { number = refl; wished = refl; service = refl; talk = refl; drive = refl; adapter = refl; verdict = tt; at_work = tt }, (record { later = refl; over = refl; finished = refl; at_work = refl }, (record { number = refl; wished = refl; service = refl; talk = refl; drive = refl; adapter = (refl, refl); verdict = refl; at_work = tt }, (record { later = refl; over = refl; finished = refl; at_work = refl }, (record { number = refl; wished = refl; service = refl; talk = refl; drive = refl; adapter = (refl, refl); verdict = refl; at_work = tt }, (record { later = refl; over = refl; finished = refl; at_work = refl }, (record { number = refl; wished = refl; service = refl; talk = refl; drive = refl; adapter = tt; verdict = tt; at_work = tt }, (record { later = refl; over = refl; finished = refl; at_work = refl }, (record { number = refl; wished = refl; service = refl; talk = refl; drive = tt; adapter = refl; verdict = tt; at_work = tt }, (record { number = refl; wished = refl; service = refl; talk = refl; drive = refl; adapter = tt; verdict = tt; at_work = tt }, (record { number = refl; wished = refl; service = refl; talk = refl; drive = refl; adapter = refl; verdict = tt; at_work = tt }, (record { number = refl; wished = refl; service = refl; talk = refl; drive = refl; adapter = refl; verdict = tt; at_work = tt }, (record { later = refl; over = refl; finished = refl; at_work = refl }, (record { number = refl; wished = refl; service = refl; talk = refl; drive = refl; adapter = (refl, refl); verdict = refl; at_work = tt }, (record { later = refl; over = refl; finished = refl; at_work = refl }, (record { number = refl; wished = refl; service = refl; talk = refl; drive = tt; adapter = refl; verdict = tt; at_work = tt }, (record { number = refl; wished = refl; service = refl; talk = refl; drive = refl; adapter = refl; verdict = tt; at_work = tt }, (record { later = refl; over = refl; finished = refl; at_work = refl }, (record { number = refl; wished = refl; service = refl; talk = refl; drive = refl; adapter = (refl, refl); verdict = refl; at_work = tt }, (record { number = refl; wished = refl; service = refl; talk = refl; drive = tt; adapter = refl; verdict = tt; at_work = refl }, (record { number = refl; wished = refl; service = refl; talk = refl; drive = refl; adapter = tt; verdict = tt; at_work = tt }, (record { number = refl; wished = refl; service = refl; talk = refl; drive = refl; adapter = refl; verdict = tt; at_work = tt }, (record { number = refl; wished = refl; service = refl; talk = refl; drive = refl; adapter = (refl, refl); verdict = burst_9_1; at_work = refl }, (record { number = refl; wished = refl; service = refl; talk = refl; drive = tt; adapter = refl; verdict = tt; at_work = refl }, (record { number = refl; wished = refl; service = refl; talk = refl; drive = refl; adapter = tt; verdict = tt; at_work = tt }, (record { number = refl; wished = refl; service = refl; talk = refl; drive = refl; adapter = refl; verdict = tt; at_work = tt }, (record { number = refl; wished = refl; service = refl; talk = refl; drive = refl; adapter = (refl, refl); verdict = refl; at_work = refl }, (record { number = refl; wished = refl; service = refl; talk = refl; drive = tt; adapter = refl; verdict = tt; at_work = refl }, (record { number = refl; wished = refl; service = refl; talk = refl; drive = tt; adapter = tt; verdict = tt; at_work = tt }, (record { number = refl; wished = refl; service = refl; talk = refl; drive = refl; adapter = refl; verdict = tt; at_work = tt }, (record { number = refl; wished = refl; service = refl; talk = refl; drive = refl; adapter = (refl, refl); verdict = refl; at_work = refl }, (record { number = refl; wished = refl; service = refl; talk = refl; drive = tt; adapter = refl; verdict = tt; at_work = refl }, (record { number = refl; wished = refl; service = refl; talk = refl; drive = tt; adapter = tt; verdict = tt; at_work = tt }, tt)))))))))))))))))))))))))))))))))))))))))); over = record { over = refl; answered = refl } };
}

pub forwarded_read_accepted : IsAccepted forwarded_read
forwarded_read_accepted = record {
  inputs = refl;
  legal = record { follows = (record { later = refl; over = refl; finished = refl; at_work = refl }, (record { number = refl; wished = refl; service = refl; talk = refl; drive = refl; adapter = tt; verdict = tt; at_work = tt }, (record { later = refl; over = refl; finished = refl; at_work = refl }, (record { number = refl; wished = refl; service = refl; talk = refl; drive = refl; adapter = tt; verdict = tt; at_work = tt }, (record { number = refl; wished = refl; service = refl; talk = refl; drive = refl; adapter = refl; verdict = tt; at_work = refl }, (record { number = refl; wished = refl; service = refl; talk = refl; drive = refl; adapter = refl; verdict = tt; at_work = tt }, (record { number = refl; wished = refl; service = refl; talk = refl; drive = refl; adapter = (refl, refl); verdict = refl; at_work = refl }, (record { number = refl; wished = refl; service = refl; talk = refl; drive = refl; adapter = (refl, refl); verdict = refl; at_work = refl }, (record { number = refl; wished = refl; service = refl; talk = refl; drive = refl; adapter = (refl, refl); verdict = refl; at_work = refl }, (record { number = refl; wished = refl; service = refl; talk = refl; drive = tt; adapter = refl; verdict = tt; at_work = refl }, (record { number = refl; wished = refl; service = refl; talk = refl; drive = refl; adapter = tt; verdict = tt; at_work = tt }, (record { number = refl; wished = refl; service = refl; talk = refl; drive = refl; adapter = refl; verdict = tt; at_work = tt }, (record { number = refl; wished = refl; service = refl; talk = refl; drive = refl; adapter = (refl, refl); verdict = refl; at_work = refl }, (record { number = refl; wished = refl; service = refl; talk = refl; drive = tt; adapter = refl; verdict = tt; at_work = refl }, (record { number = refl; wished = refl; service = refl; talk = refl; drive = refl; adapter = refl; verdict = tt; at_work = tt }, (record { number = refl; wished = refl; service = refl; talk = refl; drive = refl; adapter = (refl, refl); verdict = refl; at_work = refl }, (record { number = refl; wished = refl; service = refl; talk = refl; drive = refl; adapter = (refl, refl); verdict = refl; at_work = refl }, (record { number = refl; wished = refl; service = refl; talk = refl; drive = tt; adapter = refl; verdict = tt; at_work = refl }, (record { number = refl; wished = refl; service = refl; talk = refl; drive = tt; adapter = tt; verdict = tt; at_work = tt }, tt))))))))))))))))))); over = record { over = refl; answered = refl } };
}

pub frames_run_out_accepted : IsAccepted frames_run_out
frames_run_out_accepted = record {
  inputs = refl;
  legal = record { follows = (record { later = refl; over = refl; finished = refl; at_work = refl }, (record { number = refl; same_unit = refl; same_id = refl; answered = refl }, (record { later = refl; over = refl; finished = refl; at_work = refl }, (record { number = refl; wished = refl; service = refl; talk = refl; drive = refl; adapter = refl; verdict = tt; at_work = tt }, (record { later = refl; over = refl; finished = refl; at_work = refl }, (record { number = refl; wished = refl; service = refl; talk = refl; drive = refl; adapter = (refl, refl); verdict = refl; at_work = tt }, (record { number = refl; wished = refl; service = refl; talk = refl; drive = tt; adapter = refl; verdict = tt; at_work = refl }, (record { number = refl; wished = refl; service = refl; talk = refl; drive = tt; adapter = tt; verdict = tt; at_work = tt }, tt)))))))); over = record { over = refl; answered = refl } };
}

pub last_data_block_accepted : IsAccepted last_data_block
last_data_block_accepted = record {
  inputs = refl;
  legal = record { follows = (record { later = refl; over = refl; finished = refl; at_work = refl }, (record { number = refl; wished = refl; service = refl; talk = refl; drive = refl; adapter = tt; verdict = tt; at_work = tt }, (record { later = refl; over = refl; finished = refl; at_work = refl }, (record { later = refl; over = refl; finished = refl; at_work = refl }, (record { number = refl; wished = refl; service = refl; talk = refl; drive = refl; adapter = tt; verdict = tt; at_work = tt }, (record { number = refl; wished = refl; service = refl; talk = refl; drive = refl; adapter = refl; verdict = tt; at_work = refl }, (record { number = refl; wished = refl; service = refl; talk = refl; drive = refl; adapter = refl; verdict = tt; at_work = tt }, (record { number = refl; wished = refl; service = refl; talk = refl; drive = refl; adapter = (refl, refl); verdict = refl; at_work = refl }, (record { number = refl; wished = refl; service = refl; talk = refl; drive = tt; adapter = refl; verdict = tt; at_work = refl }, (record { number = refl; wished = refl; service = refl; talk = refl; drive = tt; adapter = tt; verdict = tt; at_work = tt }, (record { number = refl; wished = refl; service = refl; talk = refl; drive = refl; adapter = tt; verdict = tt; at_work = tt }, (record { number = refl; wished = refl; service = refl; talk = refl; drive = refl; adapter = tt; verdict = tt; at_work = refl }, (record { number = refl; wished = refl; service = refl; talk = refl; drive = refl; adapter = refl; verdict = tt; at_work = refl }, (record { number = refl; wished = refl; service = refl; talk = refl; drive = refl; adapter = refl; verdict = tt; at_work = tt }, (record { number = refl; wished = refl; service = refl; talk = refl; drive = refl; adapter = (refl, refl); verdict = refl; at_work = refl }, (record { number = refl; wished = refl; service = refl; talk = refl; drive = tt; adapter = refl; verdict = tt; at_work = refl }, (record { number = refl; wished = refl; service = refl; talk = refl; drive = tt; adapter = tt; verdict = tt; at_work = tt }, tt))))))))))))))))); over = record { over = refl; answered = refl } };
}

pub locked_accepted : IsAccepted locked
locked_accepted = record {
  inputs = refl;
  legal = record { follows = (record { later = refl; over = refl; finished = refl; at_work = refl }, (record { later = refl; over = refl; finished = refl; at_work = refl }, (record { number = refl; wished = refl; service = refl; talk = refl; drive = tt; adapter = tt; verdict = tt; at_work = tt }, (record { later = refl; over = refl; finished = refl; at_work = refl }, (record { later = refl; over = refl; finished = refl; at_work = refl }, (record { number = refl; wished = refl; service = refl; talk = refl; drive = refl; adapter = refl; verdict = tt; at_work = tt }, (record { later = refl; over = refl; finished = refl; at_work = refl }, (record { number = refl; wished = refl; service = refl; talk = refl; drive = refl; adapter = (refl, refl); verdict = refl; at_work = tt }, (record { number = refl; wished = refl; service = refl; talk = refl; drive = tt; adapter = refl; verdict = tt; at_work = refl }, (record { number = refl; wished = refl; service = refl; talk = refl; drive = tt; adapter = tt; verdict = tt; at_work = tt }, tt)))))))))); over = record { over = refl; answered = refl } };
}

pub marked_replacement_accepted : IsAccepted marked_replacement
marked_replacement_accepted = record {
  inputs = refl;
  legal = record { follows = (record { later = refl; over = refl; finished = refl; at_work = refl }, (record { number = refl; wished = refl; service = refl; talk = refl; drive = refl; adapter = tt; verdict = tt; at_work = tt }, (record { later = refl; over = refl; finished = refl; at_work = refl }, (record { number = refl; wished = refl; service = refl; talk = refl; drive = refl; adapter = tt; verdict = tt; at_work = tt }, (record { number = refl; wished = refl; service = refl; talk = refl; drive = refl; adapter = refl; verdict = tt; at_work = refl }, (record { number = refl; wished = refl; service = refl; talk = refl; drive = refl; adapter = refl; verdict = tt; at_work = tt }, (record { number = refl; wished = refl; service = refl; talk = refl; drive = refl; adapter = (refl, refl); verdict = refl; at_work = refl }, (record { number = refl; wished = refl; service = refl; talk = refl; drive = refl; adapter = (refl, refl); verdict = refl; at_work = refl }, (record { number = refl; wished = refl; service = refl; talk = refl; drive = refl; adapter = (refl, refl); verdict = refl; at_work = refl }, (record { number = refl; wished = refl; service = refl; talk = refl; drive = tt; adapter = refl; verdict = tt; at_work = refl }, (record { number = refl; wished = refl; service = refl; talk = refl; drive = refl; adapter = tt; verdict = tt; at_work = tt }, (record { number = refl; wished = refl; service = refl; talk = refl; drive = refl; adapter = refl; verdict = tt; at_work = tt }, (record { number = refl; wished = refl; service = refl; talk = refl; drive = refl; adapter = (refl, refl); verdict = refl; at_work = refl }, (record { number = refl; wished = refl; service = refl; talk = refl; drive = tt; adapter = refl; verdict = tt; at_work = refl }, (record { number = refl; wished = refl; service = refl; talk = refl; drive = refl; adapter = tt; verdict = tt; at_work = tt }, (record { number = refl; wished = refl; service = refl; talk = refl; drive = tt; adapter = tt; verdict = tt; at_work = tt }, tt)))))))))))))))); over = record { over = refl; answered = refl } };
}

pub near_enough_accepted : IsAccepted near_enough
near_enough_accepted = record {
  inputs = refl;
  legal = record { follows = (record { later = refl; over = refl; finished = refl; at_work = refl }, (record { number = refl; wished = refl; service = refl; talk = refl; drive = refl; adapter = refl; verdict = tt; at_work = tt }, (record { later = refl; over = refl; finished = refl; at_work = refl }, (record { number = refl; wished = refl; service = refl; talk = refl; drive = refl; adapter = (refl, refl); verdict = refl; at_work = tt }, (record { later = refl; over = refl; finished = refl; at_work = refl }, (record { number = refl; wished = refl; service = refl; talk = refl; drive = tt; adapter = refl; verdict = tt; at_work = tt }, (record { number = refl; wished = refl; service = refl; talk = refl; drive = tt; adapter = tt; verdict = tt; at_work = tt }, (record { later = refl; over = refl; finished = refl; at_work = refl }, (record { number = refl; nothing = refl }, tt))))))))); over = record { over = refl; answered = refl } };
}

pub offline_accepted : IsAccepted offline
offline_accepted = record {
  inputs = refl;
  legal = record { follows = (record { later = refl; over = refl; finished = refl; at_work = refl }, (record { number = refl; wished = refl; service = refl; talk = refl; drive = refl; adapter = tt; verdict = tt; at_work = tt }, (record { later = refl; over = refl; finished = refl; at_work = refl }, (record { later = refl; over = refl; finished = refl; at_work = refl }, (record { later = refl; over = refl; finished = refl; at_work = refl }, (record { number = refl; wished = refl; service = refl; talk = refl; drive = refl; adapter = tt; verdict = tt; at_work = tt }, (record { later = refl; over = refl; finished = refl; at_work = refl }, (record { number = refl; wished = refl; service = refl; talk = refl; drive = refl; adapter = refl; verdict = tt; at_work = tt }, (record { number = refl; wished = refl; service = refl; talk = refl; drive = tt; adapter = tt; verdict = tt; at_work = tt }, (record { number = refl; wished = refl; service = refl; talk = refl; drive = tt; adapter = tt; verdict = tt; at_work = tt }, (record { later = refl; over = refl; finished = refl; at_work = refl }, (record { later = refl; over = refl; finished = refl; at_work = refl }, (record { number = refl; wished = refl; service = refl; talk = refl; drive = refl; adapter = tt; verdict = tt; at_work = tt }, (record { number = refl; wished = refl; service = refl; talk = refl; drive = refl; adapter = tt; verdict = tt; at_work = tt }, (record { later = refl; over = refl; finished = refl; at_work = refl }, (record { number = refl; wished = refl; service = refl; talk = refl; drive = refl; adapter = tt; verdict = tt; at_work = tt }, (record { number = refl; wished = refl; service = refl; talk = refl; drive = refl; adapter = refl; verdict = tt; at_work = refl }, (record { number = refl; wished = refl; service = refl; talk = refl; drive = refl; adapter = refl; verdict = tt; at_work = tt }, (record { number = refl; wished = refl; service = refl; talk = refl; drive = refl; adapter = (refl, refl); verdict = refl; at_work = refl }, (record { number = refl; wished = refl; service = refl; talk = refl; drive = tt; adapter = refl; verdict = tt; at_work = refl }, (record { number = refl; wished = refl; service = refl; talk = refl; drive = tt; adapter = tt; verdict = tt; at_work = tt }, tt))))))))))))))))))))); over = record { over = refl; answered = refl } };
}

pub offline_behind_a_burst_accepted : IsAccepted offline_behind_a_burst
unfolding repair.burst_byte
offline_behind_a_burst_accepted = record {
  inputs = refl;
  legal = record { follows = (record { later = refl; over = refl; finished = refl; at_work = refl }, (record { later = refl; over = refl; finished = refl; at_work = refl }, (record { number = refl; wished = refl; service = refl; talk = refl; drive = refl; adapter = refl; verdict = tt; at_work = tt }, (record { later = refl; over = refl; finished = refl; at_work = refl }, (record { number = refl; wished = refl; service = refl; talk = refl; drive = refl; adapter = (refl, refl); verdict = burst_4091_1025; at_work = tt }, (record { later = refl; over = refl; finished = refl; at_work = refl }, (record { later = refl; over = refl; finished = refl; at_work = refl }, (record { number = refl; wished = refl; service = refl; talk = refl; drive = tt; adapter = refl; verdict = tt; at_work = tt }, (record { number = refl; wished = refl; service = refl; talk = refl; drive = refl; adapter = tt; verdict = tt; at_work = tt }, (record { number = refl; wished = refl; service = refl; talk = refl; drive = tt; adapter = tt; verdict = tt; at_work = tt }, (record { later = refl; over = refl; finished = refl; at_work = refl }, (record { number = refl; nothing = refl }, tt)))))))))))); over = record { over = refl; answered = refl } };
}

pub offline_in_a_transfer_accepted : IsAccepted offline_in_a_transfer
offline_in_a_transfer_accepted = record {
  inputs = refl;
  legal = record { follows = (record { later = refl; over = refl; finished = refl; at_work = refl }, (record { number = refl; wished = refl; service = refl; talk = refl; drive = refl; adapter = refl; verdict = tt; at_work = tt }, (record { later = refl; over = refl; finished = refl; at_work = refl }, (record { later = refl; over = refl; finished = refl; at_work = refl }, (record { later = refl; over = refl; finished = refl; at_work = refl }, (record { number = refl; wished = refl; service = refl; talk = refl; drive = refl; adapter = (refl, refl); verdict = refl; at_work = tt }, (record { later = refl; over = refl; finished = refl; at_work = refl }, (record { later = refl; over = refl; finished = refl; at_work = refl }, (record { number = refl; wished = refl; service = refl; talk = refl; drive = refl; adapter = (refl, refl); verdict = refl; at_work = tt }, (record { later = refl; over = refl; finished = refl; at_work = refl }, (record { number = refl; wished = refl; service = refl; talk = refl; drive = tt; adapter = refl; verdict = tt; at_work = tt }, (record { number = refl; wished = refl; service = refl; talk = refl; drive = refl; adapter = tt; verdict = tt; at_work = tt }, (record { number = refl; wished = refl; service = refl; talk = refl; drive = tt; adapter = tt; verdict = tt; at_work = tt }, (record { number = refl; wished = refl; service = refl; talk = refl; drive = tt; adapter = tt; verdict = tt; at_work = tt }, (record { number = refl; wished = refl; service = refl; talk = refl; drive = refl; adapter = refl; verdict = tt; at_work = tt }, (record { later = refl; over = refl; finished = refl; at_work = refl }, (record { number = refl; wished = refl; service = refl; talk = refl; drive = refl; adapter = (refl, refl); verdict = refl; at_work = tt }, (record { number = refl; wished = refl; service = refl; talk = refl; drive = tt; adapter = refl; verdict = tt; at_work = refl }, (record { number = refl; wished = refl; service = refl; talk = refl; drive = tt; adapter = tt; verdict = tt; at_work = tt }, tt))))))))))))))))))); over = record { over = refl; answered = refl } };
}
