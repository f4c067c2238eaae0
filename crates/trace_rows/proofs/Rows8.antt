-- Each moment of the rows may come, by computation; docs/trace-rows/rows.py writes this.
use Rattle.std.proofs.Common.{refl}
use Rattle.trace_rows.specs.Accepted.{IsAccepted}
use Rattle.trace_rows.specs.Rows8.{write_by_events, written_as_far_as_done, written_short}

pub write_by_events_accepted : IsAccepted write_by_events
write_by_events_accepted = record {
  inputs = refl;
  legal = record { follows = (record { later = refl; over = refl; finished = refl; at_work = refl }, (record { number = refl; wished = refl; service = refl; talk = refl; drive = refl; adapter = tt; verdict = tt; at_work = tt }, (record { later = refl; over = refl; finished = refl; at_work = refl }, (record { number = refl; wished = refl; service = refl; talk = refl; drive = refl; adapter = tt; verdict = tt; at_work = tt }, (record { later = refl; over = refl; finished = refl; at_work = refl }, (record { number = refl; wished = refl; service = refl; talk = refl; drive = refl; adapter = refl; verdict = tt; at_work = tt }, (record { number = refl; wished = refl; service = refl; talk = refl; drive = refl; adapter = refl; verdict = tt; at_work = tt }, (record { later = refl; over = refl; finished = refl; at_work = refl }, (record { number = refl; wished = refl; service = refl; talk = refl; drive = refl; adapter = (refl, refl); verdict = refl; at_work = tt }, (record { later = refl; over = refl; finished = refl; at_work = refl }, (record { number = refl; wished = refl; service = refl; talk = refl; drive = refl; adapter = (refl, refl); verdict = refl; at_work = tt }, (record { later = refl; over = refl; finished = refl; at_work = refl }, (record { number = refl; wished = refl; service = refl; talk = refl; drive = tt; adapter = refl; verdict = tt; at_work = tt }, (record { number = refl; wished = refl; service = refl; talk = refl; drive = tt; adapter = tt; verdict = tt; at_work = tt }, (record { later = refl; over = refl; finished = refl; at_work = refl }, (record { number = refl; wished = refl; service = refl; talk = refl; drive = refl; adapter = tt; verdict = tt; at_work = tt }, (record { later = refl; over = refl; finished = refl; at_work = refl }, (record { number = refl; wished = refl; service = refl; talk = refl; drive = refl; adapter = tt; verdict = tt; at_work = tt }, (record { number = refl; wished = refl; service = refl; talk = refl; drive = refl; adapter = refl; verdict = tt; at_work = refl }, (record { number = refl; wished = refl; service = refl; talk = refl; drive = refl; adapter = refl; verdict = tt; at_work = tt }, (record { number = refl; wished = refl; service = refl; talk = refl; drive = refl; adapter = (refl, refl); verdict = refl; at_work = refl }, (record { number = refl; wished = refl; service = refl; talk = refl; drive = refl; adapter = (refl, refl); verdict = refl; at_work = refl }, (record { number = refl; wished = refl; service = refl; talk = refl; drive = tt; adapter = refl; verdict = tt; at_work = refl }, (record { number = refl; wished = refl; service = refl; talk = refl; drive = tt; adapter = tt; verdict = tt; at_work = tt }, tt)))))))))))))))))))))))); over = record { over = refl; answered = refl } };
}

pub written_as_far_as_done_accepted : IsAccepted written_as_far_as_done
written_as_far_as_done_accepted = record {
  inputs = refl;
  legal = record { follows = (record { later = refl; over = refl; finished = refl; at_work = refl }, (record { number = refl; wished = refl; service = refl; talk = refl; drive = refl; adapter = refl; verdict = tt; at_work = tt }, (record { later = refl; over = refl; finished = refl; at_work = refl }, (record { number = refl; wished = refl; service = refl; talk = refl; drive = refl; adapter = (refl, refl); verdict = refl; at_work = tt }, (record { later = refl; over = refl; finished = refl; at_work = refl }, (record { number = refl; wished = refl; service = refl; talk = refl; drive = refl; adapter = (refl, refl); verdict = refl; at_work = tt }, (record { later = refl; over = refl; finished = refl; at_work = refl }, (record { later = refl; over = refl; finished = refl; at_work = refl }, (record { number = refl; wished = refl; service = refl; talk = refl; drive = refl; adapter = (refl, refl); verdict = refl; at_work = tt }, (record { number = refl; wished = refl; service = refl; talk = refl; drive = tt; adapter = refl; verdict = tt; at_work = refl }, (record { number = refl; wished = refl; service = refl; talk = refl; drive = refl; adapter = tt; verdict = tt; at_work = tt }, (record { number = refl; wished = refl; service = refl; talk = refl; drive = tt; adapter = tt; verdict = tt; at_work = tt }, (record { number = refl; wished = refl; service = refl; talk = refl; drive = refl; adapter = refl; verdict = tt; at_work = tt }, (record { number = refl; wished = refl; service = refl; talk = refl; drive = refl; adapter = (refl, refl); verdict = refl; at_work = refl }, (record { number = refl; wished = refl; service = refl; talk = refl; drive = tt; adapter = refl; verdict = tt; at_work = refl }, (record { number = refl; wished = refl; service = refl; talk = refl; drive = refl; adapter = tt; verdict = tt; at_work = tt }, (record { number = refl; wished = refl; service = refl; talk = refl; drive = tt; adapter = tt; verdict = tt; at_work = tt }, (record { number = refl; wished = refl; service = refl; talk = refl; drive = refl; adapter = refl; verdict = tt; at_work = tt }, (record { number = refl; wished = refl; service = refl; talk = refl; drive = refl; adapter = (refl, refl); verdict = refl; at_work = refl }, (record { number = refl; wished = refl; service = refl; talk = refl; drive = tt; adapter = refl; verdict = tt; at_work = refl }, (record { number = refl; wished = refl; service = refl; talk = refl; drive = refl; adapter = tt; verdict = tt; at_work = tt }, (record { number = refl; wished = refl; service = refl; talk = refl; drive = tt; adapter = tt; verdict = tt; at_work = tt }, (record { number = refl; wished = refl; service = refl; talk = refl; drive = refl; adapter = refl; verdict = tt; at_work = tt }, (record { number = refl; wished = refl; service = refl; talk = refl; drive = refl; adapter = (refl, refl); verdict = refl; at_work = refl }, (record { number = refl; wished = refl; service = refl; talk = refl; drive = tt; adapter = refl; verdict = tt; at_work = refl }, (record { number = refl; wished = refl; service = refl; talk = refl; drive = refl; adapter = tt; verdict = tt; at_work = tt }, (record { number = refl; wished = refl; service = refl; talk = refl; drive = tt; adapter = tt; verdict = tt; at_work = tt }, (record { number = refl; wished = refl; service = refl; talk = refl; drive = refl; adapter = tt; verdict = tt; at_work = tt }, (record { number = refl; wished = refl; service = refl; talk = refl; drive = refl; adapter = tt; verdict = tt; at_work = refl }, (record { number = refl; wished = refl; service = refl; talk = refl; drive = refl; adapter = refl; verdict = tt; at_work = refl }, (record { number = refl; wished = refl; service = refl; talk = refl; drive = refl; adapter = refl; verdict = tt; at_work = tt }, (record { number = refl; wished = refl; service = refl; talk = refl; drive = refl; adapter = (refl, refl); verdict = refl; at_work = refl }, (record { number = refl; wished = refl; service = refl; talk = refl; drive = tt; adapter = refl; verdict = tt; at_work = refl }, (record { number = refl; wished = refl; service = refl; talk = refl; drive = refl; adapter = tt; verdict = tt; at_work = tt }, (record { number = refl; wished = refl; service = refl; talk = refl; drive = tt; adapter = tt; verdict = tt; at_work = tt }, (record { number = refl; wished = refl; service = refl; talk = refl; drive = refl; adapter = refl; verdict = tt; at_work = tt }, (record { number = refl; wished = refl; service = refl; talk = refl; drive = refl; adapter = (refl, refl); verdict = refl; at_work = refl }, (record { number = refl; wished = refl; service = refl; talk = refl; drive = refl; adapter = (refl, refl); verdict = refl; at_work = refl }, (record { number = refl; wished = refl; service = refl; talk = refl; drive = tt; adapter = refl; verdict = tt; at_work = refl }, (record { number = refl; wished = refl; service = refl; talk = refl; drive = tt; adapter = tt; verdict = tt; at_work = tt }, (record { later = refl; over = refl; finished = refl; at_work = refl }, (record { number = refl; wished = refl; service = refl; talk = refl; drive = refl; adapter = tt; verdict = tt; at_work = tt }, (record { later = refl; over = refl; finished = refl; at_work = refl }, (record { number = refl; wished = refl; service = refl; talk = refl; drive = refl; adapter = tt; verdict = tt; at_work = tt }, (record { number = refl; wished = refl; service = refl; talk = refl; drive = refl; adapter = refl; verdict = tt; at_work = refl }, (record { number = refl; wished = refl; service = refl; talk = refl; drive = refl; adapter = refl; verdict = tt; at_work = tt }, (record { number = refl; wished = refl; service = refl; talk = refl; drive = refl; adapter = (refl, refl); verdict = refl; at_work = refl }, (record { number = refl; wished = refl; service = refl; talk = refl; drive = refl; adapter = (refl, refl); verdict = refl; at_work = refl }, (record { number = refl; wished = refl; service = refl; talk = refl; drive = refl; adapter = (refl, refl); verdict = refl; at_work = refl }, (record { number = refl; wished = refl; service = refl; talk = refl; drive = refl; adapter = (refl, refl); verdict = refl; at_work = refl }, (record { number = refl; wished = refl; service = refl; talk = refl; drive = tt; adapter = refl; verdict = tt; at_work = refl }, (record { number = refl; wished = refl; service = refl; talk = refl; drive = tt; adapter = tt; verdict = tt; at_work = tt }, tt)))))))))))))))))))))))))))))))))))))))))))))))))))); over = record { over = refl; answered = refl } };
}

pub written_short_accepted : IsAccepted written_short
written_short_accepted = record {
  inputs = refl;
  legal = record { follows = (record { later = refl; over = refl; finished = refl; at_work = refl }, (record { number = refl; wished = refl; service = refl; talk = refl; drive = refl; adapter = refl; verdict = tt; at_work = tt }, (record { later = refl; over = refl; finished = refl; at_work = refl }, (record { later = refl; over = refl; finished = refl; at_work = refl }, (record { number = refl; wished = refl; service = refl; talk = refl; drive = refl; adapter = (refl, refl); verdict = refl; at_work = tt }, (record { number = refl; wished = refl; service = refl; talk = refl; drive = refl; adapter = (refl, refl); verdict = refl; at_work = refl }, (record { number = refl; wished = refl; service = refl; talk = refl; drive = tt; adapter = refl; verdict = tt; at_work = refl }, (record { number = refl; wished = refl; service = refl; talk = refl; drive = tt; adapter = tt; verdict = tt; at_work = tt }, (record { number = refl; wished = refl; service = refl; talk = refl; drive = refl; adapter = tt; verdict = tt; at_work = tt }, (record { number = refl; wished = refl; service = refl; talk = refl; drive = refl; adapter = tt; verdict = tt; at_work = refl }, (record { number = refl; wished = refl; service = refl; talk = refl; drive = refl; adapter = refl; verdict = tt; at_work = refl }, (record { number = refl; wished = refl; service = refl; talk = refl; drive = refl; adapter = refl; verdict = tt; at_work = tt }, (record { number = refl; wished = refl; service = refl; talk = refl; drive = refl; adapter = (refl, refl); verdict = refl; at_work = refl }, (record { number = refl; wished = refl; service = refl; talk = refl; drive = refl; adapter = (refl, refl); verdict = refl; at_work = refl }, (record { number = refl; wished = refl; service = refl; talk = refl; drive = tt; adapter = refl; verdict = tt; at_work = refl }, (record { number = refl; wished = refl; service = refl; talk = refl; drive = tt; adapter = tt; verdict = tt; at_work = tt }, tt)))))))))))))))); over = record { over = refl; answered = refl } };
}
