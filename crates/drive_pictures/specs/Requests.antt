-- WHAT BECOMES OF A REQUEST.
use Rattle.std.specs.Prelude.{ℕ, ◌-◌, ◌==◌, nat_lt, max, Bool, true, false, not, ◌&&◌, ◌||◌, if◌then◌else◌, Option, Some, None, is_some, is_none, unwrap_or}
use Rattle.hardware_table.specs.declared.Moved.{Moved}
use Rattle.hardware_table.specs.declared.Moved.TheVariants as verdict
use Rattle.trace_lines.specs.declared.telling.Told.{Told}
use Rattle.trace_lines.specs.declared.telling.Told.TheVariants as deed
use Rattle.drive_pictures.specs.declared.drives.Drive.{Drive}
use Rattle.drive_pictures.specs.declared.requests.Outcome.{Outcome}
use Rattle.drive_pictures.specs.declared.requests.Outcome.TheVariants as outcome
use Rattle.drive_pictures.specs.declared.requests.Request.{Request}
use Rattle.drive_pictures.specs.Counts.{plus}
use Rattle.drive_pictures.specs.Marks.{mark_of, is_trouble}
use Rattle.drive_pictures.specs.Drives.{blank}
use Rattle.drive_pictures.specs.Trials.{is_at}

-- as it is asked for, at an event and a line
abbrev pub new_request : ℕ → ℕ → ℕ → ℕ → Bool → Request
new_request event line unit id write = record {
  id = id;
  unit = unit;
  write = write;
  line = line;
  cylinder = None;
  why = None;
  needed = 0;
  asked = event;
  in_hand = None;
  ended = None;
  ended_line = 0;
  rank = 0;
  turn = 0;
  times = blank;
  done = 0;
  verdict = None;
  outcome = outcome.Open;
  trouble = false;
}

-- the events that it waited: from its asking on, until it was in hand
abbrev pub queued : Request → ℕ
queued r = unwrap_or r.in_hand 0 - r.asked

-- SERVED OUT OF ORDER: not as the how many-th of its unit it joined
abbrev pub is_out_of_order : Request → Bool
is_out_of_order r = if r.turn == 0 then false else not (r.turn == r.rank)

-- in hand from its asking on, or from the end before it
abbrev pub started : ℕ → Request → Request
started free r = record r { in_hand = Some (max r.asked free) }

-- A SECTOR WAS TRIED
abbrev pub done_after : Moved → ℕ → ℕ
done_after verdict.Clean done = plus done 1
done_after (verdict.Burst at pattern) done = plus done 1
done_after v done = done

abbrev pub tried : Moved → Request → Request
tried v r = record r { done = done_after v r.done; verdict = Some v; trouble = r.trouble || is_trouble (mark_of v) }

-- what a line of the trace says of it
abbrev pub heard : Told → Request → Request
heard (deed.Transfer write block count) r = record r { write = write }
heard (deed.Sector block v) r = tried v r
heard (deed.Try block failures) r = record r { trouble = true }
heard line r = r

-- A LINE OF THE TRACE, but an end, at its drive as that was before
abbrev pub taken : ℕ → Drive → Request → Request
taken place drive r = record r {
  in_hand = if is_at drive.trial.hand place then r.in_hand else Some (max r.asked drive.queue.free);
}

abbrev pub tells : ℕ → Drive → Told → Request → Request
tells place drive line r = heard line (taken place drive r)

-- HOW IT WAS ANSWERED, as far as the trace tells
abbrev pub stopped_by : Option Moved → Drive → Request → Outcome
stopped_by (Some verdict.Marked) drive r =
    if nat_lt drive.trial.marks 2 && (drive.offline || (r.write && drive.locked))
    then outcome.Stopped
    else outcome.Unforwarded
stopped_by (Some verdict.Offline) drive r = outcome.Offline
stopped_by v drive r =
    if drive.trial.fails == 28
    then outcome.Fault
    else if drive.offline then outcome.Offline else if drive.locked then outcome.Locked else outcome.Stopped

abbrev pub answer : Drive → Request → Outcome
answer drive r =
    if nat_lt 0 drive.trial.want && (r.done == drive.trial.want) then outcome.Ok else stopped_by r.verdict drive r

abbrev pub is_ok : Outcome → Bool
is_ok outcome.Ok = true
is_ok o = false

-- AN END of one that was refused as it was submitted, or while another is in hand
abbrev pub is_refused : ℕ → Drive → Request → Bool
is_refused place drive r = is_some r.why || (is_some drive.trial.hand && not (is_at drive.trial.hand place))

abbrev pub refused : ℕ → ℕ → Request → Request
refused event line r = record r {
  in_hand = Some event;
  ended = Some event;
  ended_line = line;
  outcome = unwrap_or r.why outcome.Refused;
  trouble = true;
}

-- an end of one that was in hand
abbrev pub ended : ℕ → ℕ → Drive → Request → Request
ended event line drive r = record r {
  in_hand = if is_none drive.trial.hand then Some (max r.asked drive.queue.free) else r.in_hand;
  ended = Some event;
  ended_line = line;
  outcome = answer drive r;
  trouble = r.trouble || not (is_ok (answer drive r));
  times = drive.since;
  turn = plus drive.queue.served 1;
}

-- BEHIND THE LAST EVENT one that has not ended is open
abbrev pub in_hand_at_last : ℕ → Request → Option ℕ
in_hand_at_last events r = if is_some r.in_hand then r.in_hand else Some events

abbrev pub left : ℕ → Request → Request
left events r = record r {
  in_hand = if is_some r.ended then r.in_hand else in_hand_at_last events r;
  ended = if is_some r.ended then r.ended else Some events;
}
