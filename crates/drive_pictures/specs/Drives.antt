-- WHAT EACH MOMENT DOES TO A DRIVE.
use Rattle.std.specs.Prelude.{ℕ, ◌-◌, ◌*◌, ◌/◌, ◌==◌, nat_lt, max, Bool, true, false, ◌||◌, if◌then◌else◌, Option, Some, None}
use Rattle.pack_geometry.specs.declared.DriveKind.{DriveKind}
use Rattle.pack_geometry.specs.Geometry.{tracks_of, sectors_of}
use Rattle.drive_registers.specs.declared.OffsetCode.{OffsetCode}
use Rattle.drive_registers.specs.declared.OffsetCode.TheVariants.{Plus400, Minus400, Plus800, Minus800, Plus1200, Minus1200}
use Rattle.hardware_table.specs.declared.Moved.{Moved}
use Rattle.hardware_table.specs.declared.Moved.TheVariants as verdict
use Rattle.trace_lines.specs.declared.telling.Told.{Told}
use Rattle.trace_lines.specs.declared.telling.Told.TheVariants as deed
use Rattle.drive_pictures.specs.declared.letters.Letter.{Letter}
use Rattle.drive_pictures.specs.declared.letters.Letter.TheVariants as letter
use Rattle.drive_pictures.specs.declared.marks.Mark.{Mark}
use Rattle.drive_pictures.specs.declared.marks.Mark.TheVariants as mark
use Rattle.drive_pictures.specs.declared.arms.Arm.{Arm}
use Rattle.drive_pictures.specs.declared.drives.Seen.{Seen}
use Rattle.drive_pictures.specs.declared.drives.Times.{Times}
use Rattle.drive_pictures.specs.declared.drives.Queue.{Queue}
use Rattle.drive_pictures.specs.declared.drives.Drive.{Drive}
use Rattle.drive_pictures.specs.declared.drives.Change.{Change}
use Rattle.drive_pictures.specs.declared.drives.Change.TheVariants as change
use Rattle.drive_pictures.specs.Counts.{plus, apart}
use Rattle.drive_pictures.specs.Trials.{new_trial, in_hand, wanted, transfer_letter, verdict_trial, verdict_letter}
use Rattle.drive_pictures.specs.Marks.{later, mark_of}
use Rattle.drive_pictures.specs.Arms.{new_arm, sent, reached, paths_joined}
use Rattle.drive_pictures.specs.Cells.{new_cell, tallied}

-- BEFORE THE RUN: idle on cylinder 0, online and not locked.
abbrev pub new_seen : Seen
new_seen = record { mark = mark.Blank; signal = mark.Blank; code = 0; tried = 0 }

abbrev pub blank : Times
blank = record { way = 0; ready = 0; trans = 0 }

abbrev pub new_queue : Queue
new_queue = record { joined = 0; served = 0; waiting = 0; free = 0; last = 0; as_asked = 0 }

abbrev pub new_drive : Option DriveKind → Drive
new_drive kind = record {
  kind = kind;
  letter = letter.Idle;
  arm = new_arm;
  seen = new_seen;
  trial = new_trial;
  queue = new_queue;
  since = blank;
  all = blank;
  offline = false;
  locked = false;
  cell = new_cell;
}

-- a mark is shown unless a graver one is
abbrev pub shown : Mark → Seen → Seen
shown m seen = record seen { mark = later seen.mark m }

-- AN EVENT MORE, by the letter that stands behind it: the drive was ready, held its adapter, or was on its way
abbrev pub counted : Letter → Times → Times
counted letter.Idle times = times
counted letter.Ready times = record times { ready = plus times.ready 1 }
counted letter.Moves times = record times { trans = plus times.trans 1 }
counted letter.Retries times = record times { trans = plus times.trans 1 }
counted letter.Replaces times = record times { trans = plus times.trans 1 }
counted letter.Moved times = record times { trans = plus times.trans 1 }
counted l times = record times { way = plus times.way 1 }

-- THE LETTER of a search: on the arm's cylinder it only turns
abbrev pub going : Arm → ℕ → Letter
going arm cylinder = if cylinder == arm.cylinder then letter.Turns else letter.Seeks

abbrev pub offset_mark : OffsetCode → Mark
offset_mark Plus400 = mark.OffsetPlus
offset_mark Plus800 = mark.OffsetPlus
offset_mark Plus1200 = mark.OffsetPlus
offset_mark Minus400 = mark.OffsetMinus
offset_mark Minus800 = mark.OffsetMinus
offset_mark Minus1200 = mark.OffsetMinus

abbrev pub offset_hundreds : OffsetCode → ℕ
offset_hundreds Plus400 = 4
offset_hundreds Minus400 = 4
offset_hundreds Plus800 = 8
offset_hundreds Minus800 = 8
offset_hundreds Plus1200 = 12
offset_hundreds Minus1200 = 12

-- A SECTOR WAS TRIED. Where the drive was there, its arm is at the block's cylinder.
abbrev pub cylinder_blocks : DriveKind → ℕ
cylinder_blocks kind = tracks_of kind * sectors_of kind

abbrev pub block_arm : Option DriveKind → ℕ → Arm → Arm
block_arm None block arm = arm
block_arm (Some kind) block arm = reached (block / cylinder_blocks kind) arm

abbrev pub verdict_arm : Moved → Option DriveKind → ℕ → Arm → Arm
verdict_arm verdict.Offline kind block arm = arm
verdict_arm v kind block arm = block_arm kind block arm

-- A LINE OF THE TRACE, but an end, for the request at a place
abbrev pub said : Told → Drive → Drive
said (deed.Search cylinder sector) drive = record drive { letter = going drive.arm cylinder; arm = sent cylinder drive.arm }
said (deed.Seek cylinder) drive = record drive { letter = letter.Seeks; arm = sent cylinder drive.arm }
said deed.Recal drive = record drive { letter = letter.Recalibrates; arm = sent 0 drive.arm }
said (deed.Offset code) drive = record drive {
  letter = letter.Offsets;
  arm = sent drive.arm.cylinder drive.arm;
  seen = record (shown (offset_mark code) drive.seen) { code = offset_hundreds code };
}
said deed.Centre drive = drive
said deed.Clear drive = drive
said deed.Pack drive = record drive { seen = shown mark.Acknowledged drive.seen }
said (deed.Transfer write block count) drive = record drive {
  letter = transfer_letter drive.trial;
  arm = sent drive.arm.target drive.arm;
  trial = wanted count drive.trial;
}
said deed.Arrive drive = record drive {
  letter = letter.Arrived;
  arm = reached drive.arm.target drive.arm;
  seen = record drive.seen { signal = mark.AttentionUp };
}
said (deed.Sector block v) drive = record drive {
  letter = verdict_letter v (verdict_trial v drive.trial).left;
  arm = verdict_arm v drive.kind block drive.arm;
  seen = shown (mark_of v) drive.seen;
  trial = verdict_trial v drive.trial;
}
said deed.Intr drive = record drive { letter = letter.Ready; seen = record drive.seen { signal = mark.InterruptTaken } }
said (deed.Try block failures) drive = record drive {
  trial = record drive.trial { fails = failures };
  seen = record drive.seen { tried = failures; signal = mark.TryFailed };
}
said deed.Attn drive = record drive { letter = letter.Ready; seen = record drive.seen { signal = mark.AttentionTaken } }
said deed.End drive = drive

abbrev pub tells : ℕ → Told → Drive → Drive
tells place line drive = said line (record drive { trial = in_hand place drive.trial })

-- A LINE OF THE SCRIPT changes the drive's condition, and is shown
abbrev pub change_mark : Change → Mark
change_mark change.Noise = mark.NoiseArmed
change_mark change.Fault = mark.FaultArmed
change_mark change.Turn = mark.Turned
change_mark change.Offline = mark.Offline
change_mark change.Online = mark.Online
change_mark change.Lock = mark.Locked
change_mark change.Unlock = mark.Unlocked

abbrev pub offline_after : Change → Bool → Bool
offline_after change.Offline offline = true
offline_after change.Online offline = false
offline_after c offline = offline

abbrev pub locked_after : Change → Bool → Bool
locked_after change.Lock locked = true
locked_after change.Unlock locked = false
locked_after c locked = locked

abbrev pub changed : Change → Drive → Drive
changed c drive = record drive {
  seen = shown (change_mark c) drive.seen;
  offline = offline_after c drive.offline;
  locked = locked_after c drive.locked;
}

-- A REQUEST THAT NO SCRIPT ASKED FOR is first seen where a line of the trace names it
abbrev pub met : Drive → Drive
met drive = record drive {
  queue = record drive.queue { joined = plus drive.queue.joined 1; waiting = plus drive.queue.waiting 1 };
}

-- A REQUEST JOINS, at its cylinder. An idle drive waits from then on.
abbrev pub asked_letter : Letter → Letter
asked_letter letter.Idle = letter.Ready
asked_letter l = l

abbrev pub joined : ℕ → Drive → Drive
joined cylinder drive = record (met drive) {
  letter = asked_letter drive.letter;
  queue = record (met drive).queue { as_asked = plus drive.queue.as_asked (apart cylinder drive.queue.last); last = cylinder };
}

-- a mark
abbrev pub marked : Mark → Drive → Drive
marked m drive = record drive { seen = shown m drive.seen }

-- A REQUEST IS ANSWERED at an event: the drive's next is in hand from here on
abbrev pub letter_behind : ℕ → Letter
letter_behind waiting = if nat_lt 0 waiting then letter.Ready else letter.Idle

abbrev pub freed : ℕ → Drive → Drive
freed event drive = record drive {
  letter = letter_behind (drive.queue.waiting - 1);
  trial = record new_trial { left = drive.trial.left };
  queue = record drive.queue { served = plus drive.queue.served 1; waiting = drive.queue.waiting - 1; free = event };
  since = blank;
}

-- AN EVENT ENDS, by the letter that stands behind it, and is seen in its column; and another begins, in which nothing is seen yet
abbrev pub event_counted : Drive → Drive
event_counted drive = record drive {
  since = counted drive.letter drive.since;
  all = counted drive.letter drive.all;
  cell = record {
    tally = tallied drive.letter drive.cell.tally;
    path = paths_joined drive.cell.path drive.arm.path;
    cylinder = drive.arm.cylinder;
    waiting = max drive.cell.waiting drive.queue.waiting;
    mark = later drive.cell.mark drive.seen.mark;
    signal = later drive.cell.signal drive.seen.signal;
    code = max drive.cell.code drive.seen.code;
    tried = max drive.cell.tried drive.seen.tried;
    offline = drive.cell.offline || drive.offline;
    locked = drive.cell.locked || drive.locked;
  };
}

abbrev pub unseen : Drive → Drive
unseen drive = record drive { arm = record drive.arm { path = None }; seen = new_seen }

-- another column begins
abbrev pub cleared : Drive → Drive
cleared drive = record drive { cell = new_cell }
