-- THE FOLD: what is known of a run behind each moment.
use Rattle.std.specs.Prelude.{ℕ, ◌+◌, ◌-◌, ◌*◌, ◌/◌, ◌<◌, ◌==◌, nat_lt, Bool, true, false, ◌&&◌, ◌||◌, if◌then◌else◌, List, [], ◌∷◌, ◌++◌, length, map, replicate, slice_set, fold, get_or, Option, Some, None, Result, Ok, Err}
use Rattle.pack_geometry.specs.declared.DriveKind.{DriveKind}
use Rattle.partitions.specs.declared.Admission.{Admission}
use Rattle.partitions.specs.declared.Admission.TheVariants as meets
use Rattle.partitions.specs.Partitions.{admission}
use Rattle.drive_pictures.specs.Request.{Request as Asked}
use Rattle.drive_pictures.specs.Told.{Told as Deed}
use Rattle.drive_pictures.specs.Told.TheVariants as deed
use Rattle.drive_pictures.specs.declared.drives.Drive.{Drive}
use Rattle.drive_pictures.specs.declared.marks.Mark.TheVariants as mark
use Rattle.drive_pictures.specs.declared.marks.Mark.{Mark}
use Rattle.drive_pictures.specs.declared.moments.Moment.{Moment}
use Rattle.drive_pictures.specs.declared.moments.Moment.TheVariants.{Played, Told, Idle}
use Rattle.drive_pictures.specs.declared.moments.Play.{Play}
use Rattle.drive_pictures.specs.declared.moments.Play.TheVariants.{Ask, Other}
use Rattle.drive_pictures.specs.declared.moments.Play.TheVariants as play
use Rattle.drive_pictures.specs.declared.requests.Outcome.{Outcome}
use Rattle.drive_pictures.specs.declared.requests.Outcome.TheVariants as outcome
use Rattle.drive_pictures.specs.declared.requests.Request.{Request}
use Rattle.run_picture.specs.declared.acts.Glance.{Glance}
use Rattle.run_picture.specs.declared.columns.Window.{Window}
use Rattle.run_picture.specs.declared.columns.Head.{Head}
use Rattle.run_picture.specs.declared.columns.Column.{Column}
use Rattle.run_picture.specs.Columns.{new_head, headed, is_inside, is_before, is_full}
use Rattle.drive_pictures.specs.Counts.{plus}
use Rattle.run_picture.specs.Positioning.{positioning, moving}
use Rattle.drive_pictures.specs.Drives.{new_drive, changed, joined, met, marked, freed, event_counted, unseen, cleared, cylinder_blocks}
use Rattle.drive_pictures.specs.Drives as drives
use Rattle.drive_pictures.specs.Events.{line_of, begins, is_idle}
use Rattle.run_picture.specs.Places.{place_of}
use Rattle.drive_pictures.specs.Requests.{new_request, answer, is_ok, is_refused, refused, ended, left}
use Rattle.drive_pictures.specs.Requests as requests

-- WHAT IS KNOWN behind a moment: each of the 32 drives; the requests as asked, with their ids; the frames that are lent; the
-- number of the event at hand; the moment; what is seen at a glance; the events that are shown, the column at hand, the drives
-- before the first column, and the columns that are whole.
pub record Known : Type 0 where
  pub drives : List Drive
  pub ids : List ℕ
  pub requests : List Request
  pub lent : ℕ
  pub event : ℕ
  pub before : Option Moment
  pub glance : Glance
  pub window : Window
  pub head : Head
  pub start : List Drive
  pub columns : List Column

-- before the first moment, with no drive declared
abbrev pub new_known : Window → Known
new_known window = record {
  drives = replicate 32 (new_drive None);
  ids = [];
  requests = [];
  lent = 0;
  event = 0;
  before = None;
  glance = record { most = 0; most_line = 0; moving = 0; both = 0 };
  window = window;
  head = new_head;
  start = replicate 32 (new_drive None);
  columns = [];
}

-- A REQUEST IS ASKED FOR: the frames that its bytes lie in
abbrev pub frames_of : Asked → ℕ
frames_of r = (r.offset + 512 * (r.count - 1) + r.last + 511) / 512

-- it is admitted at its first block's cylinder, or refused: where no drive is declared there is no partition
abbrev pub admitted_by : Admission → DriveKind → Asked → ℕ → Result ℕ Outcome
admitted_by meets.Eof kind r lent = Err outcome.Eof
admitted_by meets.Outside kind r lent = Err outcome.Partition
admitted_by (meets.Inside first) kind r lent =
    if nat_lt 16384 (plus lent (frames_of r)) then Err outcome.Frames else Ok (first / cylinder_blocks kind)

abbrev pub admitted : Option DriveKind → Asked → ℕ → Result ℕ Outcome
admitted None r lent = Err outcome.Partition
admitted (Some kind) r lent = admitted_by (admission kind r.part r.block r.count) kind r lent

-- where it is admitted it joins the requests of its drive, and frames are lent; else it has its reason
abbrev pub request_asked : Result ℕ Outcome → ℕ → ℕ → Request → Request
request_asked (Ok cylinder) frames joined r = record r { cylinder = Some cylinder; needed = frames; rank = plus joined 1 }
request_asked (Err why) frames joined r = record r { why = Some why }

abbrev pub drive_asked : Result ℕ Outcome → Drive → Drive
drive_asked (Ok cylinder) drive = joined cylinder (marked mark.Asked drive)
drive_asked (Err why) drive = marked mark.Asked drive

abbrev pub lent_asked : Result ℕ Outcome → ℕ → ℕ → ℕ
lent_asked (Ok cylinder) frames lent = plus lent frames
lent_asked (Err why) frames lent = lent

-- THE DRIVE OF A UNIT, AND THE REQUEST AT A PLACE
abbrev pub drive_at : List Drive → ℕ → Drive
drive_at drives unit = get_or drives unit (new_drive None)

abbrev pub request_at : List Request → ℕ → Request
request_at requests place = get_or requests place (new_request 0 0 0 0 false)

abbrev pub asked_with : Result ℕ Outcome → ℕ → Asked → Bool → Known → Known
asked_with admitted line r write known = record known {
  drives = slice_set known.drives r.unit (drive_asked admitted (drive_at known.drives r.unit));
  ids = known.ids ++ r.id ∷ [];
  requests = known.requests ++ request_asked admitted (frames_of r) (drive_at known.drives r.unit).queue.joined
      (new_request known.event line r.unit r.id write) ∷ [];
  lent = lent_asked admitted (frames_of r) known.lent;
}

-- an id is asked for once
abbrev pub asked_at : Option ℕ → ℕ → Asked → Bool → Known → Known
asked_at (Some place) line r write known = known
asked_at None line r write known =
    asked_with (admitted (drive_at known.drives r.unit).kind r known.lent) line r write known

abbrev pub asked : ℕ → Asked → Bool → Known → Known
asked line r write known = asked_at (place_of known.ids r.id) line r write known

-- A REQUEST THAT NO SCRIPT ASKED FOR is met where a line of the trace first names it
abbrev pub met_at : Option ℕ → ℕ → ℕ → ℕ → Known → Known
met_at (Some place) line unit id known = known
met_at None line unit id known = record known {
  drives = slice_set known.drives unit (met (drive_at known.drives unit));
  ids = known.ids ++ id ∷ [];
  requests = known.requests ++ record (new_request known.event line unit id false) {
    rank = plus (drive_at known.drives unit).queue.joined 1;
  } ∷ [];
}

abbrev pub place_in : Option ℕ → List ℕ → ℕ
place_in None ids = length ids
place_in (Some place) ids = place

-- AN END: of one refused the drive shows it alone; else the drive is free, and its frames are given back
abbrev pub end_mark : Outcome → Mark
end_mark o = if is_ok o then mark.Answered else mark.Stopped

abbrev pub drive_end : Bool → ℕ → Drive → Request → Drive
drive_end true event drive r = marked mark.Stopped drive
drive_end false event drive r = marked (end_mark (answer drive r)) (freed event drive)

abbrev pub request_end : Bool → ℕ → ℕ → Drive → Request → Request
request_end true event line drive r = refused event line r
request_end false event line drive r = ended event line drive r

abbrev pub frames_back : Bool → Request → ℕ
frames_back true r = 0
frames_back false r = r.needed

-- A LINE OF THE TRACE at a drive and the request at a place
abbrev pub drive_after : ℕ → ℕ → Deed → Drive → Request → Drive
drive_after event place deed.End drive r = drive_end (is_refused place drive r) event drive r
drive_after event place d drive r = drives.tells place d drive

abbrev pub request_after : ℕ → ℕ → ℕ → Deed → Drive → Request → Request
request_after event line place deed.End drive r = request_end (is_refused place drive r) event line drive r
request_after event line place d drive r = requests.tells place drive d r

abbrev pub back_after : ℕ → Deed → Drive → Request → ℕ
back_after place deed.End drive r = frames_back (is_refused place drive r) r
back_after place d drive r = 0

abbrev pub told_at : ℕ → ℕ → ℕ → Deed → Known → Known
told_at place line unit d known = record known {
  drives = slice_set known.drives unit
      (drive_after known.event place d (drive_at known.drives unit) (request_at known.requests place));
  requests = slice_set known.requests place
      (request_after known.event line place d (drive_at known.drives unit) (request_at known.requests place));
  lent = known.lent - back_after place d (drive_at known.drives unit) (request_at known.requests place);
}

abbrev pub told : ℕ → ℕ → ℕ → Deed → Known → Known
told line unit id d known =
    told_at (place_in (place_of known.ids id) known.ids) line unit d (met_at (place_of known.ids id) line unit id known)

-- a script declares a drive
abbrev pub declared : ℕ → DriveKind → Known → Known
declared unit kind known = record known {
  drives = slice_set known.drives unit (record (drive_at known.drives unit) { kind = Some kind });
}

-- A LINE OF THE SCRIPT
abbrev pub played : ℕ → Play → Known → Known
played line (Ask r write) known = asked line r write known
played line (play.Change unit change) known = record known {
  drives = slice_set known.drives unit (changed change (drive_at known.drives unit));
}
played line Other known = known

-- A MOMENT, within its event
abbrev pub heard : Moment → Known → Known
heard (Played line play) known = played line play known
heard (Told line unit id d) known = told line unit id d known
heard (Idle line) known = known

-- WHERE AN EVENT ENDS
abbrev pub more_if : Bool → ℕ → ℕ
more_if true n = plus n 1
more_if false n = n

abbrev pub is_most : ℕ → ℕ → ℕ → Bool
is_most event here most = (event == 0) || nat_lt most here

abbrev pub glance_after : ℕ → ℕ → List Drive → Glance → Glance
glance_after event line drives glance = record {
  most = if is_most event (positioning drives) glance.most then positioning drives else glance.most;
  most_line = if is_most event (positioning drives) glance.most then line else glance.most_line;
  moving = more_if (moving drives) glance.moving;
  both = more_if (moving drives && nat_lt 0 (positioning drives)) glance.both;
}

-- THE COLUMNS: behind the last event before the window they begin; an event of the window is one more of the column at hand,
-- which is whole where it is full
abbrev pub column_closed : Bool → Head → Known → Known
column_closed true head known = record known {
  columns = known.columns ++ record { head = head; drives = known.drives } ∷ [];
  head = new_head;
  drives = map cleared known.drives;
}
column_closed false head known = record known { head = head }

abbrev pub column_with : Moment → Known → Known
column_with last known =
    let head = headed (line_of last) (is_idle last) known.drives known.head in
    column_closed (is_full head known.window known.event) head known

abbrev pub shown_by : Bool → Bool → Moment → Known → Known
shown_by true inside last known = record known { start = known.drives; drives = map cleared known.drives }
shown_by false true last known = column_with last known
shown_by false false last known = known

abbrev pub event_shown : Moment → Known → Known
event_shown last known = shown_by (is_before known.window known.event) (is_inside known.window known.event) last known

abbrev pub event_counted_in : Moment → Known → Known
event_counted_in last known = record known {
  drives = map event_counted known.drives;
  glance = glance_after known.event (line_of last) known.drives known.glance;
}

abbrev pub event_ended : Moment → Known → Known
event_ended last known = event_shown last (event_counted_in last known)

abbrev pub event_begun : Known → Known
event_begun known = record known { drives = map unseen known.drives; event = plus known.event 1 }

abbrev pub turned_behind : Option Moment → Known → Known
turned_behind None known = known
turned_behind (Some last) known = event_begun (event_ended last known)

abbrev pub turned : Moment → Known → Known
turned moment known = if begins known.before moment then turned_behind known.before known else known

-- A MOMENT MORE; and the whole run
abbrev pub step : Known → Moment → Known
step known moment = heard moment (record (turned moment known) { before = Some moment })

abbrev pub events_in : Option Moment → ℕ → ℕ
events_in None event = 0
events_in (Some last) event = plus event 1

abbrev pub ended_behind : Option Moment → Known → Known
ended_behind None known = known
ended_behind (Some last) known = event_ended last known

abbrev pub finished : Known → Known
finished known = record (ended_behind known.before known) {
  requests = map (left (events_in known.before known.event)) known.requests;
}

abbrev pub run_from : Known → List Moment → Known
run_from known moments = finished (fold step known moments)

-- A moment that can be heard is of one of 32 drives.
abbrev pub IsHeard : Moment → Type 0
IsHeard (Played line (Ask r write)) = r.unit < 32
IsHeard (Played line (play.Change unit change)) = unit < 32
IsHeard (Played line Other) = Unit {0}
IsHeard (Told line unit id d) = unit < 32
IsHeard (Idle line) = Unit {0}
