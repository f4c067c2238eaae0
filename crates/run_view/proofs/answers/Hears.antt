-- A LEGAL RUN AS A PICTURE HEARS IT: each line of the script as it is played, and of a line of the trace all but an end's answer.
use Rattle.std.specs.Prelude.{true, false, is_some, fold, Some}
use Rattle.drive_pictures.specs.declared.drives.Change.TheVariants as change
use Rattle.drive_pictures.specs.declared.moments.Moment.{Moment as Seen}
use Rattle.drive_pictures.specs.declared.moments.Moment.TheVariants as seen
use Rattle.drive_pictures.specs.declared.moments.Play.{Play}
use Rattle.drive_pictures.specs.declared.moments.Play.TheVariants as play
use Rattle.run_picture.specs.declared.columns.Window.{Window}
use Rattle.run_picture.specs.Fold.{Known, new_known, declared, turned}
use Rattle.script_lines.specs.declared.statement.Request.{Request as Asked}
use Rattle.trace_replay.specs.requests.Requests.{Request}
use Rattle.trace_reader.specs.RoundTrip.{told_of}
use Rattle.trace_replay.specs.Moments.{Moment, Played, Told, Idle}
use Rattle.trace_replay.specs.Script.{Script, Line, Statement, Declares, Plays, Input, Submit, ArriveAt, MoveAt, AttendTo, Drain, Turn, Noise, Arm, SetOnline, SetLocked}

-- a request, as a line of the script asks for it
abbrev pub asked_of : Request → Asked
asked_of r = record { id = r.id; unit = r.unit; part = r.part; block = r.block; count = r.count; offset = r.offset; last = r.last }

-- what a line of the script does that can be seen
abbrev pub play_of : Input → Play
play_of (Submit r) = play.Ask (asked_of r) (is_some r.written)
play_of (ArriveAt u) = play.Other
play_of (MoveAt adapter) = play.Other
play_of (AttendTo adapter) = play.Other
play_of Drain = play.Other
play_of (Turn u sector) = play.Change u change.Turn
play_of (Noise noise) = play.Change noise.unit change.Noise
play_of (Arm u kind times) = play.Change u change.Fault
play_of (SetOnline u true) = play.Change u change.Online
play_of (SetOnline u false) = play.Change u change.Offline
play_of (SetLocked u true) = play.Change u change.Lock
play_of (SetLocked u false) = play.Change u change.Unlock

abbrev pub seen_of : Moment → Seen
seen_of (Played line input) = seen.Played line (play_of input)
seen_of (Told line u id deed) = seen.Told line u id (told_of deed)
seen_of (Idle line) = seen.Idle line

-- BEFORE THE RUN each drive that the script declares is of its kind
abbrev pub declares : Statement → Known → Known
declares (Declares u kind) known = declared u kind known
declares (Plays input) known = known

abbrev pub declared_by : Known → Line → Known
declared_by known line = declares line.statement known

abbrev pub known_of : Script → Window → Known
known_of script window = fold declared_by (new_known window) script.lines

-- WHAT IS KNOWN as a moment comes, before it is heard
abbrev pub at_moment : Known → Seen → Known
at_moment known moment = record (turned moment known) { before = Some moment }
