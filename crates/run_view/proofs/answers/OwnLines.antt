-- WHAT A PICTURE HEARS OF A REQUEST: its lines, one after another.
use Rattle.std.specs.Prelude.{◌≡◌, ℕ, true, false, not, List, [], ◌∷◌, None}
use Rattle.drive_pictures.specs.declared.drives.Drive.{Drive}
use Rattle.drive_pictures.specs.declared.requests.Request.{Request}
use Rattle.drive_pictures.specs.Drives as drives
use Rattle.drive_pictures.specs.Requests as requests
use Rattle.trace_reader.specs.RoundTrip.{told_of}
use Rattle.trace_replay.specs.Conditions.{online_behind, locked_behind}
use Rattle.trace_replay.specs.Moments.{Deed, Moment}

-- a request and its drive
pub record Hearing : Type 0 where
  pub drive : Drive
  pub request : Request

-- no line of it was told yet, and none of another is under way
pub record IsFresh (hearing : Hearing) : Type 0 where
  pub hand : hearing.drive.trial.hand ≡ None
  pub want : hearing.drive.trial.want ≡ 0
  pub fails : hearing.drive.trial.fails ≡ 0
  pub marks : hearing.drive.trial.marks ≡ 0
  pub done : hearing.request.done ≡ 0
  pub verdict : hearing.request.verdict ≡ None

-- a line is told of the request at a place; and so all its lines, of which the last is the first here
abbrev pub told_one : ℕ → Deed → Hearing → Hearing
told_one place deed hearing = record {
  drive = drives.tells place (told_of deed) hearing.drive;
  request = requests.tells place hearing.drive (told_of deed) hearing.request;
}

abbrev pub told_all : ℕ → Hearing → List Deed → Hearing
told_all place start [] = start
told_all place start (deed ∷ lines) = told_one place deed (told_all place start lines)

-- JUST THESE LINES WERE TOLD of a request. What else befell its drive between them leaves its trial as it was.
pub record HasHeard (place : ℕ) (lines : List Deed) (drive : Drive) (request : Request) : Type 0 where
  pub start : Hearing
  pub fresh : IsFresh start
  pub trial : drive.trial ≡ (told_all place start lines).drive.trial
  pub done : request.done ≡ (told_all place start lines).request.done
  pub verdict : request.verdict ≡ (told_all place start lines).request.verdict
  pub write : request.write ≡ (told_all place start lines).request.write

-- the drive's condition is what the script said last of it
pub record IsInCondition (u : ℕ) (ms : List Moment) (drive : Drive) : Type 0 where
  pub offline : drive.offline ≡ not (online_behind u true ms)
  pub locked : drive.locked ≡ locked_behind u false ms
