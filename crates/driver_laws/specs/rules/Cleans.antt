-- EACH BLOCK THAT IS DONE MOVED CLEAN: one of the lines of its request tells this verdict for a sector at the block's home.
use Rattle.std.specs.Prelude.{◌≡◌, ℕ, ◌+◌, ◌<◌, List, Contains, Some}
use Rattle.hardware_table.specs.declared.Moved.TheVariants.{Clean}
use Rattle.trace_replay.specs.requests.Requests.{Request, Answer, ReadOk, WriteOk, Failed}
use Rattle.trace_replay.specs.Moments.{Moment, Told, Sector}
use Rattle.trace_replay.specs.Replay.{Replay}
use Rattle.driver_laws.specs.rules.Stands.{Setup, home_in}
use Rattle.driver_laws.specs.rules.Sessions.{told_in, waited}
use Rattle.driver_laws.specs.rules.Waited.{first_in, answer_in, IsWaitedFor}

-- a block of a unit moved clean, as the lines tell
pub record MovedClean (setup : Setup) (unit block : ℕ) (told : List Moment) : Type 0 where
  pub sector : ℕ
  pub home : home_in setup unit block ≡ Some sector
  pub line : ℕ
  pub id : ℕ
  pub moved : Contains told (Told line unit id (Sector sector Clean))

-- how many blocks an answer says to be done: none where the request was refused
abbrev pub done_by : Answer → (count : ℕ) → ℕ
done_by (ReadOk bytes) count = count
done_by WriteOk count = count
done_by (Failed cause done) count = done
done_by answer count = 0

abbrev pub DoneMovesClean : Type 0
DoneMovesClean = (setup : Setup) (s : Replay) (line : ℕ) (r : Request) (asked drained : List Moment) → IsWaitedFor setup s line r asked drained
    → (k : ℕ) → k < done_by (answer_in setup r) r.count → MovedClean setup r.unit (first_in setup r + k) (told_in (waited line r asked drained))
