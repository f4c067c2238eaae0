-- WHY a request is answered as it is: an answer has a cause exactly if its lines, its unit when its end comes, and its pack's table say so.
use Rattle.std.specs.Prelude.{◌≡◌, ◌⊎◌, ℕ, ◌<◌, ◌≤◌, true, false, Bool, List, [], ◌∷◌, ◌++◌, Option, None, ◌+◌, Some}
use Rattle.pack_geometry.specs.declared.DriveKind.{DriveKind}
use Rattle.pack_geometry.specs.Pack as model
use Rattle.pack_geometry.specs.TableSpelling.{Table}
use Rattle.pack_geometry.specs.Homes.{home_of}
use Rattle.hardware_table.specs.declared.Moved.TheVariants as verdict
use Rattle.trace_replay.specs.requests.Requests.{first_block, Answer, ReadOk, WriteOk, Cause, Offline, Locked, Unforwarded, Fault, Failed}
use Rattle.trace_replay.specs.Script.{Input, Submit}
use Rattle.trace_replay.specs.Moments.{Deed, End, Moment, Played, Told}
use Rattle.trace_replay.specs.Packs.{Surface, surface_of}
use Rattle.trace_replay.specs.Service.{in_hand}
use Rattle.trace_replay.specs.Conversation.{Hand, Stage, Steps, AtOnce, OwnBlocks, is_write, entry_of, start_of}
use Rattle.trace_replay.specs.Replay.{UnitSeen, new_replay, after_moments, hand_of, Follows}
use Rattle.trace_replay.specs.History.{is_refusal, lines_of, done_in, TriedAt, last_tried, marks_in, last_try, AreFailures}

-- a command is due next: that of a step, or the transfer
abbrev pub wants_command : Stage → Bool
wants_command (Steps left segment) = true
wants_command (AtOnce segment) = true
wants_command stage = false

-- the transfer is due next: the unit waits for its adapter, or has kept it
abbrev pub wants_transfer : Stage → Bool
wants_transfer (Steps [] segment) = true
wants_transfer (AtOnce segment) = true
wants_transfer stage = false

-- a command was due while the unit was offline
pub record IsCutOff (u : UnitSeen) : Type 0 where
  pub due : wants_command u.stage ≡ true
  pub offline : u.drive.online ≡ false

-- WCOM was due on a unit that was online and locked
pub record IsLockedOut (u : UnitSeen) : Type 0 where
  pub due : wants_transfer u.stage ≡ true
  pub writes : is_write (hand_of u) ≡ true
  pub online : u.drive.online ≡ true
  pub locked : u.drive.locked ≡ true

-- the last sector was tried while the unit was offline
pub record WasTriedOffline (lines : List Deed) : Type 0 where
  pub block : ℕ
  pub last : last_tried lines ≡ TriedAt block verdict.Offline

-- the last sector was marked: the replacement of the block, or its own sector, which the table does not list
pub record IsBeyondHelp (h : Hand) (lines : List Deed) : Type 0 where
  pub block : ℕ
  pub last : last_tried lines ≡ TriedAt block verdict.Marked
  pub helpless : (marks_in lines ≡ 2) ⊎ (entry_of h (start_of OwnBlocks h) ≡ None)

-- THE CAUSES. `fault`: the last try line has number 28.
abbrev pub Because : UnitSeen → List Deed → Cause → Type 0
Because u lines Offline = IsCutOff u ⊎ WasTriedOffline lines
Because u lines Locked = IsLockedOut u
Because u lines Unforwarded = IsBeyondHelp (hand_of u) lines
Because u lines Fault = last_try lines ≡ 28

abbrev pub IsOk : Answer → Type 0
IsOk (ReadOk bytes) = Unit {0}
IsOk WriteOk = Unit {0}
IsOk answer = ⊥

-- 28 tries at one block, each of which met a fault or noise that shows
pub record AreAllTries (lines : List Deed) : Type 0 where
  pub block : ℕ
  pub tries : AreFailures false 28 block lines

-- An answer is explained: it is an error of a cause exactly where that cause holds, with as many blocks done as its lines tell, and
-- fewer than it asks for; and ok exactly where all its blocks are done.
pub record IsExplained (u : UnitSeen) (lines : List Deed) (answer : Answer) : Type 0 where
  pub cause : (cause : Cause) (done : ℕ) → answer ≡ Failed cause done → Because u lines cause
  pub counted : (cause : Cause) (done : ℕ) → answer ≡ Failed cause done → (done ≡ done_in lines) × (done < (hand_of u).request.count)
  pub exactly : (cause : Cause) → Because u lines cause → answer ≡ Failed cause (done_in lines)
  pub tries : (done : ℕ) → answer ≡ Failed Fault done → AreAllTries lines
  pub ok : IsOk answer → done_in lines ≡ (hand_of u).request.count
  pub all : done_in lines ≡ (hand_of u).request.count → IsOk answer

-- each request that moments submit asks for some blocks
abbrev pub AsksSome : Input → Type 0
AsksSome (Submit r) = 1 ≤ r.count
AsksSome input = Unit {0}

abbrev pub AskSome : List Moment → Type 0
AskSome [] = Unit {0}
AskSome (Played line input ∷ ms) = AsksSome input × AskSome ms
AskSome (m ∷ ms) = AskSome ms

-- EACH ANSWER of each trace that may come is explained by the lines of its request.
abbrev pub AreExplained : Type 0
AreExplained = (drives : ℕ → Option DriveKind) (tables : ℕ → Option Table) (surface : Surface) (ms : List Moment) (line unit id : ℕ) (answer : Answer)
    → AskSome ms → Follows (new_replay drives tables surface) (ms ++ Told line unit id (End answer) ∷ []) → is_refusal answer ≡ false
    → IsExplained ((after_moments (new_replay drives tables surface) ms).units unit) (lines_of unit ms) answer

-- WHAT FOLLOWS FROM THE PACKS ALONE. A request ends `unforwarded` only where its first block not done has no home on its pack.
abbrev pub AreUnusable : Type 0
AreUnusable = (drives : ℕ → Option DriveKind) (tables : ℕ → Option Table) (packs : ℕ → model.Pack) (ms : List Moment) (line unit id done : ℕ)
    → AskSome ms → Follows (new_replay drives tables (surface_of packs)) (ms ++ Told line unit id (End (Failed Unforwarded done)) ∷ [])
    → (kind : DriveKind) → drives unit ≡ Some kind
    → home_of kind (tables unit) (packs unit) (first_block kind (in_hand ((after_moments (new_replay drives tables (surface_of packs)) ms).units unit).service) + done) ≡ None
