-- The driver as its users' contracts see it: what may be asked of it, and what each call comes to.
use Rattle.std.specs.Prelude.{◌≡◌, ◌≢◌, ℕ, ◌<◌, ◌≤◌, min, Bool, true, false, if◌then◌else◌, IsTrue, List, [], ◌∷◌, ◌++◌, length, drop, Option, None, Some, Result, Ok, Err}
use Rattle.pack_geometry.specs.Pack.{Pack}
use Rattle.outside_traits.specs.declared.traits.SinkFailed.{SinkFailed}
use Rattle.trace_replay.specs.requests.Requests as told
use Rattle.trace_replay.specs.requests.Requests.{IsRequest}
use Rattle.trace_replay.specs.Moments.{Moment}
use Rattle.trace_replay.specs.Replay.{Replay, after_moments}
use Rattle.trace_replay.specs.Script as script
use Rattle.trace_replay.specs.Script.{Input}
use Rattle.trace_replay.specs.declared.requests.answers.AnswerKind.TheVariants.{ReadOk}
use Rattle.driver_machine.specs.declared.Made.{Made}
use Rattle.driver_machine.specs.World.{World, Held, unit_at, slot_at}
use Rattle.driver_machine.specs.Acts.{Tried}
use Rattle.driver_machine.specs.Lines.{lines_of_all}
use Rattle.driver_machine.specs.Events.{refusal_of, submit_acts, event_acts}
use Rattle.driver_machine.specs.Guards.{IsSetUp, IsHeldFor, MayChange}
use Rattle.driver_machine.specs.Sound.{Sound, AtWork}
use Rattle.driver_machine.specs.Runs.{MaySubmit, MayCome}
pub use Rattle.driver_machine.specs.Writes.{is_move, writes_by, writes_next}
use Rattle.driver_laws.specs.declared.answers.outcome.Stop.{Stop}
use Rattle.driver_laws.specs.declared.answers.outcome.Stop.TheVariants.{Store, Sink}
use Rattle.driver_laws.specs.shown.QuietPasses.{Site, Outcome, StopsBefore, in_use, IsReadOf, AllFlip, IsDraining, CanStart, AreAsked, Falls}
use Rattle.trace_replay.specs.declared.requests.request.Request.{Request}

-- its world, how many requests may be outstanding at once, whether one of its calls has failed, and the text of the trace that it keeps
pub record State : Type 0 where
  pub world : World
  pub outstanding : ℕ
  pub failed : Bool
  pub kept : List ℕ

-- BETWEEN TWO CALLS the world is sound and, unless a call failed, at work; there are slots for all requests that can hold frames.
pub record IsKept (s : State) : Type 0 where
  pub sound : Sound s.world
  pub work : s.failed ≡ false → AtWork s.world
  pub noise : AllFlip s.world.book.live
  pub slots : length s.world.slots ≡ min s.outstanding 16384
  pub few : s.outstanding ≤ 65536

-- what a call works on: the world, what the packs hold, and the text that was told, which the trace took or which is kept
abbrev pub seen : World → (ℕ → Pack) → (sent kept : List ℕ) → Site
seen w packs sent kept = record { world = w; held = packs; text = sent ++ kept; sent = sent }

-- WHAT IS ASKED, with the bytes of a write
abbrev pub asked : Request → List ℕ → told.Request
asked r bytes = record {
  id = r.id;
  unit = r.unit;
  part = r.part;
  block = r.block;
  count = r.count;
  last = r.last;
  offset = r.offset;
  written = if r.write then Some bytes else None;
}

-- What may be asked: a request to a unit that is set up, with just the bytes of a write and none for a read, whose id no request
-- that is outstanding has; and there is room for one more.
pub record IsAsked (s : State) (r : Request) (bytes : List ℕ) : Type 0 where
  pub unit : IsSetUp s.world r.unit
  pub request : IsRequest (asked r bytes)
  pub none : r.write ≡ false → bytes ≡ []
  pub fresh : (q : ℕ) (g : Held) → slot_at s.world q ≡ Some g → g.ended ≡ false → g.id ≢ r.id
  pub room : in_use s.world.slots < s.outstanding

-- A SUBMISSION comes to its acts: the request is refused, or joins in some slot as it was asked. The packs are not touched.
pub record Submits {O : Type 0} (tells : O → Bool) (taken : O → List ℕ) (trace trace' : O) (line : ℕ) (r : told.Request) (old new : World) (kept kept' : List ℕ) (stop : Option Stop) : Type 0 where
  pub slot : ℕ
  pub held : Held
  pub may : MaySubmit old r slot held
  pub is : refusal_of r old ≡ None → IsHeldFor (unit_at old held.unit).drive.kind r held
  pub outcome : (packs : Bool) (packs_held : ℕ → Pack) → Outcome (record { packs = packs; trace = tells trace' }) (submit_acts r line slot held old)
      (seen old packs_held (taken trace) kept) (seen new packs_held (taken trace') kept') stop

-- WHAT AN EVENT SPEAKS OF is there, and a condition may change.
abbrev pub IsThere : World → Input → Type 0
IsThere w (script.Submit r) = ⊥
IsThere w (script.ArriveAt u) = IsSetUp w u
IsThere w (script.MoveAt a) = a < 4
IsThere w (script.AttendTo a) = a < 4
IsThere w script.Drain = ⊥
IsThere w input = MayChange w input

-- A DRAIN COMES TO ITS END. Behind any run that drains and stands for this world, from the start of a script or from wherever nothing was
-- outstanding, an event leaves fewer event lines to come, of which there are at most 200 for each block of the requests that are outstanding.
abbrev pub LeavesFewer : World → Input → Type 0
LeavesFewer w input = (start : Replay) (line : ℕ) (tried : Tried) (moments : List Moment) (held : ℕ → Pack) → CanStart start
    → AreAsked start.there moments → IsDraining start line moments held w → MayCome w input tried → IsReadOf w held input tried
    → Falls (after_moments start moments) (after_moments start (moments ++ lines_of_all w (event_acts line input tried w)))

-- AN EVENT comes to its acts, with some sector that is tried where one is: one that the rules of the move allow, of what the packs hold.
-- The packs stop only a move, and before anything is done in it. What writes nothing leaves them, also where they fail.
pub record Comes {O Q : Type 0} (holds : Q → Bool) (held : Q → ℕ → Pack) (tells : O → Bool) (taken : O → List ℕ) (packs packs' : Q) (trace trace' : O) (line : ℕ) (input : Input) (old new : World) (kept kept' : List ℕ) (stop : Option Stop) : Type 0 where
  pub tried : Tried
  pub may : stop ≡ None → MayCome old input tried
  pub reads : stop ≡ None → IsTrue (holds packs') → IsReadOf old (held packs) input tried
  pub outcome : Outcome (record { packs = holds packs'; trace = tells trace' }) (event_acts line input tried old)
      (seen old (held packs) (taken trace) kept) (seen new (held packs') (taken trace') kept') stop
  pub moves : stop ≡ Some Store → is_move input ≡ true
  pub before : stop ≡ Some Store
      → StopsBefore (record { packs = holds packs'; trace = tells trace' }) (seen old (held packs) (taken trace) kept) (seen new (held packs') (taken trace') kept')
  pub unsent : stop ≡ Some Store → kept' ≡ kept
  pub leaves : writes_by old input ≡ false → IsTrue (holds packs') → held packs' ≡ held packs

-- the oldest answer that waits
pub record IsOldest (w : World) (made : Made) : Type 0 where
  pub first : w.answers ≡ made ∷ drop 1 w.answers

-- block k of a read, where the oldest answer is of that
pub record Reads (w : World) (k : ℕ) : Type 0 where
  pub made : Made
  pub oldest : IsOldest w made
  pub count : ℕ
  pub last : ℕ
  pub ok : made.answer.kind ≡ ReadOk count last
  pub inside : k < count

-- what stopped a submission, if something did: the trace
abbrev pub sink_in : {A : Type 0} → Result A SinkFailed → Option Stop
sink_in (Ok value) = None
sink_in (Err failed) = Some Sink
