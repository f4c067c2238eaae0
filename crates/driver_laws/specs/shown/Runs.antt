-- A run, call by call: the lines so far follow from the start, and the replay after them stands for the driver.
use Rattle.std.specs.Prelude.{◌≡◌, ℕ, ◌<◌, true, List, [], ◌∷◌, ◌++◌, length, Option, Some, None, is_some}
use Rattle.pack_geometry.specs.declared.DriveKind.{DriveKind}
use Rattle.pack_geometry.specs.Pack.{Pack}
use Rattle.pack_geometry.specs.TableSpelling.{Table}
use Rattle.trace_replay.specs.requests.Requests.{Request}
use Rattle.trace_replay.specs.Moments.{Moment, Played}
use Rattle.trace_replay.specs.Causes.{AskSome}
use Rattle.trace_replay.specs.Script as script
use Rattle.trace_replay.specs.Script.{Input}
use Rattle.trace_replay.specs.Packs.{Surface, surface_of}
use Rattle.trace_replay.specs.Replay.{Replay, new_replay, after_moments, Follows, Legal}
use Rattle.driver_machine.specs.World.{World, Held, Setup, new_world, unit_at}
use Rattle.driver_machine.specs.Acts.{Act, Nothing, Taken, Tried, after, after_all}
use Rattle.driver_machine.specs.Lines.{lines_of_all}
use Rattle.driver_machine.specs.Events.{refusal_of, submit_acts, event_acts, next_event}
use Rattle.driver_machine.specs.Guards.{IsSetUp, IsHeldFor}
use Rattle.driver_machine.specs.Sound.{AtWork}
use Rattle.driver_laws.specs.invariant.Setups.{AreSetups}
use Rattle.driver_machine.specs.Runs.{MaySubmit, MayCome}
use Rattle.driver_laws.specs.answers.Packs.{packs_after_all}
use Rattle.driver_laws.specs.shown.Acts.{AreSetUp}
use Rattle.driver_laws.specs.shown.Calls.{Ends, IsLeft, AreThere, IsReadOf}

-- BETWEEN TWO CALLS, of which the last one was that of this line
pub record IsSoFar (start : Replay) (line : ℕ) (moments : List Moment) (held : ℕ → Pack) (w : World) : Type 0 where
  pub follows : Follows start moments
  pub left : IsLeft line held w (after_moments start moments)
  pub there : AreThere w (after_moments start moments)

-- IN A DRAIN, behind one of its events
pub record IsDraining (start : Replay) (line : ℕ) (moments : List Moment) (held : ℕ → Pack) (w : World) : Type 0 where
  pub follows : Follows start moments
  pub ends : Ends line true held w (after_moments start moments)
  pub work : AtWork w
  pub there : AreThere w (after_moments start moments)

-- WHAT AN INPUT SPEAKS OF is there: a unit, or one of the four adapters.
abbrev pub IsOfUnits : World → Input → Type 0
IsOfUnits w (script.ArriveAt u) = IsSetUp w u
IsOfUnits w (script.MoveAt a) = a < 4
IsOfUnits w (script.AttendTo a) = a < 4
IsOfUnits w input = Unit {0}

-- the moments of a call behind those so far
abbrev pub with_call : List Moment → ℕ → Input → World → List Act → List Moment
with_call moments line input w acts = moments ++ Played line input ∷ lines_of_all w acts

-- A RUN STARTS where the drives and tables are those of the units that are set up.
abbrev pub RunsStart : Type 0
RunsStart = (drives : ℕ → Option DriveKind) (tables : ℕ → Option Table) (held : ℕ → Pack) (setups : List Setup) (outstanding noises : ℕ)
    → AreSetups setups → AreSetUp drives tables (new_world setups outstanding noises)
    → ((x : ℕ) → is_some (drives x) ≡ (unit_at (new_world setups outstanding noises) x).declared)
    → IsSoFar (new_replay drives tables (surface_of held)) 0 [] held (new_world setups outstanding noises)

-- IT GOES ON with each event that is played, and each condition that changes,
abbrev pub EventsGo : Type 0
EventsGo = (drives : ℕ → Option DriveKind) (tables : ℕ → Option Table) (surface : Surface) (line next : ℕ) (input : Input) (tried : Tried)
    (moments : List Moment) (held : ℕ → Pack) (w : World)
    → IsSoFar (new_replay drives tables surface) line moments held w → line < next → IsOfUnits w input → MayCome w input tried
    → IsReadOf w held input tried
    → IsSoFar (new_replay drives tables surface) next (with_call moments next input w (event_acts next input tried w))
    (packs_after_all w held (event_acts next input tried w)) (after_all w (event_acts next input tried w))

-- with each request that is submitted,
abbrev pub SubmissionsGo : Type 0
SubmissionsGo = (drives : ℕ → Option DriveKind) (tables : ℕ → Option Table) (surface : Surface) (line next p : ℕ) (r : Request) (h : Held)
    (moments : List Moment) (held : ℕ → Pack) (w : World)
    → IsSoFar (new_replay drives tables surface) line moments held w → line < next → MaySubmit w r p h
    → (refusal_of r w ≡ None → IsHeldFor (unit_at w h.unit).drive.kind r h) → AskSome moments
    → IsSoFar (new_replay drives tables surface) next (with_call moments next (script.Submit r) w (submit_acts r next p h w))
    (packs_after_all w held (submit_acts r next p h w)) (after_all w (submit_acts r next p h w))

-- and with each answer that is taken.
abbrev pub AnswersGo : Type 0
AnswersGo = (start : Replay) (line u : ℕ) (moments : List Moment) (held : ℕ → Pack) (w : World) → IsSetUp w u → 0 < length w.answers
    → IsSoFar start line moments held w → IsSoFar start line moments held (after w Taken)

-- A DRAIN finds nothing to do, or starts with the machine's next event,
abbrev pub EmptyDrainsGo : Type 0
EmptyDrainsGo = (drives : ℕ → Option DriveKind) (tables : ℕ → Option Table) (surface : Surface) (line next : ℕ) (moments : List Moment) (held : ℕ → Pack)
    (w : World) → IsSoFar (new_replay drives tables surface) line moments held w → line < next → next_event w ≡ None
    → IsSoFar (new_replay drives tables surface) next (with_call moments next script.Drain w (Nothing next ∷ [])) held w

abbrev pub DrainsStart : Type 0
DrainsStart = (drives : ℕ → Option DriveKind) (tables : ℕ → Option Table) (surface : Surface) (line next : ℕ) (input : Input) (tried : Tried)
    (moments : List Moment) (held : ℕ → Pack) (w : World)
    → IsSoFar (new_replay drives tables surface) line moments held w → line < next → next_event w ≡ Some input → MayCome w input tried
    → IsReadOf w held input tried
    → IsDraining (new_replay drives tables surface) next (with_call moments next script.Drain w (event_acts next input tried w))
    (packs_after_all w held (event_acts next input tried w)) (after_all w (event_acts next input tried w))

-- goes on with each next one,
abbrev pub DrainsGoOn : Type 0
DrainsGoOn = (drives : ℕ → Option DriveKind) (tables : ℕ → Option Table) (surface : Surface) (line : ℕ) (input : Input) (tried : Tried)
    (moments : List Moment) (held : ℕ → Pack) (w : World)
    → IsDraining (new_replay drives tables surface) line moments held w → next_event w ≡ Some input → MayCome w input tried
    → IsReadOf w held input tried
    → IsDraining (new_replay drives tables surface) line (moments ++ lines_of_all w (event_acts line input tried w))
    (packs_after_all w held (event_acts line input tried w)) (after_all w (event_acts line input tried w))

-- and is over where there is none.
abbrev pub DrainsEnd : Type 0
DrainsEnd = (drives : ℕ → Option DriveKind) (tables : ℕ → Option Table) (surface : Surface) (line : ℕ) (moments : List Moment) (held : ℕ → Pack) (w : World)
    → IsDraining (new_replay drives tables surface) line moments held w → next_event w ≡ None
    → IsSoFar (new_replay drives tables surface) line moments held w

-- AT THE END, where no event can come, the trace is legal.
abbrev pub RunsAreLegal : Type 0
RunsAreLegal = (drives : ℕ → Option DriveKind) (tables : ℕ → Option Table) (surface : Surface) (line : ℕ) (moments : List Moment) (held : ℕ → Pack)
    (w : World) → IsSoFar (new_replay drives tables surface) line moments held w → next_event w ≡ None
    → Legal (new_replay drives tables surface) moments
