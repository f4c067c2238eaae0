-- A CALL OF THE DRIVER FROM ANY STATE of a replay that is consistent and shows the driver. No history is asked for, and the number
-- of the line before is not seen.
use Rattle.std.specs.Prelude.{◌≡◌, ◌≤◌, ◌<◌, ℕ, List, [], ◌∷◌, ◌++◌, length, Some, None}
use Rattle.pack_geometry.specs.Pack.{Pack}
use Rattle.trace_replay.specs.requests.Requests.{Request}
use Rattle.trace_replay.specs.Moments.{Moment, Played}
use Rattle.trace_replay.specs.Script as script
use Rattle.trace_replay.specs.Script.{Input}
use Rattle.trace_replay.specs.Replay.{Replay, Follows, after_moment, after_moments}
use Rattle.driver_laws.specs.rules.Consistent.{IsConsistent}
use Rattle.driver_machine.specs.World.{World, Held, unit_at}
use Rattle.driver_machine.specs.Acts.{Act, Nothing, Taken, Tried, after, after_all}
use Rattle.driver_machine.specs.Lines.{lines_of_all}
use Rattle.driver_machine.specs.Events.{refusal_of, submit_acts, event_acts, next_event}
use Rattle.driver_machine.specs.Guards.{IsSetUp, IsHeldFor}
use Rattle.driver_machine.specs.Runs.{MaySubmit, MayCome}
use Rattle.driver_laws.specs.answers.Packs.{packs_after_all}
use Rattle.driver_laws.specs.shown.Calls.{Stands, AreThere, IsReadOf}
use Rattle.driver_laws.specs.shown.Runs.{IsDraining}
use Rattle.driver_laws.specs.rules.Sessions.{MayPlay, behind_all, waited}
use Rattle.driver_laws.specs.rules.Waited.{IsWaitedFor, with_packs}
use Rattle.driver_laws.specs.shown.Quiet.{setup_of, StandsQuiet}

-- BETWEEN TWO CALLS, whatever the line before was
pub record IsOpen (held : ℕ → Pack) (w : World) (s : Replay) : Type 0 where
  pub stands : Stands held w s
  pub consistent : IsConsistent s
  pub there : AreThere w s
  pub may : MayPlay s

-- from a quiet state on
abbrev pub QuietOpens : Type 0
QuietOpens = (held : ℕ → Pack) (w : World) (s : Replay) → StandsQuiet held w s → IsOpen held w s

-- ACTS AT A LINE: their lines follow behind it, and behind them the driver is open again.
pub record GoesTo (line : ℕ) (input : Input) (held : ℕ → Pack) (w : World) (s : Replay) (acts : List Act) : Type 0 where
  pub follows : Follows (after_moment s (Played line input)) (lines_of_all w acts)
  pub opened : IsOpen (packs_after_all w held acts) (after_all w acts) (after_moments (after_moment s (Played line input)) (lines_of_all w acts))

-- So it is with a SUBMISSION at a quiet driver,
abbrev pub QuietSubmits : Type 0
QuietSubmits = (line p : ℕ) (r : Request) (h : Held) (held : ℕ → Pack) (w : World) (s : Replay) → StandsQuiet held w s → MaySubmit w r p h
    → (refusal_of r w ≡ None → IsHeldFor (unit_at w h.unit).drive.kind r h) → 1 ≤ line
    → GoesTo line (script.Submit r) held w s (submit_acts r line p h w)

-- and with a DRAIN that finds nothing to do.
abbrev pub DrainsFindNothing : Type 0
DrainsFindNothing = (line : ℕ) (held : ℕ → Pack) (w : World) (s : Replay) → IsOpen held w s → 1 ≤ line → next_event w ≡ None
    → GoesTo line script.Drain held w s (Nothing line ∷ [])

-- ANY OTHER DRAIN starts at the replay behind its line,
pub record DrainsFrom (line : ℕ) (s : Replay) (moments : List Moment) (held : ℕ → Pack) (w : World) : Type 0 where
  pub draining : IsDraining (after_moment s (Played line script.Drain)) line moments held w
  pub consistent : IsConsistent (after_moments (after_moment s (Played line script.Drain)) moments)

abbrev pub DrainsBegin : Type 0
DrainsBegin = (line : ℕ) (input : Input) (tried : Tried) (held : ℕ → Pack) (w : World) (s : Replay) → IsOpen held w s → 1 ≤ line → next_event w ≡ Some input
    → MayCome w input tried → IsReadOf w held input tried
    → DrainsFrom line s (lines_of_all w (event_acts line input tried w)) (packs_after_all w held (event_acts line input tried w))
    (after_all w (event_acts line input tried w))

-- goes on with each next event,
abbrev pub DrainsContinue : Type 0
DrainsContinue = (line : ℕ) (input : Input) (tried : Tried) (held : ℕ → Pack) (w : World) (s : Replay) (moments : List Moment) → DrainsFrom line s moments held w
    → next_event w ≡ Some input → MayCome w input tried → IsReadOf w held input tried
    → DrainsFrom line s (moments ++ lines_of_all w (event_acts line input tried w)) (packs_after_all w held (event_acts line input tried w))
    (after_all w (event_acts line input tried w))

-- and where no event can come it is over, and the driver is open.
abbrev pub DrainsAreOver : Type 0
DrainsAreOver = (line : ℕ) (held : ℕ → Pack) (w : World) (s : Replay) (moments : List Moment) → DrainsFrom line s moments held w → next_event w ≡ None
    → IsOpen held w (after_moments (after_moment s (Played line script.Drain)) moments)

-- AN ANSWER THAT IS TAKEN leaves all of this.
abbrev pub TakingsOpen : Type 0
TakingsOpen = (u : ℕ) (held : ℕ → Pack) (w : World) (s : Replay) → IsSetUp w u → 0 < length w.answers → IsOpen held w s → IsOpen held (after w Taken) s

abbrev pub TakingsDrain : Type 0
TakingsDrain = (line u : ℕ) (held : ℕ → Pack) (w : World) (s : Replay) (moments : List Moment) → IsSetUp w u → 0 < length w.answers
    → DrainsFrom line s moments held w → DrainsFrom line s moments held (after w Taken)

-- BEHIND A REQUEST THAT IS WAITED FOR, once its answer is taken, the driver stands for the replay behind it.
abbrev pub QuietAgain : Type 0
QuietAgain = (held left : ℕ → Pack) (w now : World) (s : Replay) (line : ℕ) (r : Request) (asked drained : List Moment) → StandsQuiet held w s
    → IsWaitedFor (setup_of w held) s line r asked drained → IsOpen left now (behind_all s (waited line r asked drained))
    → ((unit : ℕ) → (left unit).marks ≡ (held unit).marks) → setup_of now left ≡ with_packs (setup_of w held) left
    → StandsQuiet left now (behind_all s (waited line r asked drained))

-- Units, kinds and tables stay, whatever acts run.
abbrev pub SetupStays : Type 0
SetupStays = (w : World) (acts : List Act) (held left : ℕ → Pack) → setup_of (after_all w acts) left ≡ with_packs (setup_of w held) left
