-- A drain comes to its end: with each of its events, the number of event lines that are left falls.
use Rattle.std.specs.Prelude.{◌≡◌, ℕ, ◌*◌, ◌<◌, ◌≤◌, List, [], ◌∷◌, ◌++◌, Option, Some}
use Rattle.pack_geometry.specs.declared.DriveKind.{DriveKind}
use Rattle.pack_geometry.specs.Pack.{Pack}
use Rattle.pack_geometry.specs.TableSpelling.{Table}
use Rattle.trace_replay.specs.Moments.{Moment, Played}
use Rattle.trace_replay.specs.Causes.{AskSome}
use Rattle.trace_replay.specs.Script as script
use Rattle.trace_replay.specs.Script.{Input}
use Rattle.trace_replay.specs.Packs.{Surface}
use Rattle.trace_replay.specs.Replay.{Replay, new_replay, after_moments}
use Rattle.driver_laws.specs.rules.Measure.{events_left, blocks_outstanding}
use Rattle.driver_laws.specs.rules.Drains.{IsIdle, AreOf}
use Rattle.driver_laws.specs.rules.Consistent.{IsConsistent}
use Rattle.driver_machine.specs.World.{World}
use Rattle.driver_machine.specs.Acts.{Tried}
use Rattle.driver_machine.specs.Lines.{lines_of_all}
use Rattle.driver_machine.specs.Events.{event_acts, next_event}
use Rattle.driver_machine.specs.Runs.{MayCome}
use Rattle.driver_laws.specs.shown.Calls.{IsReadOf}
use Rattle.driver_laws.specs.shown.Runs.{IsSoFar, IsDraining, with_call}

-- FEWER EVENT LINES ARE LEFT than before, where there were at most 200 for each block of the requests that were outstanding.
pub record Falls (before after : Replay) : Type 0 where
  pub fewer : events_left after < events_left before
  pub few : events_left before ≤ 200 * blocks_outstanding before

-- A START from which a drain can be counted: an idle replay whose parts agree, as the start of a script is one
pub record CanStart (start : Replay) : Type 0 where
  pub idle : IsIdle start
  pub consistent : IsConsistent start

abbrev pub ScriptsCanStart : Type 0
ScriptsCanStart = (drives : ℕ → Option DriveKind) (tables : ℕ → Option Table) (surface : Surface) → CanStart (new_replay drives tables surface)

-- the moments ask for some blocks each time, of units that are there
pub record AreAsked (there : List ℕ) (moments : List Moment) : Type 0 where
  pub some : AskSome moments
  pub units : AreOf there moments

-- THE FIRST EVENT of a drain leaves fewer,
abbrev pub FirstEventsFall : Type 0
FirstEventsFall = (drives : ℕ → Option DriveKind) (tables : ℕ → Option Table) (surface : Surface) (line next : ℕ) (input : Input) (tried : Tried)
    (moments : List Moment) (held : ℕ → Pack) (w : World) → AreAsked (new_replay drives tables surface).there moments
    → IsSoFar (new_replay drives tables surface) line moments held w → line < next → next_event w ≡ Some input → MayCome w input tried
    → IsReadOf w held input tried
    → Falls (after_moments (new_replay drives tables surface) moments)
    (after_moments (new_replay drives tables surface) (with_call moments next script.Drain w (event_acts next input tried w)))

-- and so does each later one;
abbrev pub DrainsFall : Type 0
DrainsFall = (drives : ℕ → Option DriveKind) (tables : ℕ → Option Table) (surface : Surface) (line : ℕ) (input : Input) (tried : Tried)
    (moments : List Moment) (held : ℕ → Pack) (w : World) → AreAsked (new_replay drives tables surface).there moments
    → IsDraining (new_replay drives tables surface) line moments held w → next_event w ≡ Some input → MayCome w input tried
    → IsReadOf w held input tried
    → Falls (after_moments (new_replay drives tables surface) moments)
    (after_moments (new_replay drives tables surface) (moments ++ lines_of_all w (event_acts line input tried w)))

-- it does so from any start.
abbrev pub DrainsFallFrom : Type 0
DrainsFallFrom = (start : Replay) (line : ℕ) (input : Input) (tried : Tried) (moments : List Moment) (held : ℕ → Pack) (w : World) → CanStart start
    → AreAsked start.there moments → IsDraining start line moments held w → next_event w ≡ Some input → MayCome w input tried
    → IsReadOf w held input tried
    → Falls (after_moments start moments) (after_moments start (moments ++ lines_of_all w (event_acts line input tried w)))

-- THE LINE OF THE SCRIPT that drains leaves as many, and as many blocks outstanding.
abbrev pub DrainsKeep : Type 0
DrainsKeep = (start : Replay) (moments : List Moment) (next : ℕ)
    → (events_left (after_moments start (moments ++ Played next script.Drain ∷ [])) ≡ events_left (after_moments start moments))
    × (blocks_outstanding (after_moments start (moments ++ Played next script.Drain ∷ [])) ≡ blocks_outstanding (after_moments start moments))
