-- A run leaves its packs as the replay leaves them, and at its end it is a legal run.
use Rattle.std.specs.Prelude.{◌≡◌, ℕ, ◌<◌, ◌*◌, false, List, drop, length, Option, Some, None, is_some}
use Rattle.pack_geometry.specs.declared.DriveKind.{DriveKind}
use Rattle.pack_geometry.specs.Geometry.{block_count}
use Rattle.pack_geometry.specs.Pack.{Pack}
use Rattle.pack_geometry.specs.PackTable.{AreTablesOf}
use Rattle.pack_geometry.specs.TableSpelling.{Table}
use Rattle.trace_replay.specs.requests.Requests.{Request}
use Rattle.trace_replay.specs.Moments.{Moment}
use Rattle.trace_replay.specs.Script.{Script, Input, IsScript, drives_of}
use Rattle.trace_replay.specs.Replay.{Replay, after_moments, AreLeft}
use Rattle.trace_replay.specs.Runs.{start_of, ArePlayed, IsLegalRun}
use Rattle.driver_machine.specs.World.{World, Held, Setup, new_world, unit_at}
use Rattle.driver_machine.specs.Acts.{Act, Taken, Tried, after, after_all}
use Rattle.driver_machine.specs.Events.{submit_acts, event_acts, next_event}
use Rattle.driver_machine.specs.Sound.{Sound, AtWork}
use Rattle.driver_laws.specs.invariant.Setups.{AreSetups}
use Rattle.driver_machine.specs.Runs.{Run, MaySubmit, MayCome}
use Rattle.driver_laws.specs.answers.Packs.{packs_after_all}
use Rattle.driver_laws.specs.shown.Acts.{AreSetUp}
use Rattle.driver_laws.specs.shown.Runs.{IsSoFar}

-- THE UNITS ARE AS DECLARED: each drive is of its kind, and no other unit is set up.
pub record AreDeclared (drives : ℕ → Option DriveKind) (w : World) : Type 0 where
  pub kinds : (unit : ℕ) (kind : DriveKind) → drives unit ≡ Some kind → (unit_at w unit).drive.kind ≡ kind
  pub others : (unit : ℕ) → drives unit ≡ None → (unit_at w unit).declared ≡ false

-- WHAT IS NO SECTOR STAYS: what the images have behind their last sectors, the marks, and the packs of units that are not there.
pub record Stay (drives : ℕ → Option DriveKind) (old new : ℕ → Pack) : Type 0 where
  pub beyond : (unit : ℕ) (kind : DriveKind) → drives unit ≡ Some kind
      → drop (512 * block_count kind) (new unit).image ≡ drop (512 * block_count kind) (old unit).image
  pub marks : (unit : ℕ) → (new unit).marks ≡ (old unit).marks
  pub others : (unit : ℕ) → drives unit ≡ None → new unit ≡ old unit

-- SO FAR both hold, of the packs that a run found and those that stand now.
pub record IsKept (drives : ℕ → Option DriveKind) (old held : ℕ → Pack) (w : World) : Type 0 where
  pub units : AreDeclared drives w
  pub packs : Stay drives old held

-- It is so at the start, where the drives are those of the units that are set up,
abbrev pub StartsKept : Type 0
StartsKept = (drives : ℕ → Option DriveKind) (tables : ℕ → Option Table) (held : ℕ → Pack) (setups : List Setup) (outstanding noises : ℕ)
    → AreSetups setups → AreSetUp drives tables (new_world setups outstanding noises)
    → ((x : ℕ) → is_some (drives x) ≡ (unit_at (new_world setups outstanding noises) x).declared)
    → IsKept drives held held (new_world setups outstanding noises)

-- and acts that run keep it:
abbrev pub RunsKeep : Type 0
RunsKeep = (drives : ℕ → Option DriveKind) (old held : ℕ → Pack) (w : World) (acts : List Act) → Sound w → Run w acts → IsKept drives old held w
    → IsKept drives old (packs_after_all w held acts) (after_all w acts)

-- those of an event, in a drain or not,
abbrev pub EventsKeep : Type 0
EventsKeep = (drives : ℕ → Option DriveKind) (old held : ℕ → Pack) (w : World) (line : ℕ) (input : Input) (tried : Tried) → Sound w → AtWork w
    → MayCome w input tried → IsKept drives old held w
    → IsKept drives old (packs_after_all w held (event_acts line input tried w)) (after_all w (event_acts line input tried w))

-- of a submission,
abbrev pub SubmissionsKeep : Type 0
SubmissionsKeep = (drives : ℕ → Option DriveKind) (old held : ℕ → Pack) (w : World) (line p : ℕ) (r : Request) (h : Held) → Sound w → AtWork w
    → MaySubmit w r p h → IsKept drives old held w
    → IsKept drives old (packs_after_all w held (submit_acts r line p h w)) (after_all w (submit_acts r line p h w))

-- and of an answer that is taken.
abbrev pub AnswersKeep : Type 0
AnswersKeep = (drives : ℕ → Option DriveKind) (old held : ℕ → Pack) (w : World) → Sound w → 0 < length w.answers → IsKept drives old held w
    → IsKept drives old held (after w Taken)

-- SO THE PACKS ARE LEFT between any two calls as the replay has them,
abbrev pub PacksAreLeft : Type 0
PacksAreLeft = (drives : ℕ → Option DriveKind) (old held : ℕ → Pack) (start : Replay) (line : ℕ) (moments : List Moment) (w : World)
    → IsSoFar start line moments held w → IsKept drives old held w → AreLeft drives old held (after_moments start moments).surface

-- and where no event can come behind the inputs of a script, the run is a legal run of the script.
abbrev pub RunsAreLegal : Type 0
RunsAreLegal = (script : Script) (tables : ℕ → Option Table) (old held : ℕ → Pack) (line : ℕ) (moments : List Moment) (w : World)
    → IsScript script → ArePlayed script moments → AreTablesOf (drives_of script) old tables
    → IsSoFar (start_of script tables old) line moments held w → IsKept (drives_of script) old held w → next_event w ≡ None
    → IsLegalRun script tables old held moments
