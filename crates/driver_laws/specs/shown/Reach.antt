-- How far the writes of a run reach. What an image has from there on stays, and reads change nothing.
use Rattle.std.specs.Prelude.{◌≡◌, ℕ, ◌+◌, ◌*◌, ◌<◌, ◌≤◌, true, List, [], ◌∷◌, drop, length, Option, Some, None, is_some}
use Rattle.pack_geometry.specs.declared.DriveKind.{DriveKind}
use Rattle.pack_geometry.specs.Geometry.{block_count}
use Rattle.pack_geometry.specs.Pack.{Pack}
use Rattle.pack_geometry.specs.TableSpelling.{Table}
use Rattle.trace_replay.specs.requests.Requests.{Request, first_block}
use Rattle.trace_replay.specs.Script as script
use Rattle.trace_replay.specs.Script.{Input, Numbered}
use Rattle.driver_machine.specs.World.{World, Held, Setup, new_world, unit_at, slot_at}
use Rattle.driver_machine.specs.Acts.{Act, Submit, Taken, Tried, after, after_all}
use Rattle.driver_machine.specs.Events.{submit_acts, event_acts, refusal_of}
use Rattle.driver_machine.specs.Guards.{Allowed, IsHeldFor}
use Rattle.driver_machine.specs.Sound.{Sound, AtWork}
use Rattle.driver_laws.specs.invariant.Setups.{AreSetups}
use Rattle.driver_machine.specs.Runs.{MaySubmit, MayCome}
use Rattle.driver_laws.specs.answers.Outcome.{IsNextBlock}
use Rattle.driver_laws.specs.answers.Packs.{packs_after, packs_after_all}
use Rattle.driver_laws.specs.shown.Acts.{AreSetUp}
use Rattle.driver_laws.specs.shown.RunsRuns.{AreDeclared}

-- WHAT IS WRITTEN ends below these blocks, one for each unit: each request that writes does, on the drive of its unit; a read is free;
abbrev pub AsksBelow : (ends : ℕ → ℕ) (drives : ℕ → Option DriveKind) → Input → Type 0
AsksBelow ends drives (script.Submit r) = (kind : DriveKind) → drives r.unit ≡ Some kind → is_some r.written ≡ true → first_block kind r + r.count ≤ ends r.unit
AsksBelow ends drives input = Unit {0}

abbrev pub AskBelow : (ends : ℕ → ℕ) (drives : ℕ → Option DriveKind) → List Numbered → Type 0
AskBelow ends drives [] = Unit {0}
AskBelow ends drives (next ∷ inputs) = AsksBelow ends drives next.input × AskBelow ends drives inputs

-- and where something may be written to a pack that has a table the whole drive does, at whose end the replacements are.
abbrev pub TablesBelow : (ends : ℕ → ℕ) (drives : ℕ → Option DriveKind) (tables : ℕ → Option Table) → Type 0
TablesBelow ends drives tables =
    (unit : ℕ) (kind : DriveKind) (table : Table) → drives unit ≡ Some kind → tables unit ≡ Some table → 0 < ends unit → block_count kind ≤ ends unit

-- THE REACH of the driver: so it is of the requests in its slots, and of the units that are set up.
pub record Reaches (ends : ℕ → ℕ) (w : World) : Type 0 where
  pub requests : (p : ℕ) (h : Held) → slot_at w p ≡ Some h → h.write ≡ true → h.first + h.loan.count ≤ ends h.unit
  pub tables : (unit : ℕ) (table : Table) → (unit_at w unit).declared ≡ true → (unit_at w unit).table ≡ Some table → 0 < ends unit
      → block_count (unit_at w unit).drive.kind ≤ ends unit

-- WHAT LIES BEYOND, from these blocks on, stays: of a unit to which nothing is written the whole image.
abbrev pub StayFrom : (ends : ℕ → ℕ) (old new : ℕ → Pack) → Type 0
StayFrom ends old new = (unit : ℕ) → drop (512 * ends unit) (new unit).image ≡ drop (512 * ends unit) (old unit).image

-- SO FAR both hold, of the packs that a run found and those that stand now.
pub record IsWithinReach (ends : ℕ → ℕ) (old held : ℕ → Pack) (w : World) : Type 0 where
  pub reaches : Reaches ends w
  pub packs : StayFrom ends old held

-- It is so at the start.
abbrev pub StartsWithinReach : Type 0
StartsWithinReach = (ends : ℕ → ℕ) (drives : ℕ → Option DriveKind) (tables : ℕ → Option Table) (held : ℕ → Pack) (setups : List Setup) (outstanding noises : ℕ)
    → AreSetups setups → AreSetUp drives tables (new_world setups outstanding noises)
    → ((x : ℕ) → is_some (drives x) ≡ (unit_at (new_world setups outstanding noises) x).declared) → TablesBelow ends drives tables
    → IsWithinReach ends held held (new_world setups outstanding noises)

-- An act keeps it; of a request that joins it has to be so.
abbrev pub JoinsBelow : (ends : ℕ → ℕ) → Act → Type 0
JoinsBelow ends (Submit line p h) = h.write ≡ true → h.first + h.loan.count ≤ ends h.unit
JoinsBelow ends act = Unit {0}

abbrev pub ActsKeepReach : Type 0
ActsKeepReach = (ends : ℕ → ℕ) (old held : ℕ → Pack) (w : World) (act : Act) → Sound w → Allowed w act → JoinsBelow ends act
    → IsWithinReach ends old held w → IsWithinReach ends old (packs_after w held act) (after w act)

-- So do the acts of an event, in a drain or not,
abbrev pub EventsKeepReach : Type 0
EventsKeepReach = (ends : ℕ → ℕ) (old held : ℕ → Pack) (w : World) (line : ℕ) (input : Input) (tried : Tried) → Sound w → AtWork w → MayCome w input tried
    → IsWithinReach ends old held w
    → IsWithinReach ends old (packs_after_all w held (event_acts line input tried w)) (after_all w (event_acts line input tried w))

-- of a submission,
abbrev pub SubmissionsKeepReach : Type 0
SubmissionsKeepReach = (ends : ℕ → ℕ) (drives : ℕ → Option DriveKind) (old held : ℕ → Pack) (w : World) (line p : ℕ) (r : Request) (h : Held) → Sound w → AtWork w
    → MaySubmit w r p h → (refusal_of r w ≡ None → IsHeldFor (unit_at w h.unit).drive.kind r h) → AreDeclared drives w → AsksBelow ends drives (script.Submit r)
    → IsWithinReach ends old held w
    → IsWithinReach ends old (packs_after_all w held (submit_acts r line p h w)) (after_all w (submit_acts r line p h w))

-- and of an answer that is taken.
abbrev pub AnswersKeepReach : Type 0
AnswersKeepReach = (ends : ℕ → ℕ) (old held : ℕ → Pack) (w : World) → Sound w → 0 < length w.answers → IsWithinReach ends old held w
    → IsWithinReach ends old held (after w Taken)

-- Where the packs failed at a block that was to be written, this block lies below too.
abbrev pub NextBlocksStay : Type 0
NextBlocksStay = (ends : ℕ → ℕ) (held left : ℕ → Pack) (w : World) → Sound w → Reaches ends w → IsNextBlock w held left → StayFrom ends held left
