-- The machine's run of a script, line by line: what stands behind some lines, and that each further line leaves the like.
use Rattle.std.specs.Prelude.{◌≡◌, ℕ, ◌+◌, ◌≤◌, ◌==◌, if◌then◌else◌, List, [], ◌∷◌, length, Option, None, Some, is_some}
use Rattle.pack_geometry.specs.declared.DriveKind.{DriveKind}
use Rattle.pack_geometry.specs.Pack.{Pack}
use Rattle.pack_geometry.specs.TableSpelling.{Table}
use Rattle.pack_geometry.specs.PackTable.{AreTablesOf}
use Rattle.trace_replay.specs.requests.Requests.{Request}
use Rattle.trace_replay.specs.Moments.{Moment, played}
use Rattle.trace_replay.specs.Script.{Script, Numbered, drives_of}
use Rattle.trace_replay.specs.Runs.{start_of}
use Rattle.driver_machine.specs.World.{World, Held, Setup, new_world, unit_at}
use Rattle.driver_machine.specs.Events.{next_event, refusal_of}
use Rattle.driver_machine.specs.Guards.{IsSetUp, IsHeldFor}
use Rattle.driver_laws.specs.invariant.Setups.{AreSetups}
use Rattle.driver_machine.specs.Runs.{MaySubmit}
use Rattle.driver_laws.specs.shown.Acts.{AreSetUp}
use Rattle.driver_laws.specs.shown.Runs.{IsSoFar}
use Rattle.driver_laws.specs.shown.RunsRuns.{IsKept}
use Rattle.driver_laws.specs.shown.Drains.{AreAsked}
use Rattle.driver_laws.specs.answers.Counts.{IsWithin}
use Rattle.driver_laws.specs.answers.Ids.{AreOf}

-- THE UNITS are set up as the script declares them.
abbrev pub AreUnits : Script → World → Type 0
AreUnits script w = (unit : ℕ) (kind : DriveKind) → drives_of script unit ≡ Some kind → IsSetUp w unit × ((unit_at w unit).drive.kind ≡ kind)

-- ROOM. Behind so many lines of a script at most so many requests stand in slots, with these ids, and so on; there are as many slots,
-- and as many noises may be armed, as the script has lines; and no answer waits.
pub record HasRoom (script : Script) (total done : ℕ) (used : List ℕ) (w : World) : Type 0 where
  pub units : AreUnits script w
  pub within : IsWithin done done done w
  pub ids : AreOf used w
  pub capacity : w.book.capacity ≡ total
  pub slots : length w.slots ≡ total
  pub none_waits : w.answers ≡ []

-- THE RUN SO FAR, behind these inputs
pub record IsFar (script : Script) (tables : ℕ → Option Table) (old : ℕ → Pack) (line : ℕ) (inputs : List Numbered) (held : ℕ → Pack) (w : World) (moments : List Moment) : Type 0 where
  pub so_far : IsSoFar (start_of script tables old) line moments held w
  pub kept : IsKept (drives_of script) old held w
  pub plays : played moments ≡ inputs
  pub asked : AreAsked (start_of script tables old).there moments

-- THERE IS A RUN behind some inputs.
pub record Behind (script : Script) (tables : ℕ → Option Table) (old : ℕ → Pack) (total done : ℕ) (used : List ℕ) (line : ℕ) (inputs : List Numbered) : Type 0 where
  pub held : ℕ → Pack
  pub world : World
  pub moments : List Moment
  pub far : IsFar script tables old line inputs held world moments
  pub room : HasRoom script total done used world

-- and one behind which no event can come
pub record Drained (script : Script) (tables : ℕ → Option Table) (old : ℕ → Pack) (total done : ℕ) (used : List ℕ) (line : ℕ) (inputs : List Numbered) : Type 0 where
  pub behind : Behind script tables old total done used line inputs
  pub over : next_event behind.world ≡ None

-- THE TABLE of a unit that is set up
abbrev pub tables_in : List Setup → ℕ → Option Table
tables_in [] unit = None
tables_in (s ∷ setups) unit = if s.unit == unit then s.table else tables_in setups unit

-- THE START: setups of the drives that the script declares, with the tables of the packs
pub record AreSetFor (script : Script) (tables : ℕ → Option Table) (setups : List Setup) : Type 0 where
  pub are : AreSetups setups
  pub set : (outstanding noises : ℕ) → AreSetUp (drives_of script) tables (new_world setups outstanding noises)
  pub declared : (outstanding noises x : ℕ) → is_some (drives_of script x) ≡ (unit_at (new_world setups outstanding noises) x).declared

pub record HasSetups (script : Script) (old : ℕ → Pack) : Type 0 where
  pub tables : ℕ → Option Table
  pub setups : List Setup
  pub read : AreTablesOf (drives_of script) old tables
  pub set : AreSetFor script tables setups

-- A SLOT AND FRAMES for a request, where there is room for it
pub record HasPlace (w : World) (r : Request) : Type 0 where
  pub slot : ℕ
  pub held : Held
  pub may : MaySubmit w r slot held
  pub is : refusal_of r w ≡ None → IsHeldFor (unit_at w held.unit).drive.kind r held

-- ONE LINE that is played: behind it at most one more is counted.
pub record Went (script : Script) (tables : ℕ → Option Table) (old : ℕ → Pack) (total done : ℕ) (used : List ℕ) (line : ℕ) (inputs : List Numbered) : Type 0 where
  pub done_now : ℕ
  pub few : done_now ≤ done + 1
  pub behind : Behind script tables old total done_now used line inputs
