-- A QUIET DRIVER: no request is outstanding, no answer waits, and nothing hinders. Such a driver stands for a replay at rest over
-- its packs, whatever these packs hold.
use Rattle.std.specs.Prelude.{List, ◌≡◌, ◌&&◌, ℕ, nat_lt, Bool, true, false, [], filter, Option, None, Some}
use Rattle.pack_geometry.specs.declared.DriveKind.{DriveKind}
use Rattle.pack_geometry.specs.declared.DriveKind.TheVariants.{Rp06}
use Rattle.pack_geometry.specs.Pack.{Pack}
use Rattle.pack_geometry.specs.TableSpelling.{Table}
use Rattle.hardware_table.specs.Drive.{DriveState}
use Rattle.trace_replay.specs.requests.ServiceOrder.{empty_service}
use Rattle.trace_replay.specs.Drives.{attached}
use Rattle.trace_replay.specs.Packs.{surface_of}
use Rattle.trace_replay.specs.Conversation.{Waiting, not_begun}
use Rattle.trace_replay.specs.Replay.{Replay, UnitSeen, all_units, no_event}
use Rattle.driver_laws.specs.rules.Consistent.{IsConsistent}
use Rattle.driver_laws.specs.rules.Calm.{IsGood}
use Rattle.driver_laws.specs.rules.Stands.{Setup}
use Rattle.driver_laws.specs.rules.Rest.{IsAtRest}
use Rattle.driver_machine.specs.World.{World, UnitView, Setup as UnitSetup, new_world, unit_at, adapter_at}
use Rattle.driver_machine.specs.Guards.{IsSetUp}
use Rattle.driver_machine.specs.Sound.{Sound, AtWork}
use Rattle.driver_machine.specs.Runs.{NoneOutstanding}
use Rattle.driver_laws.specs.shown.Calls.{Stands, AreThere}

-- THE DRIVER IS QUIET: what packs hold is not asked.
pub record IsQuiet (w : World) : Type 0 where
  pub none : NoneOutstanding w
  pub taken : w.answers ≡ []
  pub good : (u : ℕ) → IsSetUp w u → IsGood (unit_at w u).drive
  pub live : w.book.live ≡ []

-- what stays: the drives and tables of the units that are set up, and these packs
abbrev pub kind_if : Bool → DriveKind → Option DriveKind
kind_if true kind = Some kind
kind_if false kind = None

abbrev pub table_if : Bool → Option Table → Option Table
table_if true table = table
table_if false table = None

abbrev pub setup_of : World → (ℕ → Pack) → Setup
setup_of w held = record {
  drives = λ u. kind_if (unit_at w u).declared (unit_at w u).drive.kind;
  tables = λ u. table_if (unit_at w u).declared (unit_at w u).table;
  packs = held;
}

-- THE REPLAY that it stands for, over its packs
abbrev pub drive_if : Bool → DriveState → ℕ → DriveState
drive_if true d u = d
drive_if false d u = attached Rp06 u

abbrev pub unit_rested : UnitView → ℕ → UnitSeen
unit_rested v u = record {
  drive = drive_if v.declared v.drive u;
  service = empty_service;
  stage = Waiting;
  progress = not_begun;
  table = table_if v.declared v.table;
}

abbrev pub rested : World → (ℕ → Pack) → Replay
rested w held = record {
  there = filter (λ u. (unit_at w u).declared) all_units;
  units = λ u. unit_rested (unit_at w u) u;
  adapters = λ a. record { state = (adapter_at w a).state; ready = [] };
  surface = surface_of held;
  frames = 0;
  outstanding = 0;
  event = no_event;
}

-- ANY REPLAY that it stands for: consistent, at rest over these packs, and showing this world.
pub record StandsQuiet (held : ℕ → Pack) (w : World) (s : Replay) : Type 0 where
  pub rest : IsAtRest (setup_of w held) s
  pub stands : Stands held w s
  pub consistent : IsConsistent s
  pub there : AreThere w s
  pub finished : s.event.drains && nat_lt 0 s.outstanding ≡ false

-- There is one, whatever the packs hold,
abbrev pub QuietRests : Type 0
QuietRests = (w : World) (held : ℕ → Pack) → Sound w → AtWork w → IsQuiet w → StandsQuiet held w (rested w held)

-- and a new driver is quiet.
abbrev pub NewIsQuiet : Type 0
NewIsQuiet = (setups : List UnitSetup) (outstanding noises : ℕ) → IsQuiet (new_world setups outstanding noises)
