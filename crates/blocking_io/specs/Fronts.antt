-- WHERE A REQUEST STOPPED the packs hold a front of it: some of its first blocks are replaced where it writes, each whole, and nothing
-- else is changed.
use Rattle.std.specs.Prelude.{◌≡◌, ◌≢◌, ℕ, ◌+◌, ◌<◌, ◌≤◌, IsTrue, Some, IsSome}
use Rattle.pack_geometry.specs.declared.DriveKind.{DriveKind}
use Rattle.pack_geometry.specs.Geometry.{block_count}
use Rattle.pack_geometry.specs.Pack.{Pack, block_at}
use Rattle.trace_replay.specs.requests.Requests.{Request, IsRequest}
use Rattle.driver_laws.specs.rules.Machine.{blocks_done}
use Rattle.driver_laws.specs.rules.Stands.{Setup, home_in}
use Rattle.driver_machine.specs.Guards.{IsSetUp}
use Rattle.driver_machine.specs.Sound.{Sound, AtWork}
use Rattle.driver_laws.specs.declared.answers.outcome.Stop.{Stop}
use Rattle.blocking_io.specs.Passes.{Stay, IsQuiet}
use Rattle.driver_laws.specs.rules.Rest.{HasTables}
use Rattle.driver_laws.specs.rules.Sessions.{waited, told_in}
use Rattle.driver_laws.specs.rules.Waited.{map_of, first_in, answer_in, with_packs}
use Rattle.driver_laws.specs.rules.Cleans.{MovedClean, done_by}
use Rattle.blocking_io.specs.Calls.{Stage}
use Rattle.blocking_io.specs.Asking.{setup_at, Answers}
use Rattle.blocking_io.specs.Stopping.{Stops}

-- what is no home of a data block stays
pub record OthersStay (setup : Setup) (left : ℕ → Pack) : Type 0 where
  pub sectors : (unit sector : ℕ) (kind : DriveKind) → setup.drives unit ≡ Some kind → sector < block_count kind
      → ((block : ℕ) → home_in setup unit block ≡ Some sector → ⊥) → block_at (left unit).image sector ≡ block_at (setup.packs unit).image sector
  pub stay : Stay setup.drives setup.packs left

pub record HoldsFront (setup : Setup) (r : Request) (left : ℕ → Pack) : Type 0 where
  pub done : ℕ
  pub few : done ≤ r.count
  pub usable : (k : ℕ) → k < done → IsSome (map_of setup r.unit (first_in setup r + k))
  pub map : (block : ℕ) → map_of (with_packs setup left) r.unit block ≡ blocks_done (map_of setup r.unit) (first_in setup r) r done block
  pub units : (u block : ℕ) → u ≢ r.unit → map_of (with_packs setup left) u block ≡ map_of setup u block
  pub others : OthersStay setup left

abbrev pub StoppedHoldsFront : Type 0
StoppedHoldsFront = (stop : Stop) (line : ℕ) (r : Request) (old new : Stage) → Sound old.world → AtWork old.world → IsQuiet old.world → IsSetUp old.world r.unit → IsRequest r
    → HasTables (setup_at old) → IsTrue new.packs_tell → Stops stop line r old new → HoldsFront (setup_at old) r new.held

-- WHERE IT WAS ANSWERED each block that is done moved clean: its lines tell of the sector at the block's home.
abbrev pub AnsweredMovesClean : Type 0
AnsweredMovesClean = (line : ℕ) (r : Request) (old new : Stage) → Sound old.world → AtWork old.world → IsQuiet old.world → IsSetUp old.world r.unit → IsRequest r
    → HasTables (setup_at old) → IsTrue new.packs_tell → (answers : Answers line r old new) → (k : ℕ) → k < done_by (answer_in (setup_at old) r) r.count
    → MovedClean (setup_at old) r.unit (first_in (setup_at old) r + k) (told_in (waited line r answers.asked answers.drained))
