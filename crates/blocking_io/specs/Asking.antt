-- A REQUEST THAT IS WAITED FOR, as its callers see it: over the driver's world and the packs before and after.
use Rattle.std.specs.Prelude.{◌≡◌, ℕ, ◌≤◌, false, IsTrue, List, [], ◌∷◌, ◌++◌, None, Some}
use Rattle.pack_geometry.specs.Pack.{Pack, block_at}
use Rattle.trace_replay.specs.requests.Requests as told
use Rattle.trace_replay.specs.requests.Requests.{IsRequest}
use Rattle.trace_replay.specs.Moments.{Moment, Played}
use Rattle.trace_replay.specs.Text.{trace_text}
use Rattle.trace_replay.specs.Replay.{Replay, IsOver}
use Rattle.driver_laws.specs.rules.Stands.{Setup, home_in}
use Rattle.driver_machine.specs.Guards.{IsSetUp}
use Rattle.driver_laws.specs.shown.RunsRuns.{Stay}
use Rattle.driver_laws.specs.shown.Lengths.{AreAsLong}
use Rattle.driver_laws.specs.rules.Sessions.{Part, IsSession, behind_all, waited}
use Rattle.driver_laws.specs.rules.Rest.{HasTables}
use Rattle.driver_laws.specs.rules.Waited.{map_of, answer_in, map_behind, with_packs}
use Rattle.hp_driver.specs.Passes.{IsQuiet, setup_of, StandsQuiet}
use Rattle.trace_replay.specs.declared.requests.request.Request.{Request}
use Rattle.hp_driver.specs.Subsystem.{State, asked}
use Rattle.blocking_io.specs.Given.{reached_by, bytes_by}
use Rattle.blocking_io.specs.Calls.{Stage}

-- BETWEEN TWO REQUESTS the driver is ready: it is quiet, no call of it has failed, and all that it told is sent.
pub record IsReady (s : State) : Type 0 where
  pub quiet : IsQuiet s.world
  pub going : s.failed ≡ false
  pub sent : s.kept ≡ []

-- WHAT MAY BE ASKED of a driver that is ready and has room for a request: a request to a unit that is set up, with just the bytes of a
-- write and none for a read.
pub record MayAsk (s : State) (r : Request) (bytes : List ℕ) : Type 0 where
  pub ready : IsReady s
  pub room : 1 ≤ s.outstanding
  pub unit : IsSetUp s.world r.unit
  pub request : IsRequest (asked r bytes)
  pub none : r.write ≡ false → bytes ≡ []

-- the drives and tables that the driver has, over the packs
abbrev pub setup_at : Stage → Setup
setup_at stage = setup_of stage.world stage.held

-- the moments of parts: each input, and the lines behind it
abbrev pub moments_in : List Part → List Moment
moments_in [] = []
moments_in (p ∷ parts) = Played p.line p.input ∷ (p.told ++ moments_in parts)

-- THE LINES of a request that was waited for are those of one session, from each replay that stands for the driver before, and the replay
-- behind it stands for the driver after; so requests follow one another, and nobody has to know what came before.
pub record Follows (line : ℕ) (r : told.Request) (asked drained : List Moment) (old new : Stage) (s : Replay) : Type 0 where
  pub session : IsSession s (waited line r asked drained)
  pub over : IsOver (behind_all s (waited line r asked drained))
  pub stands : StandsQuiet new.held new.world (behind_all s (waited line r asked drained))

-- WHERE THE PACKS TELL what they hold, and the driver's tables are theirs: the answer is that of the map; what was given is given by it;
-- the packs hold the map behind it; and what is no home of a data block is as it was.
pub record IsMapped (line : ℕ) (r : told.Request) (asked drained : List Moment) (old new : Stage) : Type 0 where
  pub follows : (s : Replay) → StandsQuiet old.held old.world s → Follows line r asked drained old new s
  pub reached : new.given.reached ≡ reached_by (answer_in (setup_at old) r)
  pub bytes : new.given.bytes ≡ bytes_by (answer_in (setup_at old) r) old.given.bytes
  pub map : (unit block : ℕ) → map_of (setup_at new) unit block ≡ map_behind (setup_at old) r unit block
  pub others : (unit sector : ℕ) → ((block : ℕ) → home_in (setup_at old) unit block ≡ Some sector → ⊥)
      → block_at (new.held unit).image sector ≡ block_at (old.held unit).image sector
  pub tables : HasTables (setup_at new)

-- EACH IMAGE STAYS, byte for byte.
abbrev pub ImagesStay : (old new : ℕ → Pack) → Type 0
ImagesStay old new = (unit : ℕ) → (new unit).image ≡ (old unit).image

-- WHERE NOTHING STOPS IT. Units, kinds and tables of the driver stay; and of the packs, where they tell, what lies beyond their sectors,
-- the marks, and those of other units; and each image is just as long as the blocks that were written make it. A read leaves each image.
pub record Answers (line : ℕ) (r : told.Request) (old new : Stage) : Type 0 where
  pub asked : List Moment
  pub drained : List Moment
  pub trace : IsTrue new.trace_tells → new.taken ≡ old.taken ++ trace_text (asked ++ drained)
  pub units : (u : ℕ) → IsSetUp old.world u → IsSetUp new.world u
  pub setup : setup_at new ≡ with_packs (setup_at old) new.held
  pub stays : IsTrue new.packs_tell → Stay (setup_at old).drives old.held new.held
  pub long : IsTrue new.packs_tell → (s : Replay) → StandsQuiet old.held old.world s → AreAsLong s (moments_in (waited line r asked drained)) old.held new.held
  pub images : IsTrue new.packs_tell → r.written ≡ None → ImagesStay old.held new.held
  pub mapped : IsTrue new.packs_tell → HasTables (setup_at old) → IsMapped line r asked drained old new
