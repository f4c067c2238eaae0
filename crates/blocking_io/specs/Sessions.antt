-- REQUESTS ONE AFTER ANOTHER: what each is promised of the driver and the packs before it joins to what is promised of them all.
use Rattle.std.specs.Prelude.{◌≡◌, ℕ, IsTrue, List, ◌++◌}
use Rattle.trace_replay.specs.requests.Requests.{Request}
use Rattle.trace_replay.specs.Text.{trace_text}
use Rattle.trace_replay.specs.Replay.{Replay}
use Rattle.driver_laws.specs.declared.answers.outcome.Stop.{Stop}
use Rattle.driver_laws.specs.shown.RunsRuns.{Stay}
use Rattle.driver_laws.specs.shown.Lengths.{AreAsLong}
use Rattle.driver_laws.specs.rules.Sessions.{Part, IsSession, behind_all, waited, told_in}
use Rattle.driver_laws.specs.rules.Rest.{HasTables}
use Rattle.driver_laws.specs.rules.Waited.{with_packs}
use Rattle.hp_driver.specs.Passes.{StandsQuiet}
use Rattle.blocking_io.specs.Calls.{Stage}
use Rattle.blocking_io.specs.Asking.{setup_at, moments_in, Answers}
use Rattle.blocking_io.specs.Stopping.{StopsIn}

-- A SESSION THAT CAME TO ITS END, from each replay that stands for the driver before; the replay behind it stands for it after, and each
-- image is just as long as the blocks that were written make it.
pub record Reaches (parts : List Part) (new : Stage) (s : Replay) : Type 0 where
  pub session : IsSession s parts
  pub stands : StandsQuiet new.held new.world (behind_all s parts)

pub record GoesOn (parts : List Part) (old new : Stage) : Type 0 where
  pub trace : IsTrue new.trace_tells → new.taken ≡ old.taken ++ trace_text (told_in parts)
  pub setup : setup_at new ≡ with_packs (setup_at old) new.held
  pub stays : IsTrue new.packs_tell → Stay (setup_at old).drives old.held new.held
  pub long : IsTrue new.packs_tell → HasTables (setup_at old) → (s : Replay) → StandsQuiet old.held old.world s → AreAsLong s (moments_in parts) old.held new.held
  pub tables : IsTrue new.packs_tell → HasTables (setup_at old) → HasTables (setup_at new)
  pub reaches : IsTrue new.packs_tell → HasTables (setup_at old) → (s : Replay) → StandsQuiet old.held old.world s → Reaches parts new s

-- what tells at the end told before
pub record StillTell (old new : Stage) : Type 0 where
  pub packs : IsTrue new.packs_tell → IsTrue old.packs_tell
  pub trace : IsTrue new.trace_tells → IsTrue old.trace_tells

-- A request that is answered is such a session.
abbrev pub AnswersReach : Type 0
AnswersReach = (line : ℕ) (r : Request) (old new : Stage) (answers : Answers line r old new) → GoesOn (waited line r answers.asked answers.drained) old new

-- Two of them are one,
abbrev pub SessionsJoin : Type 0
SessionsJoin = (first next : List Part) (old mid new : Stage) → GoesOn first old mid → GoesOn next mid new → StillTell mid new → GoesOn (first ++ next) old new

-- and where the second one stops, so does the whole.
abbrev pub StopsJoin : Type 0
StopsJoin = (stop : Stop) (first next : List Part) (old mid new : Stage) → GoesOn first old mid → StopsIn stop next mid new → StillTell mid new
    → StopsIn stop (first ++ next) old new
