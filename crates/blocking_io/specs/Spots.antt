-- WHERE A CALL STANDS, by a driver that is ready, what a request comes to there, and what each call keeps.
use Rattle.std.specs.Prelude.{◌≡◌, ℕ, Bool, IsTrue, List, [], Option, None, Result, IfOk, IfErr, OnErr, OnOk}
use Rattle.pack_geometry.specs.Pack.{Pack}
use Rattle.trace_replay.specs.requests.Requests.{Request}
use Rattle.driver_machine.specs.Guards.{IsSetUp}
use Rattle.driver_laws.specs.answers.Outcome.{stop_in}
use Rattle.driver_laws.specs.declared.answers.outcome.Stop.{Stop}
use Rattle.blocking_io.specs.Passes.{HasCauses, State}
use Rattle.blocking_io.specs.declared.reached.Reached.{Reached}
use Rattle.blocking_io.specs.declared.reached.Reached.TheVariants.{Before}
use Rattle.blocking_io.specs.Calls.{Stage}
use Rattle.driver_laws.specs.rules.Rest.{HasTables}
use Rattle.blocking_io.specs.Asking.{Answers, IsReady, setup_at}
use Rattle.blocking_io.specs.Stopping.{Stops}

-- the driver, and what the packs and the trace tell
pub record Spot : Type 0 where
  pub driver : State
  pub packs_tell : Bool
  pub held : ℕ → Pack
  pub packs_faults : ℕ
  pub trace_tells : Bool
  pub taken : List ℕ
  pub trace_faults : ℕ

abbrev pub spot : {O Q : Type 0} → (holds : Q → Bool) → (held : Q → ℕ → Pack) → (packs_faults : Q → ℕ) → (tells : O → Bool) → (taken : O → List ℕ) → (faults : O → ℕ) → State → Q → O → Spot
spot holds held packs_faults tells taken faults s packs trace = record {
  driver = s;
  packs_tell = holds packs;
  held = held packs;
  packs_faults = packs_faults packs;
  trace_tells = tells trace;
  taken = taken trace;
  trace_faults = faults trace;
}

-- with what a caller is given there, or with nothing
abbrev pub giving : Spot → Reached → List ℕ → Stage
giving s reached bytes = record {
  world = s.driver.world;
  packs_tell = s.packs_tell;
  held = s.held;
  trace_tells = s.trace_tells;
  taken = s.taken;
  given = record { reached = reached; bytes = bytes };
}

abbrev pub seen : Spot → Stage
seen s = giving s (Before 0) []

-- A REQUEST IS WAITED FOR: it is answered, or it stops.
pub record Waits (line : ℕ) (r : Request) (into into' : List ℕ) (result : Result Reached Stop) (old new : Spot) : Type 0 where
  pub answers : IfOk result (λ reached. Answers line r (giving old (Before 0) into) (giving new reached into'))
  pub stops : IfErr result (λ stop. Stops stop line r (giving old (Before 0) into) (giving new (Before 0) into'))
  pub ready : OnOk result (IsReady new.driver)
  pub outstanding : new.driver.outstanding ≡ old.driver.outstanding
  pub never_again : IsTrue new.packs_tell → IsTrue old.packs_tell
  pub never_again_trace : IsTrue new.trace_tells → IsTrue old.trace_tells
  pub causes : HasCauses old.packs_faults new.packs_faults old.trace_faults new.trace_faults (stop_in result)

-- WHAT IS KEPT by each call, at every answer.
pub record Keeps (old new : Spot) (stop : Option Stop) : Type 0 where
  pub ready : stop ≡ None → IsReady new.driver
  pub units : stop ≡ None → (u : ℕ) → IsSetUp old.driver.world u → IsSetUp new.driver.world u
  pub outstanding : new.driver.outstanding ≡ old.driver.outstanding
  pub never_again : IsTrue new.packs_tell → IsTrue old.packs_tell
  pub never_again_trace : IsTrue new.trace_tells → IsTrue old.trace_tells
  pub causes : HasCauses old.packs_faults new.packs_faults old.trace_faults new.trace_faults stop

-- HOW A CALL TURNS OUT: it did this; or it left that, and stopped there. What the packs hold is said where they tell it, and the
-- driver's tables are theirs.
pub record TurnsOut {A : Type 0} (does : A → Stage → Stage → Type 0) (leaves : Stage → Stage → Type 0) (stops : Stop → Stage → Stage → Type 0) (result : Result A Stop) (old new : Spot) : Type 0 where
  pub done : IfOk result (λ a. does a (seen old) (seen new))
  pub left : OnErr result (IsTrue new.packs_tell → HasTables (setup_at (seen old)) → leaves (seen old) (seen new))
  pub stopped : IfErr result (λ stop. stops stop (seen old) (seen new))
  pub keeps : Keeps old new (stop_in result)
