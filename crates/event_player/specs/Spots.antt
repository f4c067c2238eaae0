-- WHERE A CALL OF THE PLAYER STANDS: the driver, the packs, the two sinks and the tally; and what calls of the driver and of the sinks do there.
use Rattle.std.specs.Prelude.{◌≡◌, ◌⊎◌, ℕ, ◌≤◌, Bool, true, false, IsTrue, List, [], ◌++◌, Result, OnOk, OnErr}
use Rattle.pack_geometry.specs.Pack.{Pack}
use Rattle.outside_traits.specs.Causes.{Rose, HasCause}
use Rattle.outside_traits.specs.Gathers.{Gathers}
use Rattle.outside_traits.specs.declared.traits.SinkFailed.{SinkFailed}
use Rattle.trace_replay.specs.requests.Requests as told
use Rattle.trace_replay.specs.Moments.{Answered, Idle}
use Rattle.trace_replay.specs.Script.{Input}
use Rattle.trace_replay.specs.Text.{moment_text}
use Rattle.driver_laws.specs.answers.Outcome.{stop_in}
use Rattle.driver_laws.specs.declared.answers.outcome.Stop.{Stop}
use Rattle.hp_driver.specs.Passes.{HasCauses}
use Rattle.hp_driver.specs.Subsystem.{State, Submits, Comes, sink_in, is_move}
use Rattle.script_runs.specs.declared.fault.PlayFault.{PlayFault}
use Rattle.script_runs.specs.declared.fault.PlayFault.TheVariants as faults
use Rattle.script_runs.specs.Faults.{HaveTold}
use Rattle.trace_lines.specs.declared.answers.tally.Tally.{Tally}
use Rattle.trace_lines.specs.answers.Counting.{Counts}
use Rattle.script_runs.specs.Stops.{Took, TakesRest}
use Rattle.event_player.specs.Saying.{Side, side, Says}
use Rattle.event_player.specs.Calls.{KeepsGoing}

-- the packs: whether they tell, what they hold, and their count of faults
pub record PacksAt : Type 0 where
  pub tells : Bool
  pub held : ℕ → Pack
  pub faults : ℕ

-- the place itself, with the names of what was lent for it. What the driver keeps of the trace is kept for the sink of the lines.
pub record Spot : Type 0 where
  pub driver : State
  pub packs : PacksAt
  pub out : Side
  pub lines : Side
  pub tally : Tally
  pub loans : List ℕ

abbrev pub packs_at : {P : Type 0} → (P → Bool) → (P → ℕ → Pack) → (P → ℕ) → P → PacksAt
packs_at holds held failures packs = record { tells = holds packs; held = held packs; faults = failures packs }

abbrev pub spot : {P O T : Type 0} → (P → Bool) → (P → ℕ → Pack) → (P → ℕ) → (O → Bool) → (O → List ℕ) → (O → ℕ) → (T → Bool) → (T → List ℕ) → (T → ℕ)
    → State → List ℕ → Tally → P → O → T → List ℕ → Spot
spot holds held failures out_tells said out_faults trace_tells taken trace_faults s gathered tally packs out trace loans = record {
  driver = record s { kept = [] };
  packs = packs_at holds held failures packs;
  out = side out_tells said out_faults out gathered;
  lines = side trace_tells taken trace_faults trace s.kept;
  tally = tally;
  loans = loans;
}

-- as the contracts of the driver and of the sinks read it
abbrev pub tells : Side → Bool
tells s = s.tells

abbrev pub took : Side → List ℕ
took s = s.took

abbrev pub faults_of : Side → ℕ
faults_of s = s.faults

abbrev pub telling : PacksAt → Bool
telling p = p.tells

abbrev pub held_at : PacksAt → ℕ → Pack
held_at p = p.held

abbrev pub taking : Side → Side → Took
taking old new = record { tells = new.tells; before = old.took; after = new.took; faults = old.faults; faults_after = new.faults }

abbrev pub emptied : Side → Side
emptied s = record s { kept = [] }

-- all that was said for a sink: what it took, and what is kept
abbrev pub all_for : Side → List ℕ
all_for s = s.took ++ s.kept

-- the place with other packs
abbrev pub holding : Spot → (ℕ → Pack) → Spot
holding s held = record s { packs = record s.packs { held = held } }

-- A TEXT IS SAID with these answers, and both are counted.
pub record SaysText {T E : Type 0} (answers : List Answered) (text : List ℕ) (result : Result T E) (old new : Spot) : Type 0 where
  pub says : Says old.out new.out old.lines new.lines result text
  pub counts : OnOk result (Counts answers text old.tally new.tally)
  pub requests : new.tally.requests ≡ old.tally.requests
  pub same : new ≡ record old { driver = new.driver; out = new.out; lines = new.lines; tally = new.tally }

-- BEFORE A MOVE THAT MAY WRITE all text is sent, lines first; before any other event nothing is.
pub record Sends {T E : Type 0} (writes : Bool) (result : Result T E) (old new : Spot) : Type 0 where
  pub says : Says old.out new.out old.lines new.lines result []
  pub still : writes ≡ false → new ≡ old
  pub emptied : OnOk result (writes ≡ true → (new.out.kept ≡ []) × (new.lines.kept ≡ []))
  pub stopped : OnErr result (writes ≡ true)
  pub same : new ≡ record old { out = new.out; lines = new.lines }

-- THE REST IS SENT, lines first, whatever comes of it.
pub record SendsRest (old new : Spot) : Type 0 where
  pub lines : TakesRest (taking old.lines new.lines) [] old.lines.kept
  pub answers : TakesRest (taking old.out new.out) [] old.out.kept
  pub again : IsTrue new.out.tells → IsTrue old.out.tells
  pub again_lines : IsTrue new.lines.tells → IsTrue old.lines.tells
  pub later : old.out.faults ≤ new.out.faults
  pub later_lines : old.lines.faults ≤ new.lines.faults
  pub same : new ≡ record old { out = new.out; lines = new.lines }

-- A CALL OF THE DRIVER: a submission,
pub record SubmitsAt {T : Type 0} (line : ℕ) (r : told.Request) (result : Result T SinkFailed) (old new : Spot) : Type 0 where
  pub does : Submits tells took old.lines new.lines line r old.driver.world new.driver.world old.lines.kept new.lines.kept (sink_in result)
  pub goes : OnOk result (KeepsGoing old.driver new.driver)
  pub again : IsTrue new.lines.tells → IsTrue old.lines.tells
  pub cause : HasCause old.lines.faults new.lines.faults result
  pub same : new ≡ record old { driver = new.driver; lines = new.lines }

-- an event,
pub record ComesAt (line : ℕ) (input : Input) (result : Result (Unit {0}) Stop) (old new : Spot) : Type 0 where
  pub does : Comes telling held_at tells took old.packs new.packs old.lines new.lines line input old.driver.world new.driver.world old.lines.kept new.lines.kept (stop_in result)
  pub goes : OnOk result (KeepsGoing old.driver new.driver)
  pub still : is_move input ≡ false → new.packs ≡ old.packs
  pub again : IsTrue new.packs.tells → IsTrue old.packs.tells
  pub again_lines : IsTrue new.lines.tells → IsTrue old.lines.tells
  pub causes : HasCauses old.packs.faults new.packs.faults old.lines.faults new.lines.faults (stop_in result)
  pub same : new ≡ record old { driver = new.driver; packs = new.packs; lines = new.lines }

-- or a drain that finds nothing to do.
pub record IdlesAt {T E : Type 0} (line : ℕ) (result : Result T E) (old new : Spot) : Type 0 where
  pub gathers : Gathers tells took faults_of old.lines new.lines old.lines.kept new.lines.kept result (moment_text (Idle line))
  pub same : new ≡ record old { lines = new.lines }

-- WHAT EACH CALL KEEPS: what tells now told before, no count of faults falls, and the tally counts the same requests.
pub record Keeps (old new : Spot) : Type 0 where
  pub told : HaveTold old.packs.tells new.packs.tells old.out.tells new.out.tells old.lines.tells new.lines.tells
  pub later : old.packs.faults ≤ new.packs.faults
  pub later_out : old.out.faults ≤ new.out.faults
  pub later_lines : old.lines.faults ≤ new.lines.faults
  pub requests : new.tally.requests ≡ old.tally.requests
  pub loans : new.loans ≡ old.loans

-- WHY ONE STOPS: the packs or a sink failed, whose count of faults then rose.
abbrev pub Caused : PlayFault → Spot → Spot → Type 0
Caused faults.Store old new = Rose old.packs.faults new.packs.faults
Caused faults.Sink old new = Rose old.out.faults new.out.faults ⊎ Rose old.lines.faults new.lines.faults
Caused fault old new = ⊥
