-- WHERE A SCRIPT IS PLAYED: the cache, the driver with what packs and trace tell, and the sink for the answers; and what each step comes to there.
use Rattle.std.specs.Prelude.{◌≡◌, ℕ, ◌≤◌, Bool, true, IsTrue, List, [], ◌∷◌, Option, None, Some, option_map, Result, IfOk, IfErr, OnOk, OnErr}
use Rattle.pack_geometry.specs.Pack.{Pack}
use Rattle.trace_replay.specs.requests.Requests.{Request}
use Rattle.trace_replay.specs.declared.requests.answers.AnswerKind.{AnswerKind}
use Rattle.trace_replay.specs.declared.requests.answers.AnswerKind.TheVariants as answer
use Rattle.trace_replay.specs.Script.{Numbered, Script, Submit, inputs_of}
use Rattle.driver_laws.specs.answers.Outcome.{stop_in}
use Rattle.driver_laws.specs.declared.answers.outcome.Stop.{Stop}
use Rattle.driver_laws.specs.rules.Rest.{HasTables}
use Rattle.driver_laws.specs.rules.Requests.{Map}
use Rattle.driver_laws.specs.rules.Entries.{State}
use Rattle.driver_laws.specs.rules.Contents.{cached}
use Rattle.driver_machine.specs.World.{World}
use Rattle.buffer_cache.specs.Passes.{Keeps, Spot, Stage, State as Driver, kind_at, map_at, seen, setup_at, spot}
use Rattle.buffer_cache.specs.Asks.{IsData}
use Rattle.buffer_cache.specs.Calls.{IfTold, MayUse, Reads, Serves, Writes, given_by, is_done}
use Rattle.buffer_cache.specs.declared.fault.CacheFault.{CacheFault}
use Rattle.script_reader.specs.declared.cached.statement.Asked.{Asked}
use Rattle.script_reader.specs.cached.Meaning.{request_of, filled}
use Rattle.script_runs.specs.Faults.{HaveTold}
use Rattle.script_runs.specs.declared.fault.PlayFault.{PlayFault}
use Rattle.cached_run.specs.Answers.{Replacement, replaced_with}
use Rattle.cached_run.specs.Sessions.{block_done, calls_with}
use Rattle.cached_run.specs.Saying.{IsSaid}
use Rattle.cached_run.specs.Leaving.{AreData, AreRead, Does, IsCutIn, KeepsSetup, Leaves, spread, touches, tried_in, usable_in}
use Rattle.cached_run.specs.Lines.{KeepsUnits, MayAsk}
use Rattle.cached_run.specs.Faults.{IsCaused}
use Rattle.cached_run.specs.Going.{GoesOn, Halts, HaltsScript, IsFar, Scene}

pub record Place : Type 0 where
  pub cache : State
  pub spot : Spot
  pub out_tells : Bool
  pub said : List ℕ
  pub out_faults : ℕ

abbrev pub place : {P O T : Type 0} → (P → Bool) → (P → ℕ → Pack) → (P → ℕ) → (O → Bool) → (O → List ℕ) → (O → ℕ) → (T → Bool) → (T → List ℕ) → (T → ℕ)
    → State → Driver → P → O → T → Place
place holds held packs_faults tells said faults trace_tells taken trace_faults s d packs out trace = record {
  cache = s;
  spot = spot holds held packs_faults trace_tells taken trace_faults d packs trace;
  out_tells = tells out;
  said = said out;
  out_faults = faults out;
}

abbrev pub scene_at : Place → Scene
scene_at p = record { site = seen p.spot; out_tells = p.out_tells; said = p.said; out_faults = p.out_faults; trace_faults = p.spot.trace_faults }

abbrev pub world_at : Place → World
world_at p = p.spot.driver.world

-- what is cached there
abbrev pub contents_at : Place → Map
contents_at p = cached p.cache.entries (map_at (seen p.spot))

-- nothing is said, or nothing else is done
abbrev pub IsSilent : (old new : Place) → Type 0
IsSilent old new = new ≡ record old { cache = new.cache; spot = new.spot }

abbrev pub OnlySays : (old new : Place) → Type 0
OnlySays old new = new ≡ record old { out_tells = new.out_tells; said = new.said; out_faults = new.out_faults }

-- ---- ONE BLOCK is read, or written with these bytes.
pub record MayTouch (line unit block : ℕ) (p : Place) : Type 0 where
  pub line_is : 1 ≤ line
  pub may : MayUse p.cache p.spot.driver
  pub block_is : IsData (world_at p) unit block

abbrev pub Moves : (line unit block : ℕ) → (written : Option (List ℕ)) → (into : List ℕ) → Result (Unit {0}) CacheFault → (s s' : State) → (old new : Stage) → Type 0
Moves line unit block None into result s s' old new = Reads line unit block (given_by result into) s s' old new
Moves line unit block (Some from) into result s s' old new = Writes line unit block (is_done result) from s s' old new

abbrev pub Touches : (line unit block : ℕ) → (written : Option (List ℕ)) → (into : List ℕ) → Result (Unit {0}) CacheFault → (old new : Place) → Type 0
Touches line unit block written into result old new = Serves (Moves line unit block written into result old.cache new.cache) line unit block written
    (λ z. (block_done written (cached old.cache.entries (map_at z) unit block) true old.cache unit block).asked) result old.cache new.cache old.spot new.spot

-- ---- CALLS OF THE CACHE for a request turn out so: they were made, or one of them stopped.
pub record Turns {A : Type 0} (at : Map → List Numbered) (list : Map → List Replacement) (P : A → Map → Type 0) (result : Result A Stop) (old new : Place) : Type 0 where
  pub done : IfOk result (λ a. IfTold old.cache (seen old.spot) (seen new.spot) (Does at (list (contents_at old)) (P a) old.cache new.cache (seen old.spot) (seen new.spot)))
  pub left : OnErr result (IfTold old.cache (seen old.spot) (seen new.spot) (Leaves (list (contents_at old)) old.cache (seen old.spot) (seen new.spot)))
  pub cut : IfErr result (λ stop. IfTold old.cache (seen old.spot) (seen new.spot) (IsCutIn stop [] (at (contents_at old)) old.cache (seen old.spot) (seen new.spot)))
  pub setup : OnOk result (KeepsSetup (seen old.spot) (seen new.spot))
  pub may : OnOk result (MayUse new.cache new.spot.driver)
  pub keeps : Keeps old.spot new.spot (stop_in result)
  pub silent : IsSilent old new

-- some blocks of a unit,
pub record MayMove (line unit first count : ℕ) (p : Place) : Type 0 where
  pub line_is : 1 ≤ line
  pub may : MayUse p.cache p.spot.driver
  pub blocks_are : AreData (world_at p) unit first count

abbrev pub moved : (written : Option (List ℕ)) → (n unit first : ℕ) → List Replacement
moved None n unit first = []
moved (Some from) n unit first = spread n unit first from

abbrev pub AreMoved : (written : Option (List ℕ)) → Map → (unit first count done : ℕ) → List (List ℕ) → Type 0
AreMoved None contents unit first count done blocks = AreRead contents unit first count done blocks
AreMoved (Some from) contents unit first count done blocks = done ≡ usable_in contents unit first count

abbrev pub MovesAll : (line unit first count : ℕ) → (written : Option (List ℕ)) → List (List ℕ) → Result ℕ Stop → (old new : Place) → Type 0
MovesAll line unit first count written blocks result old new = Turns (λ contents. touches (tried_in contents unit first count) line unit first written)
    (λ contents. moved written (usable_in contents unit first count) unit first) (λ done contents. AreMoved written contents unit first count done blocks) result old new

-- or what a line asks for: a read, or a write of blocks all of whose bytes are this one
abbrev pub asked_with : Asked → (fill : Option ℕ) → Request
asked_with a fill = request_of a (option_map (filled a.count) fill)

abbrev pub whole_by : (fill : Option ℕ) → (count : ℕ) → AnswerKind
whole_by None count = answer.ReadOk count 512
whole_by (Some byte) count = answer.WriteOk

pub record MayAnswer (line : ℕ) (a : Asked) (p : Place) : Type 0 where
  pub line_is : 1 ≤ line
  pub may : MayUse p.cache p.spot.driver
  pub ask : MayAsk (world_at p) a

abbrev pub Answers : (line : ℕ) → Request → List (List ℕ) → Result AnswerKind Stop → (old new : Place) → Type 0
Answers line r blocks result old new = Turns (λ contents. calls_with (kind_at (world_at old) r.unit) (contents r.unit) line r) (λ contents. replaced_with (kind_at (world_at old) r.unit) (contents r.unit) r)
    (λ how contents. IsSaid (kind_at (world_at old) r.unit) (contents r.unit) r how blocks) result old new

-- ---- INPUTS ARE PLAYED, or one of them stops it.
pub record Passes (result : Result (Unit {0}) PlayFault) (old new : Place) : Type 0 where
  pub told : HaveTold old.spot.packs_tell new.spot.packs_tell old.out_tells new.out_tells old.spot.trace_tells new.spot.trace_tells
  pub causes : IsCaused old.spot.packs_faults new.spot.packs_faults old.out_faults new.out_faults old.spot.trace_faults new.spot.trace_faults result

pub record Plays (more : List Numbered) (result : Result (Unit {0}) PlayFault) (old new : Place) : Type 0 where
  pub goes : OnOk result (IsTrue new.spot.packs_tell → GoesOn more old.cache new.cache (scene_at old) (scene_at new))
  pub halts : OnErr result (IsTrue new.spot.packs_tell → Halts more old.cache (scene_at old) (scene_at new))
  pub may : OnOk result (MayUse new.cache new.spot.driver)
  pub units : OnOk result (KeepsUnits (world_at old) (world_at new))
  pub passes : Passes result old new

abbrev pub plays_at : (line : ℕ) → Request → List Numbered
plays_at line r = record { line = line; input = Submit r } ∷ []

-- a whole script
pub record PlaysScript (script : Script) (result : Result (Unit {0}) PlayFault) (old new : Place) : Type 0 where
  pub plays : OnOk result (IsTrue new.spot.packs_tell → HasTables (setup_at (seen old.spot)) → IsFar (scene_at old) old.cache (inputs_of script) new.cache (scene_at new))
  pub stops : OnErr result (IsTrue new.spot.packs_tell → HasTables (setup_at (seen old.spot)) → HaltsScript script old.cache (scene_at old) (scene_at new))
  pub passes : Passes result old new
