-- HOW EACH CALL OF THE PLAYER TURNS OUT: a statement at a line, a script, and the whole play.
use Rattle.std.specs.Prelude.{◌≡◌, ℕ, IsTrue, [], Option, Result, OnOk, IfOk, IfErr, IsErrOf}
use Rattle.pack_geometry.specs.PackTable.{AreTablesOf}
use Rattle.pack_geometry.specs.TableSpelling.{Table}
use Rattle.outside_traits.specs.declared.traits.PackCall.{PackCall}
use Rattle.trace_replay.specs.Script.{Script, Statement, drives_of}
use Rattle.script_runs.specs.declared.fault.PlayFault.{PlayFault}
use Rattle.script_runs.specs.declared.fault.PlayFault.TheVariants as faults
use Rattle.script_runs.specs.Faults.{HaveTold, Rise}
use Rattle.trace_lines.specs.declared.answers.tally.Tally.{Tally}
use Rattle.trace_lines.specs.answers.Counting.{tally_by}
use Rattle.event_player.specs.Calls.{KeepsGoing, MayGoOn}
use Rattle.event_player.specs.Playing.{HasRun, counted, one_request}
use Rattle.event_player.specs.Plays.{Tallied}
use Rattle.event_player.specs.Saying.{Side}
use Rattle.event_player.specs.Spots.{Caused, Keeps, PacksAt, Spot, taking}
use Rattle.event_player.specs.Steps.{Brings, PlaysLine, PlaysScript, Ready}
use Rattle.event_player.specs.Stops.{Leaves, StopsLine, StopsScript}

-- HOW A CALL TURNS OUT: it came to this, and another call may follow; or it stopped so, for a cause.
pub record TurnsOut {V : Type 0} (Plays : Spot → Spot → Type 0) (Stops : PlayFault → Spot → Spot → Type 0) (result : Result V PlayFault) (old new : Spot) : Type 0 where
  pub plays : OnOk result (Plays old new)
  pub goes : OnOk result (KeepsGoing old.driver new.driver)
  pub stops : IfErr result (λ fault. Stops fault old new)
  pub caused : IfErr result (λ fault. Caused fault old new)
  pub keeps : Keeps old new

-- WHERE THE PACKS TELL, what was to be played is, or the stop is that of it; and the statement brings what it says.
pub record PlaysAs (Plays : Spot → Spot → Type 0) (statement : Statement) (old new : Spot) : Type 0 where
  pub plays : IsTrue new.packs.tells → Plays old new
  pub brings : Brings statement old.driver.world new.driver.world

abbrev pub StopsAs : (PlayFault → Spot → Spot → Type 0) → PlayFault → Spot → Spot → Type 0
StopsAs Stops fault old new = IsTrue new.packs.tells → Stops fault old new

-- A STATEMENT is played so at a line.
abbrev pub PlaysAt : {V : Type 0} → (line : ℕ) → Statement → Result V PlayFault → Spot → Spot → Type 0
PlaysAt line statement = TurnsOut (PlaysAs (PlaysLine line statement) statement) (StopsAs (StopsLine line statement))

-- A SCRIPT is played from a start at which nothing is kept.
pub record IsAtStart (script : Script) (s : Spot) : Type 0 where
  pub may : MayGoOn s.driver
  pub ready : Ready script 0 0 0 [] s.driver.world
  pub outstanding : s.driver.outstanding ≡ counted one_request script.lines
  pub kept : s.out.kept ≡ []
  pub sent : s.lines.kept ≡ []

-- with the tables of its packs, and a tally of none
pub record Begins (script : Script) (s : Spot) : Type 0 where
  pub tables : ℕ → Option Table
  pub read : IsTrue s.packs.tells → AreTablesOf (drives_of script) s.packs.held tables
  pub run : HasRun script tables s.packs.held s.packs.held 0 [] s.driver.world []
  pub start : IsAtStart script s
  pub tally : s.tally ≡ tally_by (counted one_request script.lines) [] []

abbrev pub PlaysTheScript : {V : Type 0} → Script → Result V PlayFault → Spot → Spot → Type 0
PlaysTheScript script = TurnsOut (λ old new. IsTrue new.packs.tells → (tables : ℕ → Option Table) → PlaysScript script tables old new)
    (StopsAs (λ fault old new. (tables : ℕ → Option Table) → StopsScript script tables fault old new))

-- THE WHOLE PLAY of units that are set up, from what packs and sinks were to what they are.
pub record PlaysOver (script : Script) (result : Result Tally PlayFault) (packs packs' : PacksAt) (out out' lines lines' : Side) : Type 0 where
  pub tallied : IfOk result (λ tally. IsTrue packs'.tells → Tallied script packs.held packs'.held out'.tells out.took out'.took lines'.tells lines.took lines'.took tally)
  pub requests : IfOk result (λ tally. tally.requests ≡ counted one_request script.lines)
  pub stopped : IfErr result (λ fault. IsTrue packs'.tells → (call : PackCall) → Leaves fault script packs.held packs'.held call (taking out out') (taking lines lines'))
  pub too_long : (unit n : ℕ) → IsErrOf result (faults.TooLong unit n) → ⊥
  pub told : HaveTold packs.tells packs'.tells out.tells out'.tells lines.tells lines'.tells
  pub causes : Rise packs.faults packs'.faults out.faults out'.faults lines.faults lines'.faults result
