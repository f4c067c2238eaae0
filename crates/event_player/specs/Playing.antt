-- How far a script is played: what stands between two lines of it.
use Rattle.std.specs.Prelude.{◌≡◌, ℕ, ◌+◌, List, [], ◌∷◌, Option}
use Rattle.pack_geometry.specs.Pack.{Pack}
use Rattle.pack_geometry.specs.TableSpelling.{Table}
use Rattle.trace_replay.specs.Moments.{Moment, played}
use Rattle.trace_replay.specs.Script.{Script, Submit, Noise, Arm, Statement, Plays as PlaysInput, Line, drives_of, inputs_before}
use Rattle.trace_replay.specs.Runs.{start_of}
use Rattle.driver_machine.specs.World.{World}
use Rattle.script_runs.specs.StopsPasses.{IsSoFar, IsKept, AskBelow, TablesBelow, IsWithinReach, AreAsLong}
use Rattle.script_runs.specs.Passes.{AreAsked}

-- HOW MUCH lines bring: so many requests, noises, and lines that arm faults
abbrev pub one_request : Statement → ℕ
one_request (PlaysInput (Submit r)) = 1
one_request statement = 0

abbrev pub one_noise : Statement → ℕ
one_noise (PlaysInput (Noise noise)) = 1
one_noise statement = 0

abbrev pub one_fault : Statement → ℕ
one_fault (PlaysInput (Arm u kind times)) = 1
one_fault statement = 0

abbrev pub counted : (Statement → ℕ) → List Line → ℕ
counted one [] = 0
counted one (line ∷ lines) = one line.statement + counted one lines

-- THE RUN SO FAR, behind the first lines: its moments play these, the replay behind them stands for the driver, what is no sector
-- stayed, each request asks for some blocks of a unit that is there, what images have from the ends of all writes on stayed, and each
-- is as long as the blocks that were written make it.
pub record HasRun (script : Script) (tables : ℕ → Option Table) (old held : ℕ → Pack) (line : ℕ) (done : List Line) (w : World) (moments : List Moment) : Type 0 where
  pub so_far : IsSoFar (start_of script tables old) line moments held w
  pub kept : IsKept (drives_of script) old held w
  pub inputs : played moments ≡ inputs_before [] done
  pub asked : AreAsked (start_of script tables old).there moments
  pub reach : (ends : ℕ → ℕ) → AskBelow ends (drives_of script) (played moments) → TablesBelow ends (drives_of script) tables → IsWithinReach ends old held w
  pub long : AreAsLong (start_of script tables old) moments old held
