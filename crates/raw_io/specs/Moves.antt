-- WHAT A TRANSFER COMES TO, whichever way its bytes go.
use Rattle.std.specs.Prelude.{◌≡◌, ℕ, ◌<◌, Bool, IsTrue, List, Some, Result, Err}
use Rattle.partitions.specs.declared.Part.{Part}
use Rattle.driver_laws.specs.declared.answers.outcome.Stop.{Stop}
use Rattle.driver_laws.specs.rules.Rest.{HasTables}
use Rattle.blocking_io.specs.FrontsPasses.{Stage, setup_at}
use Rattle.blocking_io.specs.Spots.{Keeps, Spot, seen}
use Rattle.raw_io.specs.declared.fault.RawFault.{RawFault}
use Rattle.raw_io.specs.declared.fault.RawFault.TheVariants.{Unusable}
use Rattle.raw_io.specs.Calls.{StopsAt, done_by, stop_of}
use Rattle.raw_io.specs.Pieces.{start_of}
use Rattle.raw_io.specs.Transfers.{Breaks}

-- WHAT IS ANSWERED: of so many bytes all were done, or those before a block that can't be used, or it stopped.
pub record Comes {A : Type 0} (reads : Bool) (unit : ℕ) (part : Part) (size : ℕ) (does : ℕ → Stage → Stage → Type 0) (leaves : Stage → Stage → Type 0) (result : Result A RawFault) (old new : Spot) : Type 0 where
  pub done : (n : ℕ) → done_by size result ≡ Some n → does n (seen old) (seen new)
  pub unusable : (n : ℕ) → result ≡ Err (Unusable n) → n < size
  pub left : (stop : Stop) → stop_of result ≡ Some stop → IsTrue new.packs_tell → HasTables (setup_at (seen old)) → leaves (seen old) (seen new)
  pub breaks : (stop : Stop) → stop_of result ≡ Some stop → Breaks reads unit part stop (seen old) (seen new)
  pub keeps : Keeps old new (stop_of result)

-- a write of a range leaves a front of its bytes
abbrev pub StopsFrom : (unit : ℕ) (part : Part) (at : ℕ) (from : List ℕ) (old new : Stage) → Type 0
StopsFrom unit part at from old new = StopsAt unit (start_of old unit part) at from old new
