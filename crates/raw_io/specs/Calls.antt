-- WHAT A RAW TRANSFER COMES TO, over what the packs hold before.
use Rattle.std.specs.Prelude.{◌≡◌, ◌≢◌, ℕ, ◌≤◌, List, take, length, Option, None, Some, Result, Ok, Err}
use Rattle.driver_laws.specs.declared.answers.outcome.Stop.{Stop}
use Rattle.driver_laws.specs.declared.answers.outcome.Stop.TheVariants as stopped
use Rattle.driver_laws.specs.rules.Laid.{laid}
use Rattle.blocking_io.specs.FrontsPasses.{Stage, setup_at}
use Rattle.blocking_io.specs.Fronts.{OthersStay}
use Rattle.blocking_io.specs.Sites.{left_map, map_at}
use Rattle.raw_io.specs.declared.fault.RawFault.{RawFault}
use Rattle.raw_io.specs.declared.fault.RawFault.TheVariants.{Unusable, Store, Sink}
use Rattle.driver_laws.specs.rules.Pieces.{EndsBlock}
use Rattle.driver_laws.specs.rules.Bytes.{range, ComesTo, with_range}

-- A READ OF A RANGE gives its bytes, so many, over those of a buffer, and changes nothing.
pub record ReadsRange (unit first at done : ℕ) (into into' : List ℕ) (old new : Stage) : Type 0 where
  pub comes : ComesTo (map_at old unit) first at (length into) done
  pub bytes : into' ≡ laid (range done (map_at old unit) first at) into
  pub map : map_at new ≡ map_at old

-- A WRITE OF A RANGE replaces its bytes, so many, and nothing else.
pub record WritesRange (unit first at done : ℕ) (from : List ℕ) (old new : Stage) : Type 0 where
  pub comes : ComesTo (map_at old unit) first at (length from) done
  pub written : (block : ℕ) → map_at new unit block ≡ with_range (map_at old unit) first at (take done from) block
  pub map : (u block : ℕ) → u ≢ unit → map_at new u block ≡ map_at old u block

-- WHERE IT STOPPED a front of the bytes is there, up to the end of a block, and nothing else is changed; each block is whole. (What the
-- packs hold is told by the units and tables of before.)
pub record StopsAt (unit first at : ℕ) (from : List ℕ) (old new : Stage) : Type 0 where
  pub done : ℕ
  pub few : done ≤ length from
  pub whole : EndsBlock at (length from) done
  pub written : (block : ℕ) → left_map old new unit block ≡ with_range (map_at old unit) first at (take done from) block
  pub map : (u block : ℕ) → u ≢ unit → left_map old new u block ≡ map_at old u block
  pub others : OthersStay (setup_at old) new.held

-- THE ANSWER: what stopped it, if something did, and how many bytes were done where nothing did
abbrev pub stop_of : {A : Type 0} → Result A RawFault → Option Stop
stop_of (Err Store) = Some stopped.Store
stop_of (Err Sink) = Some stopped.Sink
stop_of result = None

abbrev pub fault_of : Stop → RawFault
fault_of stopped.Store = Store
fault_of stopped.Sink = Sink

abbrev pub done_by : {A : Type 0} → (size : ℕ) → Result A RawFault → Option ℕ
done_by size (Ok value) = Some size
done_by size (Err (Unusable done)) = Some done
done_by size result = None
