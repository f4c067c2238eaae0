-- WHAT THE CALLS OF THE CACHE COME TO, over the driver and the packs.
use Rattle.std.specs.Prelude.{◌≡◌, ◌⊎◌, ℕ, ◌≤◌, Bool, true, false, if◌then◌else◌, is_some, IsTrue, List, [], ◌∷◌, Option, None, Some, Result, Ok, Err, IfErr, OnOk}
use Rattle.std.specs.List.{AllByRecursion}
use Rattle.driver_laws.specs.answers.Outcome.{stop_in}
use Rattle.driver_laws.specs.declared.answers.outcome.Stop.{Stop}
use Rattle.driver_laws.specs.rules.Rest.{HasTables}
use Rattle.buffer_cache.specs.Passes.{Spot, Stage, seen, setup_at, IsReady, State as Driver, OthersStay, map_at, left_map}
use Rattle.driver_laws.specs.declared.rules.cached.Entry.{Entry}
use Rattle.driver_laws.specs.rules.Entries.{State, to_write_back, with_room, write_backs, counted, put, flushed, written_back}
use Rattle.trace_replay.specs.requests.Requests.{Request}
use Rattle.driver_laws.specs.rules.Requests.{reads, writes}
use Rattle.driver_laws.specs.rules.Calls.{entry, read_done, write_done}
use Rattle.driver_laws.specs.rules.Contents.{AllFit, Gives, Takes, Flushes, IsOne}
use Rattle.blocking_io.specs.Spots.{Keeps}
use Rattle.buffer_cache.specs.Asks.{IsData, Asks, AsksTill, found_bytes}
use Rattle.buffer_cache.specs.declared.fault.CacheFault.{CacheFault}
use Rattle.buffer_cache.specs.declared.fault.CacheFault.TheVariants as fault

-- WHAT MAY BE ASKED of a driver that is ready, with this cache: its entries are data blocks of the driver's units.
pub record MayUse (s : State) (d : Driver) : Type 0 where
  pub ready : IsReady d
  pub room : 1 ≤ d.outstanding
  pub entries : AllByRecursion (λ (e : Entry). IsData d.world e.unit e.block) s.entries

-- where the packs tell what they hold, the driver's tables are theirs, and the entries can be used and are as the packs have them
abbrev pub IfTold : State → (old new : Stage) → Type 0 → Type 0
IfTold s old new P = IsTrue new.packs_tell → HasTables (setup_at old) → AllFit (map_at old) s.entries → P

-- A BLOCK THAT IS NO ENTRY is read, and where it can be used the last entry of a full cache is written back.
pub record Fetched (line unit block : ℕ) (found : Bool) (into : List ℕ) (s s' : State) (old new : Stage) : Type 0 where
  pub state : s' ≡ (if found then with_room s else s)
  pub asks : Asks line (reads unit block ∷ (if found then write_backs (to_write_back s) else [])) old new
  pub told : IsTrue new.packs_tell → HasTables (setup_at old) → map_at old unit block ≡ found_bytes found into

-- what is asked for that
abbrev pub fetch_asked : (held : Option (List ℕ)) → State → (unit block : ℕ) → List Request
fetch_asked held s unit block = reads unit block ∷ (if is_some held then write_backs (to_write_back s) else [])

-- IT IS PUT IN FRONT, changed; where memory refuses that, it is written at once.
pub record Placed (line unit block : ℕ) (from : List ℕ) (s s' : State) (old new : Stage) : Type 0 where
  pub refuses : Bool
  pub state : s' ≡ put refuses (entry unit block from true) s
  pub asks : Asks line (if refuses then writes unit block from ∷ [] else []) old new

-- A READ that gave these bytes, or none
pub record Reads (line unit block : ℕ) (given : Option (List ℕ)) (s s' : State) (old new : Stage) : Type 0 where
  pub held : Option (List ℕ)
  pub refuses : Bool
  pub state : s' ≡ (read_done held refuses s unit block).state
  pub gives : given ≡ (read_done held refuses s unit block).given
  pub asks : Asks line (read_done held refuses s unit block).asked old new
  pub told : IfTold s old new (Gives (map_at old) (map_at new) unit block given s.entries s'.entries)

-- A WRITE that was done, or not
pub record Writes (line unit block : ℕ) (done : Bool) (from : List ℕ) (s s' : State) (old new : Stage) : Type 0 where
  pub held : Option (List ℕ)
  pub refuses : Bool
  pub state : s' ≡ (write_done held refuses s unit block from).state
  pub gives : (if done then Some from else None) ≡ (write_done held refuses s unit block from).given
  pub asks : Asks line (write_done held refuses s unit block from).asked old new
  pub told : IfTold s old new (Takes (map_at old) (map_at new) unit block done from s.entries s'.entries)

-- A SYNC writes each changed entry back, the first one first.
pub record Syncs (line : ℕ) (s s' : State) (old new : Stage) : Type 0 where
  pub state : s' ≡ flushed s
  pub asks : Asks line (written_back s.entries) old new
  pub told : IfTold s old new (Flushes (map_at old) (map_at new) s.entries s'.entries)

-- AFTER ANY ANSWER each block holds one of three, and what is no home of a data block stays. (That is told by the units and tables of
-- before.)
pub record Holds (unit block : ℕ) (from : Option (List ℕ)) (s : State) (old new : Stage) : Type 0 where
  pub each : (u b : ℕ) → IsOne (map_at old) s.entries unit block from u b (left_map old new u b)
  pub others : OthersStay (setup_at old) new.held

-- the same where a call left it
abbrev pub LeavesOne : (unit block : ℕ) → (from : Option (List ℕ)) → State → (old new : Stage) → Type 0
LeavesOne unit block from s old new = AllFit (map_at old) s.entries → Holds unit block from s old new

-- HOW OFTEN MEMORY REFUSED an insertion: once in a call at the most, whatever it answers
abbrev pub RefusesOnce : (s s' : State) → Type 0
RefusesOnce s s' = (s'.refused ≡ s.refused) ⊎ (s'.refused ≡ (counted s).refused)

-- THE ANSWER: what stopped a call, if something did; and what it gave where nothing did
abbrev pub stop_of : {A : Type 0} → Result A CacheFault → Option Stop
stop_of (Err (fault.Stop stop)) = Some stop
stop_of result = None

abbrev pub given_by : {A : Type 0} → Result A CacheFault → List ℕ → Option (List ℕ)
given_by (Ok value) bytes = Some bytes
given_by (Err fault) bytes = None

abbrev pub is_done : {A : Type 0} → Result A CacheFault → Bool
is_done (Ok value) = true
is_done (Err fault) = false

-- HOW A CALL TURNS OUT for a block that is no entry: it did this, or it was asking for these.
pub record Serves {A : Type 0} (does : Stage → Stage → Type 0) (line unit block : ℕ) (from : Option (List ℕ)) (asks : Stage → List Request) (result : Result A CacheFault) (s s' : State) (old new : Spot) : Type 0 where
  pub done : stop_of result ≡ None → does (seen old) (seen new)
  pub holds : IfTold s (seen old) (seen new) (Holds unit block from s (seen old) (seen new))
  pub may : stop_of result ≡ None → MayUse s' new.driver
  pub refused : RefusesOnce s s'
  pub till : (stop : Stop) → stop_of result ≡ Some stop → IfTold s (seen old) (seen new) (AsksTill stop line (asks (seen old)) (seen old) (seen new))
  pub keeps : Keeps old new (stop_of result)

-- HOW A SYNC TURNS OUT: each changed entry was written back, or it was writing one.
pub record SyncsOrStops (line : ℕ) (result : Result (Unit {0}) Stop) (s s' : State) (old new : Spot) : Type 0 where
  pub done : OnOk result (Syncs line s s' (seen old) (seen new))
  pub holds : IfTold s (seen old) (seen new) (Holds 0 0 None s (seen old) (seen new))
  pub may : OnOk result (MayUse s' new.driver)
  pub refused : s'.refused ≡ s.refused
  pub till : IfErr result (λ stop. AsksTill stop line (written_back s.entries) (seen old) (seen new))
  pub keeps : Keeps old new (stop_in result)
