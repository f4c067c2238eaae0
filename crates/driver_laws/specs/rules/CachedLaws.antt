-- WHAT THE REQUESTS OF A CALL LEAVE, in the cache and on the packs.
use Rattle.std.specs.Prelude.{◌≡◌, ℕ, Bool, List, if◌then◌else◌, Option, None, Some}
use Rattle.driver_laws.specs.rules.Requests.{Map, behind}
use Rattle.driver_laws.specs.rules.Entries.{State, IsCache, entry_of, flushed, written_back}
use Rattle.driver_laws.specs.rules.Calls.{read_done, write_done}
use Rattle.driver_laws.specs.rules.Contents.{AllFit, Gives, Takes, Flushes, AreOne}

-- what a block that is no entry is found to hold is what the packs hold
abbrev pub IsFoundIn : Map → State → (unit block : ℕ) → Option (List ℕ) → Type 0
IsFoundIn map s unit block held = entry_of unit block s.entries ≡ None → held ≡ map unit block

abbrev pub ReadKeeps : Type 0
ReadKeeps = (map : Map) (s : State) (unit block : ℕ) (held : Option (List ℕ)) (refuses : Bool) → IsCache s → AllFit map s.entries → IsFoundIn map s unit block held
    → Gives map (behind map (read_done held refuses s unit block).asked) unit block (read_done held refuses s unit block).given s.entries (read_done held refuses s unit block).state.entries

abbrev pub WriteKeeps : Type 0
WriteKeeps = (map : Map) (s : State) (unit block : ℕ) (from : List ℕ) (held : Option (List ℕ)) (refuses done : Bool) → IsCache s → AllFit map s.entries → IsFoundIn map s unit block held
    → (if done then Some from else None) ≡ (write_done held refuses s unit block from).given
    → Takes map (behind map (write_done held refuses s unit block from).asked) unit block done from s.entries (write_done held refuses s unit block from).state.entries

abbrev pub SyncWrites : Type 0
SyncWrites = (map : Map) (s : State) → IsCache s → AllFit map s.entries → Flushes map (behind map (written_back s.entries)) s.entries (flushed s).entries

-- And behind them each block holds one of three
abbrev pub ReadLeavesOne : Type 0
ReadLeavesOne = (map : Map) (s : State) (unit block : ℕ) (held : Option (List ℕ)) (refuses : Bool) → IsCache s
    → AreOne map s.entries unit block None (behind map (read_done held refuses s unit block).asked)

abbrev pub WriteLeavesOne : Type 0
WriteLeavesOne = (map : Map) (s : State) (unit block : ℕ) (from : List ℕ) (held : Option (List ℕ)) (refuses : Bool) → IsCache s
    → AreOne map s.entries unit block (Some from) (behind map (write_done held refuses s unit block from).asked)

abbrev pub SyncLeavesOne : Type 0
SyncLeavesOne = (map : Map) (s : State) (unit block : ℕ) → IsCache s → AreOne map s.entries unit block None (behind map (written_back s.entries))
