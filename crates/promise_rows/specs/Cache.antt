-- Wrong outcomes of the cache.
use Rattle.std.specs.Prelude.{◌≡◌, ◌≢◌, ℕ, ◌+◌, ◌-◌, ◌^◌, ◌<◌, true, IsTrue, List, [], ◌∷◌, Option, None, Some}
use Rattle.driver_laws.specs.rules.Rest.{HasTables}
use Rattle.driver_laws.specs.declared.rules.cached.Entry.{Entry}
use Rattle.driver_laws.specs.rules.Requests.{writes}
use Rattle.driver_laws.specs.rules.Entries.{State, entry_of, with_room}
use Rattle.driver_laws.specs.rules.Contents.{AllFit}
use Rattle.cached_run.specs.Asks.{Asks, Fetches}
use Rattle.cached_run.specs.Passes.{Stage, map_at, setup_at}
use Rattle.cached_run.specs.Calls.{Reads, RefusesOnce, Syncs}

-- A CHANGED ENTRY IS DROPPED UNWRITTEN: a read put it out, and its pack does not hold its bytes.
abbrev pub ChangedEntryDropped : Type 0
ChangedEntryDropped = (line unit block : ℕ) (given : Option (List ℕ)) (e : Entry) (s s' : State) (old new : Stage) → Reads line unit block given s s' old new
    → IsTrue new.packs_tell → HasTables (setup_at old) → AllFit (map_at old) s.entries
    → entry_of e.unit e.block s.entries ≡ Some e → entry_of e.unit e.block s'.entries ≡ None → ¬ (map_at new e.unit e.block ≢ Some e.bytes)

-- ANOTHER BLOCK IS WRITTEN BACK: a block that is no entry, and was none, holds other bytes.
abbrev pub AnotherBlockWrittenBack : Type 0
AnotherBlockWrittenBack = (line unit block u b : ℕ) (given : Option (List ℕ)) (s s' : State) (old new : Stage) → Reads line unit block given s s' old new
    → IsTrue new.packs_tell → HasTables (setup_at old) → AllFit (map_at old) s.entries
    → entry_of u b s.entries ≡ None → entry_of u b s'.entries ≡ None → ¬ (map_at new u b ≢ map_at old u b)

-- A REFUSED INSERTION IS NOT COUNTED: a block was read that is no entry, and was none, and the count is what it was.
abbrev pub RefusedInsertionNotCounted : Type 0
RefusedInsertionNotCounted = (line unit block : ℕ) (given : List ℕ) (s s' : State) (old new : Stage) → Reads line unit block (Some given) s s' old new
    → entry_of unit block s.entries ≡ None → entry_of unit block s'.entries ≡ None → s.refused < 2 ^ 64 - 1 → ¬ (s'.refused ≡ s.refused)

-- REFUSED RISES AT A STOP, by more than one
abbrev pub RefusedRisesAtAStop : Type 0
RefusedRisesAtAStop = (s s' : State) → RefusesOnce s s' → ¬ (s.refused + 1 < s'.refused)

-- A SYNC STOPS AT AN UNCHANGED ENTRY: the pack does not hold the bytes of one, be it behind that.
abbrev pub SyncStopsEarly : Type 0
SyncStopsEarly = (line : ℕ) (e : Entry) (s s' : State) (old new : Stage) → Syncs line s s' old new → IsTrue new.packs_tell → HasTables (setup_at old) → AllFit (map_at old) s.entries
    → entry_of e.unit e.block s.entries ≡ Some e → ¬ (map_at new e.unit e.block ≢ Some e.bytes)

-- A REFUSED INSERTION PROMOTES another entry: a read counted one more, and the entries or their order are not what they were, but that the
-- last one of a full cache is written back.
abbrev pub RefusedInsertionPromotes : Type 0
RefusedInsertionPromotes = (line unit block : ℕ) (given : Option (List ℕ)) (s s' : State) (old new : Stage) → Reads line unit block given s s' old new
    → s'.refused ≢ s.refused → ¬ (s'.entries ≢ (with_room s).entries)

-- ANOTHER BLOCK IS WRITTEN than the one that was to be.
abbrev pub AnotherBlockWritten : Type 0
AnotherBlockWritten = (line unit block other : ℕ) (from : List ℕ) (old new : Stage) → Asks line (writes unit block from ∷ []) old new
    → IsTrue new.packs_tell → HasTables (setup_at old) → other ≢ block → ¬ (map_at new unit other ≢ map_at old unit other)

-- A BLOCK IS ALWAYS FOUND, be it one that can't be used.
abbrev pub BlockAlwaysFound : Type 0
BlockAlwaysFound = (line unit block : ℕ) (into : List ℕ) (old new : Stage) → IsTrue new.packs_tell → HasTables (setup_at old)
    → map_at old unit block ≡ None → ¬ Fetches line unit block true into old new
