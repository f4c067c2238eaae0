-- HOW A CACHE STANDS IN MEMORY: the kit's `lru` has the order of the blocks, each with the number of a slot, and the slots have what the
-- blocks hold. No slot is of two blocks, and a cache of n entries has just the first n.
use Rattle.std.specs.Prelude.{◌≡◌, ◌≢◌, ℕ, ◌<◌, ◌==◌, ◌&&◌, nat_lt, Bool, false, if◌then◌else◌, List, [], ◌∷◌, map, length, slice_index_or, Option, None, Some}
use Rattle.lru.specs.LruCache.{LruCache, last_entry}
use Rattle.driver_laws.specs.declared.rules.cached.Entry.{Entry}
use Rattle.driver_laws.specs.rules.Entries.{State}
use Rattle.buffer_cache.specs.declared.entry.Key.{Key}
use Rattle.buffer_cache.specs.declared.entry.Held.{Held}

abbrev pub nothing : Held
nothing = record { bytes = []; changed = false }

-- one key is another
abbrev pub is_at : Key → Key → Bool
is_at key other = (key.unit == other.unit) && (key.block == other.block)

abbrev pub entry_with : Key → Held → Entry
entry_with key held = record { unit = key.unit; block = key.block; bytes = held.bytes; changed = held.changed }

abbrev pub entry_at : List Held → Key × ℕ → Entry
entry_at slots p = entry_with p.0 (slice_index_or slots p.1 nothing)

abbrev pub entries_of : List (Key × ℕ) → List Held → List Entry
entries_of order slots = map (entry_at slots) order

abbrev pub state_of : LruCache Key ℕ → List Held → (refused : ℕ) → State
state_of order slots refused = record { entries = entries_of order.entries slots; capacity = order.cap; refused = refused }

abbrev pub Misses : ℕ → List (Key × ℕ) → Type 0
Misses slot [] = Unit {0}
Misses slot (p ∷ order) = (p.1 ≢ slot) × Misses slot order

abbrev pub AreSlots : (room : ℕ) → List (Key × ℕ) → Type 0
AreSlots room [] = Unit {0}
AreSlots room (p ∷ order) = (p.1 < room) × (Misses p.1 order × AreSlots room order)

pub record IsKept (order : LruCache Key ℕ) (slots : List Held) : Type 0 where
  pub slots_are : AreSlots (length order.entries) order.entries
  pub room : length slots ≡ order.cap

-- a slot for one more entry: the next one, or the last entry's where the cache is full
abbrev pub slot_or : Option (Key × ℕ) → ℕ → ℕ
slot_or None other = other
slot_or (Some p) other = p.1

abbrev pub free_slot : LruCache Key ℕ → ℕ
free_slot c = if nat_lt (length c.entries) c.cap then length c.entries else slot_or (last_entry c.entries) 0

-- the bytes of an entry over those of a buffer
abbrev pub bytes_over : Option Entry → List ℕ → List ℕ
bytes_over None into = into
bytes_over (Some e) into = e.bytes
