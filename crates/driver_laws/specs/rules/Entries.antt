-- THE CACHE: a list of blocks, the most recent one first, with what each block holds and whether it was changed.
use Rattle.std.specs.Prelude.{◌≡◌, ℕ, ◌+◌, ◌-◌, ◌^◌, ◌≤◌, ◌==◌, ◌&&◌, min, Bool, true, false, if◌then◌else◌, List, [], ◌∷◌, ◌++◌, length, take, drop, map, slice_get, Option, None, Some}
use Rattle.trace_replay.specs.requests.Requests.{Request}
use Rattle.driver_laws.specs.rules.Requests.{writes}
use Rattle.driver_laws.specs.declared.rules.cached.Entry.{Entry}

-- its entries, how many there may be, and how many insertions memory refused
pub record State : Type 0 where
  pub entries : List Entry
  pub capacity : ℕ
  pub refused : ℕ

abbrev pub empty_cache : (capacity : ℕ) → State
empty_cache capacity = record { entries = []; capacity = capacity; refused = 0 }

-- the entry of a block, and the other ones
abbrev pub is_of : (unit block : ℕ) → Entry → Bool
is_of unit block e = (unit == e.unit) && (block == e.block)

abbrev pub entry_of : (unit block : ℕ) → List Entry → Option Entry
entry_of unit block [] = None
entry_of unit block (e ∷ entries) = if is_of unit block e then Some e else entry_of unit block entries

abbrev pub others : (unit block : ℕ) → List Entry → List Entry
others unit block [] = []
others unit block (e ∷ entries) = if is_of unit block e then entries else e ∷ others unit block entries

-- WHAT HOLDS OF EVERY CACHE: it has no more entries than it may, and no block twice.
abbrev pub AreApart : List Entry → Type 0
AreApart [] = Unit {0}
AreApart (e ∷ entries) = (entry_of e.unit e.block entries ≡ None) × AreApart entries

pub record IsCache (s : State) : Type 0 where
  pub some : 1 ≤ s.capacity
  pub few : length s.entries ≤ s.capacity
  pub apart : AreApart s.entries

-- TO THE FRONT comes a block that is an entry; a write changes it.
abbrev pub in_front : Option Entry → List Entry → List Entry
in_front None entries = entries
in_front (Some e) entries = e ∷ others e.unit e.block entries

abbrev pub rewritten : List ℕ → Option Entry → Option Entry
rewritten bytes None = None
rewritten bytes (Some e) = Some (record e { bytes = bytes; changed = true })

abbrev pub fronted : (unit block : ℕ) → State → State
fronted unit block s = record s { entries = in_front (entry_of unit block s.entries) s.entries }

abbrev pub changed_in_front : (unit block : ℕ) → List ℕ → State → State
changed_in_front unit block bytes s = record s { entries = in_front (rewritten bytes (entry_of unit block s.entries)) s.entries }

-- THE LAST ENTRY of a full cache is written back where it was changed, and is no longer changed then.
abbrev pub if_changed : Option Entry → Option Entry
if_changed None = None
if_changed (Some e) = if e.changed then Some e else None

abbrev pub to_write_back : State → Option Entry
to_write_back s = if length s.entries == s.capacity then if_changed (slice_get s.entries (length s.entries - 1)) else None

abbrev pub unchanged : Entry → Entry
unchanged e = record e { changed = false }

abbrev pub last_unchanged : List Entry → List Entry
last_unchanged entries = take (length entries - 1) entries ++ map unchanged (drop (length entries - 1) entries)

abbrev pub written_last : Option Entry → List Entry → List Entry
written_last None entries = entries
written_last (Some e) entries = last_unchanged entries

abbrev pub with_room : State → State
with_room s = record s { entries = written_last (to_write_back s) s.entries }

-- AN INSERTION puts an entry in front, and drops the last one of a full cache. Where memory refuses it, that is counted alone.
abbrev pub inserted : Entry → State → State
inserted e s = record s { entries = e ∷ take (s.capacity - 1) s.entries }

abbrev pub counted : State → State
counted s = record s { refused = min (s.refused + 1) (2 ^ 64 - 1) }

abbrev pub put : (refuses : Bool) → Entry → State → State
put refuses e s = if refuses then counted s else inserted e s

-- A SYNC leaves the entries and their order, none of them changed.
abbrev pub flushed : State → State
flushed s = record s { entries = map unchanged s.entries }

-- the writes of changed entries
abbrev pub write_backs : Option Entry → List Request
write_backs None = []
write_backs (Some e) = writes e.unit e.block e.bytes ∷ []

abbrev pub written_back : List Entry → List Request
written_back [] = []
written_back (e ∷ entries) = write_backs (if_changed (Some e)) ++ written_back entries
