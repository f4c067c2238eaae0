-- THE CACHED CONTENT of a block: the bytes of its entry, if it has one, and otherwise what the packs hold; and how each call
-- changes it.
use Rattle.std.specs.Prelude.{◌≡◌, ◌⊎◌, ℕ, ◌==◌, ◌&&◌, Bool, true, false, if◌then◌else◌, List, Option, None, Some, IsSome}
use Rattle.std.specs.List.{AllByRecursion}
use Rattle.driver_laws.specs.declared.rules.cached.Entry.{Entry}
use Rattle.driver_laws.specs.rules.Requests.{Map}
use Rattle.driver_laws.specs.rules.Entries.{entry_of}

abbrev pub bytes_or : Option Entry → Option (List ℕ) → Option (List ℕ)
bytes_or None held = held
bytes_or (Some e) held = Some e.bytes

abbrev pub cached : List Entry → Map → Map
cached entries map unit block = bytes_or (entry_of unit block entries) (map unit block)

-- WHAT ENTRIES ARE: blocks that can be used, and where one is not changed its bytes are those of the packs.
pub record Fits (map : Map) (e : Entry) : Type 0 where
  pub usable : IsSome (map e.unit e.block)
  pub same : e.changed ≡ false → map e.unit e.block ≡ Some e.bytes

abbrev pub AllFit : Map → List Entry → Type 0
AllFit map entries = AllByRecursion (Fits map) entries

-- A READ gives the cached content of its block, and leaves all cached contents.
pub record Gives (map next : Map) (unit block : ℕ) (given : Option (List ℕ)) (entries left : List Entry) : Type 0 where
  pub content : given ≡ cached entries map unit block
  pub contents : (u b : ℕ) → cached left next u b ≡ cached entries map u b
  pub fit : AllFit next left

-- A WRITE makes it what was written, where the block can be used, and leaves all others.
abbrev pub replaced : (done : Bool) → (unit block : ℕ) → List ℕ → Map → Map
replaced done unit block from map u b = if done && ((u == unit) && (b == block)) then Some from else map u b

pub record Takes (map next : Map) (unit block : ℕ) (done : Bool) (from : List ℕ) (entries left : List Entry) : Type 0 where
  pub usable : done ≡ true → IsSome (map unit block)
  pub unusable : done ≡ false → map unit block ≡ None
  pub contents : (u b : ℕ) → cached left next u b ≡ replaced done unit block from (cached entries map) u b
  pub fit : AllFit next left

-- A SYNC makes the packs hold it everywhere.
pub record Flushes (map next : Map) (entries left : List Entry) : Type 0 where
  pub contents : (u b : ℕ) → next u b ≡ cached entries map u b
  pub fit : AllFit next left

-- AFTER ANY ANSWER a block holds one of these: what it held, what was cached, or, where it is the one that was to be written, these bytes.
abbrev pub IsOwn : (unit block : ℕ) → (from : Option (List ℕ)) → (u b : ℕ) → Option (List ℕ) → Type 0
IsOwn unit block from u b now = (u ≡ unit) × ((b ≡ block) × (IsSome from × (now ≡ from)))

abbrev pub IsOne : Map → List Entry → (unit block : ℕ) → Option (List ℕ) → (u b : ℕ) → Option (List ℕ) → Type 0
IsOne map entries unit block from u b now = (now ≡ map u b) ⊎ ((now ≡ cached entries map u b) ⊎ IsOwn unit block from u b now)

abbrev pub AreOne : Map → List Entry → (unit block : ℕ) → Option (List ℕ) → Map → Type 0
AreOne map entries unit block from now = (u b : ℕ) → IsOne map entries unit block from u b (now u b)
