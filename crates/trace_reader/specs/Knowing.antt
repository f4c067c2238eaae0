-- What the reader keeps of the requests of a script.
use Rattle.std.specs.Prelude.{◌≡◌, ◌<◌, ◌+◌, ◌*◌, ◌&&◌, ◌||◌, ℕ, nat_le, Bool, false, List, Option, None, Some}
use Rattle.std.specs.BTreeMap.{get}
use Rattle.std.specs.Ordering.{nat_cmp}
use Rattle.script_reader.specs.Stored.{Kept}
use Rattle.trace_reader.specs.declared.asked.Asked.{Asked}
use Rattle.trace_reader.specs.Asked.{asks, is_asked}

-- a number up to another is there
abbrev pub is_up_to : Option ℕ → ℕ → Bool
is_up_to None line = false
is_up_to (Some first) line = nat_le first line

-- under this number a line up to `line` is kept
abbrev pub knows : Asked → ℕ → ℕ → Bool
knows asked key line = is_up_to (get nat_cmp asked.lines key) line

-- an id and a unit as one number
abbrev pub key_of : ℕ → ℕ → ℕ
key_of u id = id * 256 + u

-- what is known after one more line
abbrev pub Learns : Asked → Asked → Kept → Type 0
Learns old new kept =
    (line u id : ℕ) → u < 256 → knows new (key_of u id) line ≡ (knows old (key_of u id) line || (asks u id kept.statement && nat_le kept.number line))

-- just the requests of these lines are known
abbrev pub Knows : Asked → List Kept → Type 0
Knows asked lines = (line u id : ℕ) → u < 256 → knows asked (key_of u id) line ≡ is_asked lines line u id
