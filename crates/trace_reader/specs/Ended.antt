-- Which requests of a trace have ended.
use Rattle.std.specs.Prelude.{◌≡◌, ◌<◌, ℕ, ◌==◌, ◌&&◌, ◌||◌, not, Bool, true, false, List}
use Rattle.std.specs.BTreeSet.{contains}
use Rattle.std.specs.List.{list_any}
use Rattle.std.specs.Ordering.{nat_cmp}
use Rattle.trace_lines.specs.declared.telling.Told.{Told}
use Rattle.trace_lines.specs.declared.telling.Told.TheVariants as told
use Rattle.trace_reader.specs.declared.ended.Ended.{Ended}
use Rattle.trace_reader.specs.declared.line.TraceLine.{TraceLine}
use Rattle.trace_reader.specs.declared.line.TraceLine.TheVariants.{Deed, Idle}
use Rattle.trace_reader.specs.Knowing.{key_of}

-- a line ends the request of an id at a unit
abbrev pub is_end : Told → Bool
is_end told.End = true
is_end t = false

abbrev pub ends : ℕ → ℕ → TraceLine → Bool
ends u id (Deed line unit_number other t) = is_end t && (unit_number == u && other == id)
ends u id (Idle line) = false

-- one of some lines ends it
abbrev pub has_ended : List TraceLine → ℕ → ℕ → Bool
has_ended lines u id = list_any (ends u id) lines

-- A REQUEST IS UNDER WAY as long as none of the lines before has ended it. Beside an empty script any request may be asked again.
abbrev pub is_under_way : ℕ → List TraceLine → TraceLine → Bool
is_under_way count before (Deed line u id t) = count == 0 || not (has_ended before u id)
is_under_way count before (Idle line) = true

-- ---- what the reader keeps of them
abbrev pub is_kept : Ended → ℕ → ℕ → Bool
is_kept ended u id = contains nat_cmp ended.requests (key_of u id)

abbrev pub is_open : Ended → ℕ → TraceLine → Bool
is_open ended count (Deed line u id t) = count == 0 || not (is_kept ended u id)
is_open ended count (Idle line) = true

-- what is kept after one more line
abbrev pub KeepsEnd : Ended → Ended → TraceLine → Type 0
KeepsEnd old new line = (u id : ℕ) → u < 256 → is_kept new u id ≡ (is_kept old u id || ends u id line)

-- just the requests that these lines end are kept
abbrev pub KeepsEnds : Ended → List TraceLine → Type 0
KeepsEnds ended lines = (u id : ℕ) → u < 256 → is_kept ended u id ≡ has_ended lines u id
