-- REQUESTS FOR SINGLE BLOCKS of a unit, counted among all its data blocks, and what they leave in a map of blocks.
use Rattle.std.specs.Prelude.{ℕ, ◌==◌, ◌&&◌, if◌then◌else◌, List, [], ◌∷◌, Option, None, Some}
use Rattle.partitions.specs.declared.Part.TheVariants.{C}
use Rattle.trace_replay.specs.requests.Requests.{Request}
use Rattle.driver_laws.specs.rules.Machine.{Blocks}

abbrev pub one_block : (unit block : ℕ) → Option (List ℕ) → Request
one_block unit block written = record { id = 0; unit = unit; part = C; block = block; count = 1; last = 512; offset = 0; written = written }

abbrev pub reads : (unit block : ℕ) → Request
reads unit block = one_block unit block None

abbrev pub writes : (unit block : ℕ) → List ℕ → Request
writes unit block bytes = one_block unit block (Some bytes)

-- what the blocks of all units hold
abbrev pub Map : Type 0
Map = ℕ → Blocks

-- a write replaces what a block holds that can be used
abbrev pub written_over : (written held : Option (List ℕ)) → Option (List ℕ)
written_over None held = held
written_over (Some bytes) None = None
written_over (Some bytes) (Some old) = Some bytes

abbrev pub behind_one : Map → Request → Map
behind_one map r unit block = if (unit == r.unit) && (block == r.block) then written_over r.written (map unit block) else map unit block

abbrev pub behind : Map → List Request → Map
behind map [] = map
behind map (r ∷ rs) = behind (behind_one map r) rs
