-- What a book of noise keeps: its entries in the order of their sectors, and the places of the noise that was armed.
use Rattle.std.specs.Prelude.{◌≡◌, ℕ, ◌+◌, ◌^◌, ◌<◌, ◌≤◌, ◌==◌, ◌&&◌, not, nat_lt, Bool, true, false, List, [], ◌∷◌, ◌++◌, take, drop, length, map, filter, All, Option, None, Some}
use Rattle.std.specs.List.{slice_index_or}
use Rattle.std.specs.List.Sorted.{IsNonDecreasingBy}
use Rattle.hardware_table.specs.declared.NoiseSpan.{NoiseSpan}
use Rattle.hardware_table.specs.Noise.{LiveNoise, sector_number, span_left}
use Rattle.live_noise.specs.declared.entries.Entry.{Entry}

-- the noise of an entry
abbrev pub noise_of : List (List ℕ) → Entry → LiveNoise
noise_of noises entry = record {
  unit = entry.unit;
  block = entry.block;
  span = entry.span;
  places = slice_index_or noises entry.slot [];
}

abbrev pub live_of : List (List ℕ) → List Entry → List LiveNoise
live_of noises entries = map (noise_of noises) entries

-- the number of an entry's sector
abbrev pub number_of : Entry → ℕ
number_of entry = sector_number entry.unit entry.block

abbrev pub is_entry_at : ℕ → ℕ → Entry → Bool
is_entry_at unit block entry = (entry.unit == unit) && (entry.block == block)

abbrev pub is_entry_behind : ℕ → Entry → Bool
is_entry_behind number entry = nat_lt number (number_of entry)

-- the first element that passes a test stands at i; and none does
pub record IsFirst {X : Type 0} (test : X → Bool) (xs : List X) (i : ℕ) : Type 0 where
  pub inside : i < length xs
  pub here : (d : X) → test (slice_index_or xs i d) ≡ true
  pub before : (k : ℕ) → (d : X) → k < i → test (slice_index_or xs k d) ≡ false

pub record IsNowhere {X : Type 0} (test : X → Bool) (xs : List X) : Type 0 where
  pub nowhere : (k : ℕ) → (d : X) → k < length xs → test (slice_index_or xs k d) ≡ false

-- entries in order, of blocks that are numbers of 32 bits
pub record AreInOrder (entries : List Entry) : Type 0 where
  pub sorted : IsNonDecreasingBy number_of entries
  pub blocks : All (λ (entry : Entry). entry.block < 2 ^ 32) entries

-- entries with a new one behind all of its sector
abbrev pub with_entry : Entry → List Entry → List Entry
with_entry entry entries =
    filter (λ (other : Entry). not (is_entry_behind (number_of entry) other)) entries
    ++ entry ∷ filter (is_entry_behind (number_of entry)) entries

abbrev pub entry_left : Entry → Option NoiseSpan → List Entry
entry_left entry None = []
entry_left entry (Some span) = record entry { span = span } ∷ []

-- entries of which that at i was used by a read with this word in the offset register
abbrev pub with_used : ℕ → ℕ → Entry → List Entry → List Entry
with_used word i entry entries = take i entries ++ (entry_left entry (span_left word entry.span) ++ drop (i + 1) entries)

-- what a book keeps: its entries are in order and name noise that it has, and there is room for all that may be armed
pub record IsKept (noises : List (List ℕ)) (entries : List Entry) (armed capacity noise_room entry_room : ℕ) : Type 0 where
  pub order : AreInOrder entries
  pub slots : All (λ (entry : Entry). entry.slot < length noises) entries
  pub few : length entries ≤ length noises
  pub counted : length noises ≤ armed
  pub bound : armed ≤ capacity
  pub noise_fits : capacity ≤ noise_room
  pub entry_fits : capacity ≤ entry_room
