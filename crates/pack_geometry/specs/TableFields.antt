-- The fields of the bytes of a bad-sector table.
use Rattle.std.specs.Prelude.{◌≡◌, ℕ, ◌+◌, ◌*◌, ◌/◌, ◌%◌, List, slice_index}
use Rattle.pack_geometry.specs.declared.Place.{Place}

-- the word of 16 bits at a byte
abbrev pub word_at : List ℕ → ℕ → ℕ
word_at bytes at = slice_index bytes at + 256 * slice_index bytes (at + 1)

-- the number of 32 bits at a byte
abbrev pub long_at : List ℕ → ℕ → ℕ
long_at bytes at = word_at bytes at + 65536 * word_at bytes (at + 2)

-- the place that pair `i` names
abbrev pub place_in : List ℕ → ℕ → Place
place_in bytes i = record {
  cylinder = word_at bytes (8 + 4 * i);
  track = word_at bytes (10 + 4 * i) / 256;
  sector = word_at bytes (10 + 4 * i) % 256;
}

-- pair `i` is all ones
abbrev pub IsEnd : List ℕ → ℕ → Type 0
IsEnd bytes i = (word_at bytes (8 + 4 * i) ≡ 65535) × (word_at bytes (10 + 4 * i) ≡ 65535)
