-- Why bytes spell no table of a drive, and up to which pair they do.
use Rattle.std.specs.Prelude.{◌≡◌, ◌≢◌, ℕ, ◌<◌, ◌≤◌, ◌-◌, List, length, slice_index_or}
use Rattle.pack_geometry.specs.declared.DriveKind.{DriveKind}
use Rattle.pack_geometry.specs.declared.Place.{Place}
use Rattle.pack_geometry.specs.Geometry.{IsInside, block_number}
use Rattle.pack_geometry.specs.TableFields.{word_at, place_in, IsEnd}
use Rattle.bad144_table.specs.declared.spelling.TableFault.{TableFault}
use Rattle.bad144_table.specs.declared.spelling.TableFault.TheVariants.{Zero, Flag, Range, Order, AfterEnd}

-- the words zero and flag are zero; the pairs before `n` name places of the drive in strictly ascending order; and
-- those from `n` to `i` are all ones
pub record IsSoundUpTo (kind : DriveKind) (bytes : List ℕ) (n i : ℕ) : Type 0 where
  pub zero_word : word_at bytes 4 ≡ 0
  pub flag_word : word_at bytes 6 ≡ 0
  pub behind : n ≤ i
  pub places : (k : ℕ) → k < n → ¬ (IsEnd bytes k)
  pub inside : (k : ℕ) → k < n → IsInside kind (place_in bytes k)
  pub ascending : (j k : ℕ) → j < k → k < n → block_number kind (place_in bytes j) < block_number kind (place_in bytes k)
  pub ended : (k : ℕ) → n ≤ k → k < i → IsEnd bytes k

-- pair `i` is the first that is wrong, and it is not all ones
pub record Stops (kind : DriveKind) (bytes : List ℕ) (n i : ℕ) : Type 0 where
  pub sound : IsSoundUpTo kind bytes n i
  pub small : i < 126
  pub place : ¬ (IsEnd bytes i)

-- The first fault of the bytes: the words zero and flag come first, and then the pairs by rising number. A pair
-- behind one of all ones has to be all ones; another has to be on the drive, and then above the pair before.
abbrev pub IsFirstFault : DriveKind → List ℕ → TableFault → Type 0
IsFirstFault kind bytes Zero = word_at bytes 4 ≢ 0
IsFirstFault kind bytes Flag = (word_at bytes 4 ≡ 0) × (word_at bytes 6 ≢ 0)
IsFirstFault kind bytes (Range i) = Stops kind bytes i i × ¬ (IsInside kind (place_in bytes i))
IsFirstFault kind bytes (Order i) = Stops kind bytes i i × IsInside kind (place_in bytes i)
    × (0 < i) × (block_number kind (place_in bytes i) ≤ block_number kind (place_in bytes (i - 1)))
IsFirstFault kind bytes (AfterEnd i) = (n : ℕ) × (n < i) × Stops kind bytes n i

-- these places were read from the pairs before `i`
pub record IsReadUpTo (kind : DriveKind) (bytes : List ℕ) (places : List Place) (i : ℕ) : Type 0 where
  pub sound : IsSoundUpTo kind bytes (length places) i
  pub listed : (k : ℕ) (d : Place) → k < length places → slice_index_or places k d ≡ place_in bytes k
