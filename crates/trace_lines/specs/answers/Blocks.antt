-- The blocks of a read: its bytes, cut into pieces of 512.
use Rattle.std.specs.Prelude.{◌≡◌, ℕ, zero, suc, ◌+◌, ◌<◌, ◌≤◌, List, [], ◌∷◌, ◌++◌, length, take, drop, slice_index_or}

-- bytes cut into at most n pieces of a size; the last one may be shorter
abbrev pub cut : (n size : ℕ) → List ℕ → List (List ℕ)
cut zero size bytes = []
cut (suc n) size [] = []
cut (suc n) size (byte ∷ bytes) = take size (byte ∷ bytes) ∷ cut n size (drop size (byte ∷ bytes))

-- the blocks of these bytes
unfoldable pub blocks_in : List ℕ → List (List ℕ)
blocks_in bytes = cut (length bytes) 512 bytes

-- all bytes of blocks
abbrev pub joined : List (List ℕ) → List ℕ
joined [] = []
joined (block ∷ blocks) = block ++ joined blocks

-- blocks of this size, but for the last one, which may be shorter and is not empty
pub record AreBlocks (size : ℕ) (blocks : List (List ℕ)) : Type 0 where
  pub whole : (k : ℕ) → k + 1 < length blocks → length (slice_index_or blocks k []) ≡ size
  pub some : (k : ℕ) → k + 1 ≡ length blocks → 1 ≤ length (slice_index_or blocks k [])
  pub few : (k : ℕ) → k + 1 ≡ length blocks → length (slice_index_or blocks k []) ≤ size
