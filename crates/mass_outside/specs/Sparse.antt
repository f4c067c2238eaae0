-- An image of which few blocks are kept.
use Rattle.std.specs.Prelude.{◌≡◌, ℕ, zero, suc, ◌<◌, ◌==◌, true, List, [], ◌∷◌, length, get_or, eqb, Option, Some, None}
use Rattle.std.specs.List.{IsDistinct, list_any, position}
use Rattle.pack_geometry.specs.Pack.{with_block}

-- the bytes of an image, and how many blocks it has room for
pub record SparseView : Type 0 where
  pub image : List ℕ
  pub blocks : ℕ

-- the image with these blocks replaced by these bytes; of two places with one number the first counts
abbrev pub overlaid : List ℕ → List ℕ → List (List ℕ) → List ℕ
overlaid image [] kept = image
overlaid image (number ∷ written) [] = image
overlaid image (number ∷ written) (block ∷ kept) = with_block (overlaid image written kept) number block

-- what stands for a block that is not kept is 0, and for one that is kept one more than its place
abbrev pub kept_at : ℕ → Option ℕ
kept_at zero = None
kept_at (suc place) = Some place

abbrev pub place_in : List ℕ → ℕ → Option ℕ
place_in places number = kept_at (get_or places number 0)

-- each block that was written is kept once, with its 512 bytes, and lies in the room; its place is where its number stands
pub record AreKept (given written : List ℕ) (kept : List (List ℕ)) (places : List ℕ) (long blocks : ℕ) : Type 0 where
  pub each : length written ≡ length kept
  pub whole : (place : ℕ) → place < length kept → length (get_or kept place []) ≡ 512
  pub once : IsDistinct eqb written
  pub inside : (number : ℕ) → list_any (eqb number) written ≡ true → number < blocks
  pub placed : (number : ℕ) → place_in places number ≡ position (λ n. n == number) written
  pub size : long ≡ length (overlaid given written kept)
