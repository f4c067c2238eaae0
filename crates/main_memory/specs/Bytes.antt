-- Parts of a list of bytes, and bytes that are followed by zeros.
use Rattle.std.specs.Prelude.{ℕ, ◌≡◌, ◌<◌, ◌*◌, Option, Some, None, slice_index, slice_index_or, ◌+◌, ◌-◌, ◌≤◌, List, ◌++◌, take, drop, length, replicate}

-- so many bytes from a place on
unfoldable pub part : ℕ → ℕ → List ℕ → List ℕ
part size at bytes = take size (drop at bytes)

-- the list with these bytes from a place on
unfoldable pub with_part : ℕ → List ℕ → List ℕ → List ℕ
with_part at new bytes = take at bytes ++ (new ++ drop (at + length new) bytes)

-- the first bytes, so many
unfoldable pub front : ℕ → List ℕ → List ℕ
front size bytes = take size bytes

-- the bytes and then zeros, so many in all
unfoldable pub filled : ℕ → List ℕ → List ℕ
filled size bytes = bytes ++ replicate (size - length bytes) 0

-- bytes that are all this one
abbrev pub IsFill : ℕ → List ℕ → Type 0
IsFill byte bytes = bytes ≡ replicate (length bytes) byte

-- what is known of frames: each is all through the byte that stands for it, if one does
pub record AreFills (fills : List (Option ℕ)) (bytes : List ℕ) : Type 0 where
  pub frames : length fills ≡ 16384
  pub size : length bytes ≡ 8388608
  pub all : (frame byte k : ℕ) → slice_index_or fills frame None ≡ Some byte → k < 512 → slice_index bytes (512 * frame + k) ≡ byte

-- of so many bytes a front is held, and there is room for all of them
pub record IsHeld (size held room : ℕ) : Type 0 where
  pub inside : held ≤ size
  pub enough : size ≤ room
