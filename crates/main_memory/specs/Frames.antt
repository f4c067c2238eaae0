-- Frames of main memory: which ones are free, and which ones a buffer needs.
use Rattle.std.specs.Prelude.{ℕ, ◌+◌, ◌-◌, ◌*◌, ◌/◌, ◌%◌, ◌==◌, Bool, true, if◌then◌else◌, List, [], ◌∷◌, nat_lt, slice_index, zero, suc}
use Rattle.std.specs.Int.{bit_at}

-- those of n numbers, from one on, that pass a test, in ascending order
unfoldable pub kept : (ℕ → Bool) → ℕ → ℕ → List ℕ
kept test from zero = []
kept test from (suc n) = if test from then from ∷ kept test (suc from) n else kept test (suc from) n

-- whether a frame is free, where bit i of word j is on for the free frame 64 * j + i
abbrev pub is_free : List ℕ → ℕ → Bool
is_free words frame = bit_at (slice_index words (frame / 64)) (frame % 64) == 1

-- the free frames, in ascending order
unfoldable pub free_frames : List ℕ → List ℕ
free_frames words = kept (is_free words) 0 16384

-- every frame of the memory, in ascending order
unfoldable pub all_frames : List ℕ
all_frames = kept (λ _. true) 0 16384

-- an ascending list with one more number at its place
unfoldable pub with_frame : ℕ → List ℕ → List ℕ
with_frame frame [] = frame ∷ []
with_frame frame (x ∷ xs) = if nat_lt frame x then frame ∷ x ∷ xs else if frame == x then x ∷ xs else x ∷ with_frame frame xs

-- an ascending list with more numbers, each at its place
unfoldable pub with_frames : List ℕ → List ℕ → List ℕ
with_frames [] xs = xs
with_frames (frame ∷ frames) xs = with_frames frames (with_frame frame xs)

-- how many frames so many blocks need, the last of them of `last` bytes: those that their bytes reach, which begin
-- at a place of the first frame
abbrev pub frames_needed : ℕ → ℕ → ℕ → ℕ
frames_needed count offset last = (offset + 512 * (count - 1) + last + 511) / 512
