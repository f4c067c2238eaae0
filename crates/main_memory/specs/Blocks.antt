-- The blocks of a buffer, and where they lie in memory.
use Rattle.std.specs.Prelude.{ℕ, ◌≡◌, ◌≢◌, ◌+◌, ◌-◌, ◌*◌, ◌<◌, ◌≤◌, ◌==◌, List, [], ◌∷◌, ◌++◌, take, drop, length, slice_index, nat_lt, zero, suc, if◌then◌else◌}
use Rattle.main_memory.specs.Bytes.{part, with_part}
use Rattle.main_memory.specs.Frames.{frames_needed}
use Rattle.main_memory.specs.declared.span.Span.{Span}

-- what a buffer is: its frames in order, the place in the first frame where its bytes begin, its number of blocks,
-- and how many bytes the last of them has
pub record Loan : Type 0 where
  pub frames : List ℕ
  pub offset : ℕ
  pub count : ℕ
  pub last : ℕ

-- a buffer may have 1 to 127 blocks, the last of 1 to 512 bytes, and begins inside its first frame
pub record IsShape (count offset last : ℕ) : Type 0 where
  pub some : 1 ≤ count
  pub few : count ≤ 127
  pub inside : offset < 512
  pub last_some : 1 ≤ last
  pub last_few : last ≤ 512

-- a buffer has such a shape, and just the frames that it needs
pub record IsLoan (loan : Loan) : Type 0 where
  pub shape : IsShape loan.count loan.offset loan.last
  pub enough : length loan.frames ≡ frames_needed loan.count loan.offset loan.last

-- how many bytes block k has: 512, or for the last block what the buffer has of it
abbrev pub size_at : Loan → ℕ → ℕ
size_at loan k = if k + 1 == loan.count then loan.last else 512

-- how many bytes a buffer has in all
abbrev pub size_of : Loan → ℕ
size_of loan = 512 * (loan.count - 1) + loan.last

-- where block k of a buffer lies: its frame and the next one, the place in its frame, and how many bytes it has
abbrev pub span_of : Loan → ℕ → Span
span_of loan k = record {
  frame = slice_index loan.frames k;
  next = slice_index loan.frames (k + 1);
  offset = loan.offset;
  len = size_at loan k;
}

-- how many of a span's bytes lie in the next frame, and how many in its own
abbrev pub in_next : Span → ℕ
in_next span = span.len - (512 - span.offset)

abbrev pub in_frame : Span → ℕ
in_frame span = span.len - in_next span

-- both frames are frames of the memory, and they differ where the span lies in both
pub record IsSpan (span : Span) : Type 0 where
  pub frame_small : span.frame < 16384
  pub next_small : span.next < 16384
  pub inside : span.offset < 512
  pub some : 1 ≤ span.len
  pub few : span.len ≤ 512
  pub differ : 0 < in_next span → span.frame ≢ span.next

-- the bytes there
unfoldable pub bytes_in : Span → List ℕ → List ℕ
bytes_in span bytes = part (in_frame span) (512 * span.frame + span.offset) bytes ++ part (in_next span) (512 * span.next) bytes

-- where byte `at` of them lies in the memory
abbrev pub place_in : Span → ℕ → ℕ
place_in span at = if nat_lt at (512 - span.offset) then 512 * span.frame + span.offset + at else 512 * span.next + (at - (512 - span.offset))

-- the memory's bytes with these bytes there
unfoldable pub with_bytes_in : Span → List ℕ → List ℕ → List ℕ
with_bytes_in span block bytes =
    with_part (512 * span.next) (drop (in_frame span) block)
    (with_part (512 * span.frame + span.offset) (take (in_frame span) block) bytes)

-- n blocks of a buffer, from one on
unfoldable pub blocks_from : Loan → List ℕ → ℕ → ℕ → List (List ℕ)
blocks_from loan bytes k zero = []
blocks_from loan bytes k (suc n) = bytes_in (span_of loan k) bytes ∷ blocks_from loan bytes (suc k) n
