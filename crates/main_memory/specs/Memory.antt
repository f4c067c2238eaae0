-- What main memory holds, and which frames it lent.
use Rattle.std.specs.Prelude.{ℕ, ◌≡◌, ◌≢◌, ◌<◌, List, length, slice_index, Contains}
use Rattle.std.specs.List.Sorted.{IsStrictlyIncreasing}
use Rattle.main_memory.specs.Frames.{free_frames}
use Rattle.main_memory.specs.Blocks.{Loan, span_of, with_bytes_in, blocks_from}
use Rattle.main_memory.specs.declared.span.Span.{Span}

-- its bytes, and its free frames in ascending order
pub record Memory : Type 0 where
  pub bytes : List ℕ
  pub free : List ℕ

-- the free frames are frames of the memory, in ascending order, and its bytes are those of 16,384 frames
pub record IsMemory (memory : Memory) : Type 0 where
  pub size : length memory.bytes ≡ 8388608
  pub ascending : IsStrictlyIncreasing memory.free
  pub small : (frame : ℕ) → Contains memory.free frame → frame < 16384

-- frames that are lent: they differ, are frames of the memory and are not free
pub record AreTaken (frames free : List ℕ) : Type 0 where
  pub differ : (i j : ℕ) → i < j → j < length frames → slice_index frames i ≢ slice_index frames j
  pub small : (i : ℕ) → i < length frames → slice_index frames i < 16384
  pub taken : (frame : ℕ) → Contains frames frame → Contains free frame → ⊥

-- this memory lent the frames of this buffer
abbrev pub IsLent : Memory → Loan → Type 0
IsLent memory loan = AreTaken loan.frames memory.free

-- two buffers have no frame in common
abbrev pub AreApart : Loan → Loan → Type 0
AreApart loan other = (frame : ℕ) → Contains loan.frames frame → Contains other.frames frame → ⊥

-- what a buffer holds: its blocks in order
abbrev pub blocks_of : Loan → Memory → List (List ℕ)
blocks_of loan memory = blocks_from loan memory.bytes 0 loan.count

-- the memory with other bytes in one span
abbrev pub with_span : Span → List ℕ → Memory → Memory
with_span span block memory = record memory { bytes = with_bytes_in span block memory.bytes }

-- the memory with block k of a buffer replaced
abbrev pub with_block : Loan → ℕ → List ℕ → Memory → Memory
with_block loan k block memory = with_span (span_of loan k) block memory

-- what a memory's fields keep: it has the bytes of 16,384 frames, and it counts its free frames
pub record Keeps (bytes words : List ℕ) (free : ℕ) : Type 0 where
  pub size : length bytes ≡ 8388608
  pub counted : free ≡ length (free_frames words)
