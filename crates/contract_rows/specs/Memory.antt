-- What wrong bodies would leave in main memory, refused by the words of its contracts.
use Rattle.std.specs.Prelude.{ℕ, ◌≡◌, ◌≢◌, ◌<◌, ◌≤◌, ◌+◌, ◌-◌, ◌*◌, List, Option, Some, None, length, slice_index, slice_index_or, Contains}
use Rattle.main_memory.specs.declared.window.Window.{Window}
use Rattle.main_memory.specs.Bytes.{IsFill, AreFills, filled}
use Rattle.main_memory.specs.Blocks.{Loan, IsSpan, place_in}
use Rattle.main_memory.specs.Frames.{frames_needed}
use Rattle.main_memory.specs.Memory.{Memory, IsLent}
use Rattle.main_memory.specs.Windows.{Writes, memory_of, window_len, window_bytes}

-- byte `at` of a block, in the memory of a window
abbrev pub byte_of : Window → Window → ℕ → ℕ
byte_of on window at = slice_index (memory_of window).bytes (place_in on.span at)

-- A block was written, and one of its bytes is another and stayed as it was.
abbrev pub IsByteLeft : Window → Window → List ℕ → ℕ → Type 0
IsByteLeft old new block at =
    (byte_of old new at ≡ byte_of old old at) × (byte_of old old at ≢ slice_index block at)

pub record MemoryRefused : Type 0 where
  -- the bytes in the block's own frame were written, and one of those in the next frame was not
  pub first_piece_only : (old new : Window) (block : List ℕ) (at : ℕ) → IsSpan old.span → length block ≡ window_len old → Writes old new block
      → 512 - old.span.offset ≤ at → at < window_len old → IsByteLeft old new block at → ⊥
  -- a frame that is all one byte was taken to be all another one, so that a byte of a block was not written
  pub known_frame_taken_for_the_same : (old new : Window) (block : List ℕ) (at : ℕ) → IsSpan old.span → length block ≡ window_len old → Writes old new block
      → at < window_len old → IsByteLeft old new block at → ⊥
  -- a frame is taken to be all the byte that was written into it, and another byte of it differs
  pub byte_written_taken_for_its_frame : (fills : List (Option ℕ)) (bytes : List ℕ) (frame byte k : ℕ) → AreFills fills bytes
      → slice_index_or fills frame None ≡ Some byte → k < 512 → slice_index bytes (512 * frame + k) ≢ byte → ⊥
  -- a block is told to be all one byte, and a byte of it in the next frame differs
  pub next_frame_not_asked : (window : Window) (byte at : ℕ) → IsSpan window.span → length (memory_of window).bytes ≡ 8388608 → IsFill byte (window_bytes window)
      → 512 - window.span.offset ≤ at → at < window_len window → byte_of window window at ≢ byte → ⊥
  -- behind the end of a block a byte is not zero
  pub old_bytes_behind_the_end : (bytes into : List ℕ) (at : ℕ) → into ≡ filled 512 bytes → length bytes ≤ at → slice_index into at ≢ 0 → ⊥
  -- a frame of a buffer that is lent is free
  pub lent_frame_left_free : (memory : Memory) (loan : Loan) (frame : ℕ) → IsLent memory loan → Contains loan.frames frame → Contains memory.free frame → ⊥
  -- a buffer of one block that begins inside a frame needs one frame
  pub frames_without_the_offset : (offset : ℕ) → 0 < offset → offset < 512 → frames_needed 1 offset 512 ≡ 1 → ⊥
