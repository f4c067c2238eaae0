-- Windows, through which a block is read and written.
use Rattle.std.specs.Prelude.{ℕ, ◌≡◌, List, length}
use Rattle.std.specs.Borrow.{GName}
use Rattle.main_memory.specs.declared.window.Window.{Window}
use Rattle.main_memory.specs.Blocks.{Loan, span_of, bytes_in}
use Rattle.main_memory.specs.Memory.{Memory, with_span}

-- the memory that a window was opened on, by the name of the reference to it
abbrev pub memory_name : Window → GName
memory_name window = window.memory.ghost_name

-- what that memory is while the window is open, and once it is closed
abbrev pub memory_of : Window → Memory
memory_of window = window.memory.now

-- how many bytes are seen through a window
abbrev pub window_len : Window → ℕ
window_len window = window.span.len

-- these bytes
abbrev pub window_bytes : Window → List ℕ
window_bytes window = bytes_in window.span window.memory.now.bytes

-- a window is on block k of a buffer
abbrev pub IsOn : Loan → ℕ → Window → Type 0
IsOn loan k window = window.span ≡ span_of loan k

-- a window after these bytes were written through it: it is on the same block, and the memory has changed
-- in no other byte
pub record Writes (old new : Window) (block : List ℕ) : Type 0 where
  pub same_block : new.span ≡ old.span
  pub memory : memory_of new ≡ with_span old.span block (memory_of old)
  pub whole : length (memory_of old).bytes ≡ 8388608
