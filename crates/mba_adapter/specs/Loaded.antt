-- The buffer that an adapter has.
use Rattle.std.specs.Prelude.{ℕ, List}
use Rattle.hardware_table.specs.Adapter.{AdapterState, next_window}
use Rattle.main_memory.specs.Blocks.{Loan, span_of, bytes_in}
use Rattle.main_memory.specs.Memory.{Memory}

-- the buffer that was loaded: another buffer is that one where its frames, offset, number of blocks, and bytes of the
-- last block are the same
abbrev pub loaded_buffer : AdapterState → Loan
loaded_buffer a = record { frames = a.frames; offset = a.offset; count = a.blocks; last = a.last }

-- the bytes of the block of a buffer that the next sector moves
abbrev pub next_bytes : AdapterState → Loan → Memory → List ℕ
next_bytes a loan memory = bytes_in (span_of loan (next_window a)) memory.bytes
