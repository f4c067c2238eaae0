-- What a block that was written is, byte by byte.
use Rattle.std.proofs.Common.{◌≡◌, ℕ, ◌<◌, Bool, if◌then◌else◌, List, length, get_or, refl, ap, ◌∙◌, arith}
use Rattle.std.proofs.lemmas.Bool.{eq-eqb}
use Rattle.main_memory.specs.declared.window.Window.{Window}
use Rattle.main_memory.specs.Bytes.{filled, IsFill}
use Rattle.main_memory.specs.Blocks.{IsSpan, place_in, with_bytes_in}
use Rattle.main_memory.specs.Memory.{Memory}
use Rattle.main_memory.specs.Windows.{Writes, memory_of, window_len, window_bytes}
use Rattle.main_memory.proofs.BlockLaws.{length-with_bytes_in, bytes_in-with_bytes_in, get_or-bytes_in, length-bytes_in}
use Rattle.main_memory.proofs.ByteLaws.{length-filled}
use Rattle.main_memory.proofs.FillLaws.{fill_at}
use Rattle.pack_geometry.specs.Pack.{Pack, block_at, with_written, written}
use Rattle.pack_geometry.proofs.PackLaws.{block_at-with_block_same}
use Rattle.hardware_table.specs.Drive.{DriveState}
use Rattle.drive_model.specs.Move.{Site}
use Rattle.contract_rows.specs.Memory.{byte_of}
use Rattle.contract_rows.specs.Drives.{IsWritten}

pub written_byte : (old new : Window) (block : List ℕ) (at : ℕ) → IsSpan old.span → length block ≡ window_len old → Writes old new block → at < window_len old
    → byte_of old new at ≡ get_or block at 0
written_byte old new block at span long w inside =
    let size : length (with_bytes_in old.span block (memory_of old).bytes) ≡ 8388608 = length-with_bytes_in old.span block (memory_of old).bytes span long w.whole in
    ap (λ (m : Memory). get_or m.bytes (place_in old.span at) 0) w.memory
    ∙ get_or-bytes_in old.span (with_bytes_in old.span block (memory_of old).bytes) at span size inside
    ∙ ap (λ (b : List ℕ). get_or b at 0) (bytes_in-with_bytes_in old.span block (memory_of old).bytes span long w.whole)

pub filled_byte : (window : Window) (byte at : ℕ) → IsSpan window.span → length (memory_of window).bytes ≡ 8388608 → IsFill byte (window_bytes window) → at < window_len window
    → byte_of window window at ≡ byte
filled_byte window byte at span size fill inside =
    get_or-bytes_in window.span (memory_of window).bytes at span size inside
    ∙ fill_at byte (window_bytes window) at fill (omega (arith, length-bytes_in window.span (memory_of window).bytes span size))

pub written_block : (unit block : ℕ) (drive : DriveState) (size : ℕ) (old new : Site) → IsWritten unit block drive size old new
    → block_at (new.held unit).image block ≡ filled 512 old.window
written_block unit block drive size old new w =
    ap (λ (held : ℕ → Pack). block_at (held unit).image block) (w.moves.written refl ∙ ap (λ (b : Bool). if b then with_written old.held unit block (filled 512 old.window) else old.held) w.writes)
    ∙ ap (λ (b : Bool). block_at (if b then written (old.held unit) block (filled 512 old.window) else old.held unit).image block) (eq-eqb unit unit refl)
    ∙ block_at-with_block_same (old.held unit).image (filled 512 old.window) block (length-filled 512 old.window w.few)
