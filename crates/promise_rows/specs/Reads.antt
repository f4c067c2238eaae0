-- What wrong bodies would read, write and keep of packs and streams, refused by the words of their contracts.
use Rattle.std.specs.Prelude.{◌≡◌, ◌≢◌, ℕ, ◌+◌, ◌*◌, ◌/◌, ◌<◌, true, List, ◌∷◌, ◌++◌, length, take, Ok, Some, slice_get, slice_index}
use Rattle.pack_geometry.specs.Pack.{Pack, block_at, window, with_written}
use Rattle.outside_traits.specs.Puts.{Puts}
use Rattle.outside_traits.specs.declared.traits.SinkFailed.{SinkFailed}
use Rattle.outside_traits.specs.Gathers.{Gathers}
use Rattle.pack_windows.specs.Parts.{Part, AreCurrent, IsPart}

-- marks are read of another unit, the one with half the number
abbrev pub ReadOfAnotherUnit : Type 0
ReadOfAnotherUnit = (packs : ℕ → Pack) (unit block size : ℕ) → 0 < size
    → slice_index (packs (unit / 2)).marks block ≢ slice_index (packs unit).marks block
    → ¬ (window size block (packs (unit / 2)).marks ≡ window size block (packs unit).marks)

-- a block is read from its second byte on, and so ends with the first of the next
abbrev pub NextBlockRead : Type 0
NextBlockRead = (image : List ℕ) (block : ℕ) → slice_index image (512 * block + 1) ≢ slice_index image (512 * block)
    → ¬ (window 512 (512 * block + 1) image ≡ block_at image block)

-- a text is written without its first byte
abbrev pub FirstByteLeftOut : Type 0
FirstByteLeftOut = (byte : ℕ) (text before after : List ℕ)
    → Puts {T = Unit {0}} {E = SinkFailed} (λ sink. true) (λ sink. sink) (λ sink. 0) before after (Ok tt) (byte ∷ text) → ¬ (after ≡ before ++ text)

-- of a short text more is kept than its bytes
abbrev pub WholePieceKept : Type 0
WholePieceKept = (taken kept text : List ℕ) (size : ℕ) → size < length text
    → ¬ Gathers {T = Unit {0}} {E = SinkFailed} (λ sink. true) (λ sink. sink) (λ sink. 0) taken taken kept (kept ++ text) (Ok tt) (take size text)

-- a write failed that was done, and a window keeps the old first byte of the block
abbrev pub WindowKeptAfterFailedWrite : Type 0
WindowKeptAfterFailedWrite = (packs : ℕ → Pack) (unit block byte : ℕ) (bytes : List ℕ) (part : Part) (images marks : List Part)
    → slice_get images unit ≡ Some part → IsPart part (packs unit).image → part.at ≡ 512 * block → 0 < length part.bytes
    → slice_index (packs unit).image (512 * block) ≢ byte → ¬ AreCurrent true (with_written packs unit block (byte ∷ bytes)) images marks
