use Rattle.std.proofs.Common.{◌≡◌, ℕ, ◌+◌, ◌*◌, ◌/◌, ◌<◌, List, ◌∷◌, ◌++◌, length, take, get_or, refl, sym, ap, ◌∙◌, length-append, arith}
use Rattle.std.proofs.lemmas.Bool.Decides.{nat_tests}
use Rattle.std.proofs.lemmas.List.{length-take}
use Rattle.pack_geometry.specs.Pack.{Pack, block_at, window, with_block, with_written}
use Rattle.pack_geometry.proofs.PackLaws.{get_or-window, get_or-with_window_here}
use Rattle.promise_rows.specs.Reads.{ReadOfAnotherUnit, NextBlockRead, FirstByteLeftOut, WholePieceKept, WindowKeptAfterFailedWrite}
use Rattle.promise_rows.proofs.packs.reads_law.Goals as goal

-- the first byte of a window
first : (size at : ℕ) (image : List ℕ) → 0 < size → get_or (window size at image) 0 0 ≡ get_or image at 0
first size at image some = get_or-window size at image 0 some ∙ ap (λ (i : ℕ). get_or image i 0) (from_none at)
  where
    from_none : (n : ℕ) → n + 0 ≡ n
    from_none n = omega arith

same_first : (size at from : ℕ) (image other : List ℕ) → 0 < size → window size at image ≡ window size from other → get_or image at 0 ≡ get_or other from 0
same_first size at from image other some same =
    sym (first size at image some) ∙ ap (λ (bytes : List ℕ). get_or bytes 0 0) same ∙ first size from other some

another_unit : ReadOfAnotherUnit
another_unit packs unit block size some differs same = differs (same_first size block block (packs (unit / 2)).marks (packs unit).marks some same)

next_block : NextBlockRead
unfolding block_at
next_block image block differs same = differs (same_first 512 (512 * block + 1) (512 * block) image image (omega arith) same)

left_out : FirstByteLeftOut
left_out byte text before after puts is =
    let long : length (before ++ (byte ∷ text)) ≡ length (before ++ text) = ap (λ (bytes : List ℕ). length bytes) (sym (puts.bytes refl) ∙ is) in
    omega (arith, long, length-append before (byte ∷ text), length-append before text)

whole_piece : WholePieceKept
whole_piece taken kept text size less gathers =
    let long : length (taken ++ (kept ++ text)) ≡ length (taken ++ (kept ++ take size text)) = ap (λ (bytes : List ℕ). length bytes) (gathers.bytes refl) in
    omega (
      arith,
      less,
      long,
      length-append taken (kept ++ text),
      length-append kept text,
      length-append taken (kept ++ take size text),
      length-append kept (take size text),
      length-take size text,
    )

-- the image of a unit at which a block was written
written_image : (packs : ℕ → Pack) (unit block : ℕ) (bytes : List ℕ) → (with_written packs unit block bytes unit).image ≡ with_block (packs unit).image block bytes
written_image packs unit block bytes = grind (arith, nat_tests)

written_first : (image : List ℕ) (block byte : ℕ) (bytes : List ℕ) → get_or (with_block image block (byte ∷ bytes)) (512 * block) 0 ≡ byte
unfolding with_block
written_first image block byte bytes =
    ap (λ (i : ℕ). get_or (with_block image block (byte ∷ bytes)) i 0) (from_none (512 * block)) ∙ get_or-with_window_here image (byte ∷ bytes) (512 * block) 0 (omega arith)
  where
    from_none : (n : ℕ) → n ≡ n + 0
    from_none n = omega arith

window_kept : WindowKeptAfterFailedWrite
window_kept packs unit block byte bytes part images marks there old at some differs current =
    let image : List ℕ = (packs unit).image in
    let new : List ℕ = (with_written packs unit block (byte ∷ bytes) unit).image in
    let same : get_or image part.at 0 ≡ get_or new part.at 0 =
    same_first (length part.bytes) part.at part.at image new some (sym old.bytes ∙ ((current.image_parts refl).each unit part there).bytes) in
    differs (ap (λ (i : ℕ). get_or image i 0) (sym at) ∙ same ∙ ap (λ (i : ℕ). get_or new i 0) at
    ∙ ap (λ (bytes : List ℕ). get_or bytes (512 * block) 0) (written_image packs unit block (byte ∷ bytes)) ∙ written_first image block byte bytes)

pub returns-clause-read_of_another_unit : goal.returns-clause-read_of_another_unit
returns-clause-read_of_another_unit c = another_unit

pub returns-clause-next_block_read : goal.returns-clause-next_block_read
returns-clause-next_block_read c = next_block

pub returns-clause-first_byte_left_out : goal.returns-clause-first_byte_left_out
returns-clause-first_byte_left_out c = left_out

pub returns-clause-whole_piece_kept : goal.returns-clause-whole_piece_kept
returns-clause-whole_piece_kept c = whole_piece

pub returns-clause-window_kept_after_failed_write : goal.returns-clause-window_kept_after_failed_write
returns-clause-window_kept_after_failed_write c = window_kept
