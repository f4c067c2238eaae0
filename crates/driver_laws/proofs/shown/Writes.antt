-- What a write gives a sector: the block of its buffer.
use Rattle.std.proofs.Common.{◌≡◌, ℕ, zero, suc, ◌+◌, ◌*◌, ◌<◌, Bool, true, List, [], ◌∷◌, ◌++◌, take, drop, length, Option, Some, None, refl, sym, ap, subst, arith, ◌∙◌, rules}
use Rattle.std.proofs.lemmas.List.{drop-drop}
use Rattle.std.specs.Prelude.{is_some, slice_index_or, replicate, IsTrue}
use Rattle.hardware_table.specs.declared.Moved.{Moved}
use Rattle.hardware_table.specs.Drive.{DriveState, is_writing}
use Rattle.hardware_table.specs.Moves.{was_written}
use Rattle.hardware_table.specs.Adapter.{AdapterState, next_window}
use Rattle.main_memory.specs.Blocks.{size_at}
use Rattle.trace_replay.specs.requests.Requests.{Request}
use Rattle.trace_replay.specs.Packs.{size_of_block, sector_of_block}
use Rattle.trace_replay.specs.Conversation as told
use Rattle.driver_machine.specs.World.{UnitView, Held, adapter_of, unit_at, adapter_at, held_in, slot_in_hand, transfer_of, block_in, pieces, World}
use Rattle.driver_laws.specs.shown.Stages.{progress_with}
use Rattle.driver_laws.proofs.shown.Sector.{sector_progress, IsSector, sector_facts}
use Rattle.driver_laws.proofs.shown.Facts.{At, at_facts}
use Rattle.trace_replay.specs.Service.{in_hand}
use Rattle.trace_replay.specs.Replay.{Replay}
use Rattle.driver_machine.specs.Acts.{Of, Sector, Tried}
use Rattle.driver_machine.specs.Guards.{Allowed}
use Rattle.driver_machine.specs.Sound.{Sound}
use Rattle.driver_laws.proofs.shown.Showing.{Shows}

cut_same : (size n : ℕ) (xs : List ℕ) → length (take n xs) ≡ size → take size xs ≡ take n xs
cut_same size zero [] is = rw (sym is) refl
cut_same size zero (x ∷ xs) is = rw (sym is) refl
cut_same size (suc n) [] is = rw (sym is) refl
cut_same zero (suc n) (x ∷ xs) is = absurd (grind (arith, is))
cut_same (suc size) (suc n) (x ∷ xs) is = ap (λ ys. x ∷ ys) (cut_same size n xs (grind (arith, is)))

pub piece_at : (n k : ℕ) (bytes : List ℕ) → k < n → slice_index_or (pieces n bytes) k [] ≡ take 512 (drop (512 * k) bytes)
piece_at zero k bytes less = absurd (omega (arith, less))
piece_at (suc n) zero bytes less = refl
piece_at (suc n) (suc k) bytes less =
    let more : 512 + 512 * k ≡ 512 * suc k = omega arith in
    piece_at n k (drop 512 bytes) (omega (arith, less))
    ∙ ap (take 512) (drop-drop (512 * k) 512 bytes ∙ ap (λ m. drop m bytes) more)

was_written_writes : (d : DriveState) (last : Moved) (write : Bool) → is_writing d.work ≡ write → was_written d last ≡ true → write ≡ true
was_written_writes d last write is written = search rules

pub written_is : (o : Option (List ℕ)) → is_some o ≡ true → (bytes : List ℕ) × (o ≡ Some bytes)
written_is None is = absurd (grind (arith, is))
written_is (Some bytes) is = (bytes, refl)

-- block k of the buffer, and what the replay writes for it
pub sector_same : (r : Request) (bytes : List ℕ) (k size : ℕ) (block : List ℕ) → r.written ≡ Some bytes → size_of_block r k ≡ size
    → block ≡ take 512 (drop (512 * k) bytes) → length block ≡ size → sector_of_block r k ≡ take 512 (block ++ replicate 512 0)
sector_same r bytes k size block written same is counted =
    let cut : take size (drop (512 * k) bytes) ≡ block = cut_same size 512 (drop (512 * k) bytes) (ap length (sym is) ∙ counted) ∙ sym is in
    rw (written, same, cut) refl

-- THE PACKS. What a write gives a sector in the replay is the block of its buffer, with zeros behind it.
pub writes_show : (u id block line : ℕ) (t : Tried) (w : World) (s : Replay) → Sound w → Shows u w s → Allowed w (Of line u id (Sector block t))
    → IsTrue (was_written (unit_at w u).drive t.verdict)
    → sector_of_block (in_hand (s.units u).service) (s.units u).progress.done ≡ take 512 (t.bytes ++ replicate 512 0)
writes_show u id block line t w s sound shows allowed written =
    let h : Held = held_in w (slot_in_hand (unit_at w u)) in
    let v : UnitView = unit_at w u in
    let a : AdapterState = (adapter_at w (adapter_of u)).state in
    let at : At u id w s = at_facts u id w s sound shows allowed.0 in
    let is : IsSector u w s t.verdict = sector_facts u id block w s t sound at allowed.1.0 allowed.1.2 in
    let writes : h.write ≡ true = was_written_writes v.drive t.verdict h.write is.moving.write written in
    let asked : (bytes : List ℕ) × (at.head.request.written ≡ Some bytes) = written_is at.head.request.written (sym at.head.is.write ∙ writes) in
    let count : h.loan.count ≡ at.head.request.count = at.head.is.count in
    let inside : next_window a < h.loan.count =
    subst (λ n. n < h.loan.count) (sym is.moving.window) (subst (λ n. (transfer_of v).done + a.moved < n) at.slot.size is.moving.inside) in
    let content : h.blocks ≡ pieces at.head.request.count asked.0 = at.head.is.content asked.0 asked.1 in
    let piece : block_in h (next_window a) ≡ take 512 (drop (512 * next_window a) asked.0) =
    ap (λ blocks. slice_index_or blocks (next_window a) []) content
    ∙ piece_at at.head.request.count (next_window a) asked.0 (subst (λ n. next_window a < n) count inside) in
    let same : t.bytes ≡ block_in h (next_window a) = allowed.1.2.bytes written in
    let size : size_of_block at.head.request (next_window a) ≡ size_at h.loan (next_window a) = rw (count, at.head.is.last) refl in
    let counted : length t.bytes ≡ size_at h.loan (next_window a) = ap length same ∙ at.slot.whole (next_window a) inside in
    let progress : (s.units u).progress ≡ progress_with a.moved (transfer_of v) h = sector_progress h v a (s.units u) at.core is.moving.phase is.moving.down in
    let done : (s.units u).progress.done ≡ next_window a = ap (λ (p : told.Progress). p.done) progress ∙ sym is.moving.window in
    rw (at.head.head, done) (sector_same at.head.request asked.0 (next_window a) (size_at h.loan (next_window a)) t.bytes asked.1 size (same ∙ piece) counted)
