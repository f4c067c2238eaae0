-- Laws of what is stored: each request whole, and its blocks.
use Rattle.std.proofs.Common.{◌≡◌, ◌≢◌, ℕ, suc, ◌<◌, ◌≤◌, List, [], ◌∷◌, length, get_or, set, Option, None, Some, IsSome, refl, sym, ap, ◌∙◌, subst, arith}
use Rattle.std.specs.Option.{option_map}
use Rattle.std.specs.List.{Contains}
use Rattle.std.proofs.lemmas.Bool.{false≢true}
use Rattle.std.proofs.lemmas.List.{get_or_default, set-get_or}
use Rattle.std.proofs.lemmas.Option.{none-some, same_Some}
use Rattle.main_memory.specs.Blocks.{Loan, IsLoan, size_at, span_of, bytes_in}
use Rattle.main_memory.specs.Frames.{frames_needed}
use Rattle.main_memory.specs.Memory.{Memory, AreTaken, AreApart, with_block}
use Rattle.main_memory.proofs.BlockLaws.{length-blocks_from}
use Rattle.driver_machine.specs.Repaired.{repaired}
use Rattle.driver_machine.proofs.ecc_repair.Bytes.{length-repaired}
use Rattle.driver_machine.specs.World.{Held, count_of, block_in, with_block_in}
use Rattle.driver_machine.specs.Acts.{repaired_at}
use Rattle.request_slots.specs.declared.slot.Slot.{Slot}
use Rattle.request_slots.specs.Requests.{slot_at, held_at, frames_lent, IsWhole}
use Rattle.request_slots.specs.Stored.{loan_of, slot_in, held_of, as_seen, IsKept}
use Rattle.request_slots.proofs.SlotLaws.{Replaced, slot_at-as_seen, held_at-as_seen, loan_at}
use Rattle.request_slots.proofs.StepLaws.{IsMoved, moved_block, length-moved_block, length-written, sound_written, seen_written, kept-same_frames}

-- EACH REQUEST IS WHOLE
small_frame : (frames free : List ℕ) (frame : ℕ) → AreTaken frames free → Contains frames frame → frame < 16384
small_frame frames free frame taken there =
    let e : get_or frames there.0 0 ≡ frame = get_or_default frames there.0 0 frame there.1 ∙ there.2 in
    omega (arith, taken.small there.0 there.1, e)

pub whole_slot : (m : Memory) (slots : List (Option Slot)) → IsKept m slots → (p : ℕ) (slot : Slot) → slot_in slots p ≡ Some slot → IsWhole (held_of m slot)
whole_slot m slots kept p slot here = record {
  loan = kept.shape p slot here;
  small = λ frame there. small_frame (loan_of slot.buffer).frames m.free frame (kept.lent p slot here) there;
  size = length-blocks_from (loan_of slot.buffer) m.bytes 0 (loan_of slot.buffer).count;
  bytes = λ k inside.
      ap (λ (h : Held). length (block_in h k)) (sym (held_at-as_seen m slots p slot here))
      ∙ length-moved_block m slots p (loan_of slot.buffer) k kept (record { slot = slot; here = here; has = refl; inside = inside });
}

-- the slot of a request that is seen
by_slot : (m : Memory) (slots : List (Option Slot)) {seen : List (Option Held)} → as_seen m slots ≡ seen → (p : ℕ) (h : Held) {X : Type 0} → slot_at seen p ≡ Some h
    → ((slot : Slot) → slot_in slots p ≡ Some slot → held_of m slot ≡ h → X) → X
by_slot m slots {seen} view p h {X} there found =
    shown (slot_in slots p) refl (sym (slot_at-as_seen m slots p) ∙ ap (λ (ps : List (Option Held)). slot_at ps p) view ∙ there)
  where
    shown : (o : Option Slot) → slot_in slots p ≡ o → option_map (held_of m) o ≡ Some h → X
    shown None here is = absurd (none-some h is)
    shown (Some slot) here is = found slot here (same_Some _ _ is)

pub whole_at : (m : Memory) (slots : List (Option Slot)) {seen : List (Option Held)} → IsKept m slots → as_seen m slots ≡ seen → (p : ℕ) (h : Held) → slot_at seen p ≡ Some h → IsWhole h
whole_at m slots {seen} kept view p h there =
    by_slot m slots view p h there (λ slot here is. subst IsWhole is (whole_slot m slots kept p slot here))

pub apart_at : (m : Memory) (slots : List (Option Slot)) {seen : List (Option Held)} → IsKept m slots → as_seen m slots ≡ seen → (p q : ℕ) (g h : Held) → p ≢ q → slot_at seen p ≡ Some g → slot_at seen q ≡ Some h
    → AreApart g.loan h.loan
apart_at m slots {seen} kept view p q g h ne there other =
    by_slot m slots view p g there
    (λ slot here is.
    by_slot m slots view q h other
    (λ second second_here second_is.
    subst (λ (k : Held). AreApart k.loan h.loan) is (subst (λ (k : Held). AreApart (loan_of slot.buffer) k.loan) second_is (kept.apart p q slot second ne here second_here))))

-- NO SLOT IS FREE only where each request has a frame
needs_one : (loan : Loan) → IsLoan loan → 1 ≤ frames_needed loan.count loan.offset loan.last
needs_one loan is = omega (arith, is.shape.last_some)

at_least : (m : Memory) (slots : List (Option Slot)) → ((p : ℕ) (slot : Slot) → slot_in slots p ≡ Some slot → IsLoan (loan_of slot.buffer))
    → ((p : ℕ) → p < length (as_seen m slots) → IsSome (slot_at (as_seen m slots) p)) → length (as_seen m slots) ≤ frames_lent (as_seen m slots)
at_least m [] shape all = omega arith
at_least m (None ∷ xs) shape all = absurd (false≢true (all 0 (omega arith)))
at_least m (Some slot ∷ xs) shape all =
    omega (arith, needs_one (loan_of slot.buffer) (shape 0 slot refl), at_least m xs (λ p. shape (suc p)) (λ p inside. all (suc p) (omega (arith, inside))))

pub full_at : (m : Memory) (slots : List (Option Slot)) {seen : List (Option Held)} → IsKept m slots → as_seen m slots ≡ seen → ((p : ℕ) → p < length seen → IsSome (slot_at seen p))
    → length seen ≤ frames_lent seen
full_at m slots {seen} kept view all =
    subst (λ (xs : List (Option Held)). length xs ≤ frames_lent xs) view
    (at_least m slots kept.shape (subst (λ (xs : List (Option Held)). (p : ℕ) → p < length xs → IsSome (slot_at xs p)) (sym view) all))

-- A BLOCK of a buffer that a slot has is that block of the request that is seen there
moved : (m : Memory) {slots : List (Option Slot)} {seen : List (Option Held)} {p k : ℕ} {slot : Slot} {loan : Loan} → as_seen m slots ≡ seen → slot_in slots p ≡ Some slot → loan_of slot.buffer ≡ loan
    → k < count_of (held_at seen p) → IsMoved slots p loan k
moved m {slots} {seen} {p} {k} {slot} {loan} view here has inside = record {
  slot = slot;
  here = here;
  has = has;
  inside = subst (λ (l : Loan). k < l.count) (loan_at m slots p slot view here ∙ has) inside;
}

pub block_seen : (m : Memory) {slots : List (Option Slot)} {seen : List (Option Held)} (p k : ℕ) {slot : Slot} {loan : Loan} → IsKept m slots → as_seen m slots ≡ seen → slot_in slots p ≡ Some slot
    → loan_of slot.buffer ≡ loan → k < count_of (held_at seen p) → bytes_in (span_of loan k) m.bytes ≡ block_in (held_at seen p) k
block_seen m {slots} {seen} p k {slot} {loan} kept view here has inside =
    moved_block m slots p loan k kept (moved m view here has inside) ∙ ap (λ (xs : List (Option Held)). block_in (held_at xs p) k) view

-- A REPAIR writes the block that it repaired
pub put_back : {slots after : List (Option Slot)} {p : ℕ} {slot new : Slot} → Replaced slots after p slot new → new ≡ slot → after ≡ slots
put_back {slots} {after} {p} {slot} {new} r same =
    r.there ∙ ap (λ (s : Slot). set slots p (Some s)) same ∙ ap (λ (o : Option Slot). set slots p o) (sym r.here) ∙ set-get_or slots p None

repaired_size : {m : Memory} {slots : List (Option Slot)} {p : ℕ} {loan : Loan} {k : ℕ} (at pattern : ℕ) → IsKept m slots → IsMoved slots p loan k
    → length (repaired at pattern (bytes_in (span_of loan k) m.bytes)) ≡ size_at loan k
repaired_size {m} {slots} {p} {loan} {k} at pattern kept here =
    length-repaired 0 at pattern (bytes_in (span_of loan k) m.bytes) ∙ length-written m slots p loan k kept here

pub repaired_kept : {m m' : Memory} {slots : List (Option Slot)} {seen : List (Option Held)} (p k at pattern : ℕ) {slot : Slot} {loan : Loan}
    → IsKept m slots → as_seen m slots ≡ seen → slot_in slots p ≡ Some slot → loan_of slot.buffer ≡ loan → k < count_of (held_at seen p)
    → m' ≡ with_block loan k (repaired at pattern (bytes_in (span_of loan k) m.bytes)) m → IsKept m' slots
repaired_kept {m} {m'} {slots} {seen} p k at pattern {slot} {loan} kept view here has inside written =
    let block : IsMoved slots p loan k = moved m view here has inside in
    kept-same_frames m m' slots kept (ap (λ (memory : Memory). memory.free) written)
    (sound_written m slots p loan k kept block m' (repaired at pattern (bytes_in (span_of loan k) m.bytes)) (repaired_size at pattern kept block) written)

pub repaired_seen : {m m' : Memory} {slots : List (Option Slot)} {seen : List (Option Held)} (p k at pattern : ℕ) {slot : Slot} {loan : Loan}
    → IsKept m slots → as_seen m slots ≡ seen → slot_in slots p ≡ Some slot → loan_of slot.buffer ≡ loan → k < count_of (held_at seen p)
    → m' ≡ with_block loan k (repaired at pattern (bytes_in (span_of loan k) m.bytes)) m → as_seen m' slots ≡ set seen p (Some (repaired_at k at pattern (held_at seen p)))
repaired_seen {m} {m'} {slots} {seen} p k at pattern {slot} {loan} kept view here has inside written =
    let block : IsMoved slots p loan k = moved m view here has inside in
    seen_written m slots p loan k kept block m' (repaired at pattern (bytes_in (span_of loan k) m.bytes)) (repaired_size at pattern kept block) written
    ∙ ap (λ (bytes : List ℕ). set (as_seen m slots) p (Some (with_block_in k (repaired at pattern bytes) (held_at (as_seen m slots) p)))) (moved_block m slots p loan k kept block)
    ∙ ap (λ (xs : List (Option Held)). set xs p (Some (repaired_at k at pattern (held_at xs p)))) view
