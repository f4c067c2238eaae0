-- Laws of a block that is moved or repaired: what the slots are after one block of one buffer was written.
use Rattle.std.proofs.Common.{◌≡◌, ◌≢◌, ℕ, ◌+◌, ◌*◌, ◌<◌, ◌≤◌, Bool, true, false, if◌then◌else◌, List, take, drop, length, set, Option, None, Some, refl, sym, ap, ◌∙◌, subst, arith}
use Rattle.std.proofs.lemmas.List.{length-take, length-drop, length-append, set-get_or}
use Rattle.main_memory.specs.declared.span.Span.{Span}
use Rattle.main_memory.specs.Bytes.{part, with_part}
use Rattle.main_memory.specs.Blocks.{Loan, IsLoan, IsSpan, in_frame, in_next, size_at, span_of, bytes_in, with_bytes_in}
use Rattle.main_memory.specs.Memory.{Memory, IsMemory, IsLent, AreTaken, AreApart, with_block, blocks_of}
use Rattle.main_memory.proofs.ByteLaws.{length-with_part}
use Rattle.main_memory.proofs.BlockLaws.{is_span, length-bytes_in, length-with_bytes_in, slice_get-blocks_of, blocks_of-with_block, blocks_of-with_block_other}
use Rattle.driver_machine.specs.World.{Held, block_in, with_block_in}
use Rattle.request_slots.specs.Requests.{held_at}
use Rattle.request_slots.specs.declared.slot.Slot.{Slot}
use Rattle.request_slots.specs.Stored.{loan_of, slot_in, held_of, as_seen, IsKept}
use Rattle.request_slots.proofs.SlotLaws.{with_held, frames_lent-same, held_at-as_seen, as_seen-set, block_in-as_seen}

-- bytes of a span that are written where they were read leave the memory's size, whatever the memory was
length-part_le : (size at : ℕ) (bytes : List ℕ) → length (part size at bytes) ≤ size
unfolding part
length-part_le size at bytes = omega (arith, length-take size (drop at bytes))

length-bytes_in_le : (span : Span) (bytes : List ℕ) → length (bytes_in span bytes) ≤ span.len
unfolding bytes_in
length-bytes_in_le span bytes =
    let a : ℕ = 512 * span.frame + span.offset in
    let c : ℕ = 512 * span.next in
    omega (arith, length-append (part (in_frame span) a bytes) (part (in_next span) c bytes), length-part_le (in_frame span) a bytes, length-part_le (in_next span) c bytes)

length-with_bytes_in_le : (span : Span) (block bytes : List ℕ) → IsSpan span → length block ≤ span.len → length bytes ≡ 8388608 → length (with_bytes_in span block bytes) ≡ 8388608
unfolding with_bytes_in
length-with_bytes_in_le span block bytes is short size =
    let s : ℕ = in_frame span in
    let front : length (take s block) ≤ s = omega (arith, length-take s block) in
    let rest : length (drop s block) ≤ in_next span = omega (arith, length-drop s block) in
    let middle = length-with_part (512 * span.frame + span.offset) (take s block) bytes (omega (arith, is.inside, is.frame_small)) in
    let last = length-with_part (512 * span.next) (drop s block) (with_part (512 * span.frame + span.offset) (take s block) bytes) (omega (arith, is.few, is.next_small, middle)) in
    last ∙ middle ∙ size

-- A slot of whose buffer one block is written.
pub record IsMoved (slots : List (Option Slot)) (p : ℕ) (loan : Loan) (k : ℕ) : Type 0 where
  pub slot : Slot
  pub here : slot_in slots p ≡ Some slot
  pub has : loan_of slot.buffer ≡ loan
  pub inside : k < loan.count

module _ (m : Memory) (slots : List (Option Slot)) (p : ℕ) (loan : Loan) (k : ℕ) (kept : IsKept m slots) (at : IsMoved slots p loan k) where
  shape : IsLoan loan
  shape = subst IsLoan at.has (kept.shape p at.slot at.here)

  lent : IsLent m loan
  lent = subst (IsLent m) at.has (kept.lent p at.slot at.here)

  span : IsSpan (span_of loan k)
  span = is_span m loan k shape lent at.inside

  -- that block of the slot, as the memory holds it
  pub moved_block : bytes_in (span_of loan k) m.bytes ≡ block_in (held_at (as_seen m slots) p) k
  moved_block = block_in-as_seen m p loan k refl refl at.here at.has (slice_get-blocks_of m loan k at.inside)

  pub length-written : length (bytes_in (span_of loan k) m.bytes) ≡ size_at loan k
  length-written = length-bytes_in (span_of loan k) m.bytes span kept.sound.size

  pub length-moved_block : length (block_in (held_at (as_seen m slots) p) k) ≡ size_at loan k
  length-moved_block = sym (ap length moved_block) ∙ length-written

-- THE MEMORY WITH THAT BLOCK WRITTEN
module _ (m : Memory) (slots : List (Option Slot)) (p : ℕ) (loan : Loan) (k : ℕ) (kept : IsKept m slots) (at : IsMoved slots p loan k)
    (m' : Memory) (block : List ℕ) (whole : length block ≡ size_at loan k) (written : m' ≡ with_block loan k block m) where
  pub sound_written : IsMemory m'
  sound_written =
      let size : length (with_block loan k block m).bytes ≡ 8388608 = length-with_bytes_in (span_of loan k) block m.bytes (span m slots p loan k kept at) whole kept.sound.size in
      subst IsMemory (sym written) (record { size = size; ascending = kept.sound.ascending; small = kept.sound.small })

  -- each other slot has its blocks
  others_after : (q : ℕ) (other : Slot) → q ≢ p → slot_in slots q ≡ Some other → blocks_of (loan_of other.buffer) m' ≡ blocks_of (loan_of other.buffer) m
  others_after q other ne there =
      ap (blocks_of (loan_of other.buffer)) written
      ∙ blocks_of-with_block_other m loan (loan_of other.buffer) k block kept.sound.size (shape m slots p loan k kept at) (lent m slots p loan k kept at) at.inside whole
      (kept.shape q other there) (kept.lent q other there)
      (subst (λ (l : Loan). AreApart l (loan_of other.buffer)) at.has (kept.apart p q at.slot other (λ e. ne (sym e)) at.here there))

  this_after : held_of m' at.slot ≡ with_block_in k block (held_of m at.slot)
  this_after =
      let of_loan : blocks_of loan m' ≡ set (blocks_of loan m) k block =
      ap (blocks_of loan) written
      ∙ blocks_of-with_block m loan k block kept.sound.size (shape m slots p loan k kept at) (lent m slots p loan k kept at) at.inside whole in
      let blocks : blocks_of (loan_of at.slot.buffer) m' ≡ set (blocks_of (loan_of at.slot.buffer) m) k block =
      subst (λ (l : Loan). blocks_of l m' ≡ set (blocks_of l m) k block) (sym at.has) of_loan in
      ap (λ (bs : List (List ℕ)). record (held_of m at.slot) { blocks = bs }) blocks

  pub seen_written : as_seen m' slots ≡ with_held p (with_block_in k block (held_at (as_seen m slots) p)) (as_seen m slots)
  seen_written =
      let same : set slots p (Some at.slot) ≡ slots = ap (λ (o : Option Slot). set slots p o) (sym at.here) ∙ set-get_or slots p None in
      ap (as_seen m') (sym same)
      ∙ as_seen-set m m' slots p (Some at.slot) others_after
      ∙ ap (λ (h : Held). with_held p h (as_seen m slots))
      (this_after ∙ ap (with_block_in k block) (sym (held_at-as_seen m slots p at.slot at.here)))

-- the memory in which the block was written that it then holds there
module _ (m : Memory) (slots : List (Option Slot)) (p : ℕ) (loan : Loan) (k : ℕ) (kept : IsKept m slots) (at : IsMoved slots p loan k)
    (m' : Memory) (reads : m' ≡ with_block loan k (bytes_in (span_of loan k) m'.bytes) m) where
  size : length m'.bytes ≡ 8388608
  size =
      ap (λ (memory : Memory). length memory.bytes) reads
      ∙ length-with_bytes_in_le (span_of loan k) (bytes_in (span_of loan k) m'.bytes) m.bytes (span m slots p loan k kept at) (length-bytes_in_le (span_of loan k) m'.bytes) kept.sound.size

  pub whole_read : length (bytes_in (span_of loan k) m'.bytes) ≡ size_at loan k
  whole_read = length-bytes_in (span_of loan k) m'.bytes (span m slots p loan k kept at) size

-- what the slots keep depends on the memory by its free frames alone
pub kept-same_frames : (m m' : Memory) (slots : List (Option Slot)) → IsKept m slots → m'.free ≡ m.free → IsMemory m' → IsKept m' slots
kept-same_frames m m' slots kept free sound = record {
  sound = sound;
  few = kept.few;
  shape = kept.shape;
  lent = λ p slot at. subst (AreTaken (loan_of slot.buffer).frames) (sym free) (kept.lent p slot at);
  asked = kept.asked;
  apart = kept.apart;
  counted = omega (arith, frames_lent-same m m' slots, ap length free, kept.counted);
}

-- A STEP, from what it says of the memory: a sector that is read is block k of the buffer, else nothing changes
module _ (m : Memory) (slots : List (Option Slot)) (p : ℕ) (loan : Loan) (k : ℕ) (kept : IsKept m slots) (at : IsMoved slots p loan k) (m' : Memory) where
  abbrev after : Bool → Memory
  after read = if read then with_block loan k (bytes_in (span_of loan k) m'.bytes) m else m

  abbrev shown : Bool → List (Option Held)
  shown read =
      if read then with_held p (with_block_in k (block_in (held_at (as_seen m' slots) p) k) (held_at (as_seen m slots) p)) (as_seen m slots)
      else as_seen m slots

  pub sound_of : (read : Bool) → m' ≡ after read → IsMemory m'
  sound_of true reads = sound_written m slots p loan k kept at m' (bytes_in (span_of loan k) m'.bytes) (whole_read m slots p loan k kept at m' reads) reads
  sound_of false same = subst IsMemory (sym same) kept.sound

  pub free_of : (read : Bool) → m' ≡ after read → m'.free ≡ m.free
  free_of true is = ap (λ (x : Memory). x.free) is
  free_of false is = ap (λ (x : Memory). x.free) is

  pub shown_of : (read : Bool) → m' ≡ after read → IsMemory m' → m'.free ≡ m.free → as_seen m' slots ≡ shown read
  shown_of true reads sound free =
      seen_written m slots p loan k kept at m' (bytes_in (span_of loan k) m'.bytes) (whole_read m slots p loan k kept at m' reads) reads
      ∙ ap (λ (block : List ℕ). with_held p (with_block_in k block (held_at (as_seen m slots) p)) (as_seen m slots))
      (moved_block m' slots p loan k (kept-same_frames m m' slots kept free sound) at)
  shown_of false same sound free = ap (λ (memory : Memory). as_seen memory slots) same
