-- The blocks of the read that the oldest answer is of.
use Rattle.std.proofs.Common.{◌≡◌, ℕ, ◌+◌, ◌<◌, ◌≤◌, Bool, true, false, List, [], length, take, sym, ap, subst, ◌∙◌, arith, Some, refl}
use Rattle.std.specs.Prelude.{if◌then◌else◌, ◌==◌, slice_index_or}
use Rattle.main_memory.specs.Bytes.{filled, front}
use Rattle.main_memory.proofs.ByteLaws.{front-filled}
use Rattle.trace_replay.specs.declared.requests.answers.AnswerKind.TheVariants.{ReadOk}
use Rattle.driver_machine.specs.declared.Made.{Made}
use Rattle.driver_machine.specs.World.{World, held_in, block_in}
use Rattle.driver_machine.specs.Sound.{Sound}
use Rattle.driver_laws.specs.answers.Waiting.{blocks_for}
use Rattle.hp_driver.specs.Subsystem.{IsOldest}
use Rattle.hp_driver.proofs.ReadBlocks.{IsRead, slot_there, read_in}
use Rattle.blocking_io.specs.Taking.{blocks_of, oldest_blocks, IsOldestKind, HasBlock}

blocks_at : (w : World) (made : Made) (p : ℕ) → IsOldest w made → made.slot ≡ Some p → oldest_blocks w ≡ (held_in w p).blocks
blocks_at w made p oldest slot = ap (blocks_of w) oldest.first ∙ ap (blocks_for w) slot

pub read_is : (w : World) (count last : ℕ) → Sound w → IsOldestKind w (ReadOk count last) → IsRead (oldest_blocks w) count last
read_is w count last s first =
    let slot = slot_there w first.made count last s first.oldest first.is in
    subst (λ (blocks : List (List ℕ)). IsRead blocks count last) (sym (blocks_at w first.made slot.0 first.oldest slot.1))
    (read_in w first.made slot.0 count last s first.oldest first.is slot.1)

size_few : (t : Bool) (last : ℕ) → last ≤ 512 → (if t then last else 512) ≤ 512
size_few true last few = few
size_few false last few = omega arith

pub has_block : (w : World) (count last k size : ℕ) → Sound w → IsOldestKind w (ReadOk count last) → k < count → size ≡ (if k + 1 == count then last else 512)
    → HasBlock w k size
has_block w count last k size s first lt is =
    let slot = slot_there w first.made count last s first.oldest first.is in
    let read = read_is w count last s first in record {
      reads = record { made = first.made; oldest = first.oldest; count = count; last = last; ok = first.is; inside = lt };
      slot = slot.0;
      slot_is = slot.1;
      long = read.each k lt ∙ sym is;
      few = subst (λ (n : ℕ). n ≤ 512) (sym is) (size_few (k + 1 == count) last read.few);
    }

block_here : (w : World) (k size : ℕ) (block : HasBlock w k size) → slice_index_or (oldest_blocks w) k [] ≡ block_in (held_in w block.slot) k
block_here w k size block = ap (λ (blocks : List (List ℕ)). slice_index_or blocks k []) (blocks_at w block.reads.made block.slot block.reads.oldest block.slot_is)

taken_front : (size : ℕ) (bytes : List ℕ) → front size bytes ≡ take size bytes
unfolding front
taken_front size bytes = refl

-- the bytes that were given for a block, as many as it has
pub block_given : (w : World) (k size : ℕ) (block : HasBlock w k size) (bytes : List ℕ) → bytes ≡ filled 512 (block_in (held_in w block.slot) k)
    → take size bytes ≡ slice_index_or (oldest_blocks w) k []
block_given w k size block bytes is =
    ap (λ (b : List ℕ). take size b) is
    ∙ sym (taken_front size (filled 512 (block_in (held_in w block.slot) k)))
    ∙ front-filled 512 size (block_in (held_in w block.slot) k) (ap (λ (b : List ℕ). length b) (sym (block_here w k size block)) ∙ block.long)
    ∙ sym (block_here w k size block)

-- all before a block are whole
pub whole_before : (blocks : List (List ℕ)) (count last k : ℕ) → IsRead blocks count last → k < count → (j : ℕ) → j < k → length (slice_index_or blocks j []) ≡ 512
whole_before blocks count last k read lt j less =
    read.each j (omega (arith, lt, less)) ∙ ap (λ (t : Bool). if t then last else 512) (not_last j k count less lt)
  where
    not_last : (j k count : ℕ) → j < k → k < count → (j + 1 == count) ≡ false
    not_last j k count less lt = grind arith
