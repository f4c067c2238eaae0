-- Packs in memory, as contracts see them.
use Rattle.std.specs.Prelude.{◌≡◌, ℕ, nat_lt, not, Bool, if◌then◌else◌, List, Some, slice_get, slice_set}
use Rattle.pack_geometry.specs.Pack.{Pack}
use Rattle.mass_outside.specs.Slots.{SlotView, held_slots, blocks_in, slot_written, slot_marked}
use Rattle.outside_traits.specs.Causes.{next}
use Rattle.outside_traits.specs.declared.traits.PackCall.{PackCall}
use Rattle.mass_outside.specs.declared.mem_packs.FailCall.{FailCall}

-- the slots of the 32 units, the calls that fail, how many calls of each operation were made, the failures, and at which call the last one was
pub record MemView : Type 0 where
  pub slots : List SlotView
  pub fail : List FailCall
  pub lengths : ℕ
  pub reads : ℕ
  pub writes : ℕ
  pub markeds : ℕ
  pub set_marks : ℕ
  pub faults : ℕ
  pub failed_at : PackCall

abbrev pub held_by : MemView → ℕ → Pack
held_by packs unit = held_slots packs.slots unit

-- there is no room for a block of a unit
abbrev pub is_outside : List SlotView → ℕ → ℕ → Bool
is_outside slots unit block = not (nat_lt block (blocks_in (slice_get slots unit)))

abbrev pub has_no_room : MemView → ℕ → ℕ → Bool
has_no_room packs unit block = is_outside packs.slots unit block

-- no call was made yet
pub record IsFresh (packs : MemView) : Type 0 where
  pub lengths : packs.lengths ≡ 0
  pub reads : packs.reads ≡ 0
  pub writes : packs.writes ≡ 0
  pub markeds : packs.markeds ≡ 0
  pub set_marks : packs.set_marks ≡ 0
  pub faults : packs.faults ≡ 0

-- a write, or a mark, that was done replaced that block of that unit's slot, and counted the call
abbrev pub AfterWrite : MemView → ℕ → ℕ → List ℕ → MemView → Type 0
AfterWrite old unit block bytes new = (slot : SlotView) × (slice_get old.slots unit ≡ Some slot)
    × (new ≡ record old { slots = slice_set old.slots unit (slot_written slot block bytes); writes = next old.writes })

abbrev pub AfterMark : MemView → ℕ → ℕ → Bool → MemView → Type 0
AfterMark old unit block on new = (slot : SlotView) × (slice_get old.slots unit ≡ Some slot)
    × (new ≡ record old { slots = slice_set old.slots unit (slot_marked slot block (if on then 1 else 0)); set_marks = next old.set_marks })
