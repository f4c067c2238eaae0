-- Packs in memory that never fail, as contracts see them.
use Rattle.std.specs.Prelude.{◌≡◌, ℕ, Bool, if◌then◌else◌, List, Some, slice_get, slice_set}
use Rattle.pack_geometry.specs.Pack.{Pack}
use Rattle.mass_outside.specs.Slots.{SlotView, held_slots, slot_written, slot_marked}

-- the slots of the 32 units, and whether no write and no mark was passed over
pub record SureView : Type 0 where
  pub slots : List SlotView
  pub tells : Bool

abbrev pub sure_held : SureView → ℕ → Pack
sure_held packs unit = held_slots packs.slots unit

-- a write, or a mark, inside a unit's image replaced that block of its slot, and nothing else
abbrev pub SureWrote : SureView → ℕ → ℕ → List ℕ → SureView → Type 0
SureWrote old unit block bytes new = (slot : SlotView) × (slice_get old.slots unit ≡ Some slot)
    × (new ≡ record old { slots = slice_set old.slots unit (slot_written slot block bytes) })

abbrev pub SureMarked : SureView → ℕ → ℕ → Bool → SureView → Type 0
SureMarked old unit block on new = (slot : SlotView) × (slice_get old.slots unit ≡ Some slot)
    × (new ≡ record old { slots = slice_set old.slots unit (slot_marked slot block (if on then 1 else 0)) })
