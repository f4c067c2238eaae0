-- What packs in memory hold.
use Rattle.std.specs.Prelude.{◌≡◌, ℕ, if◌then◌else◌, List, [], ◌∷◌, Option, None, Some, slice_get, nat_lt, length}
use Rattle.pack_geometry.specs.Pack.{Pack, empty_pack, with_block, with_window}

-- a unit's pack, and how many blocks it has room for
pub record SlotView : Type 0 where
  pub pack : Pack
  pub blocks : ℕ

abbrev pub empty_slot : SlotView
empty_slot = record { pack = empty_pack; blocks = 0 }

-- a slot with one block replaced, and one with one mark byte replaced
abbrev pub slot_written : SlotView → ℕ → List ℕ → SlotView
slot_written slot block bytes =
    record { pack = record { image = with_block slot.pack.image block bytes; marks = slot.pack.marks }; blocks = slot.blocks }

abbrev pub slot_marked : SlotView → ℕ → ℕ → SlotView
slot_marked slot block byte =
    record { pack = record { image = slot.pack.image; marks = with_window block (byte ∷ []) slot.pack.marks }; blocks = slot.blocks }

abbrev pub pack_in : Option SlotView → Pack
pack_in None = empty_pack
pack_in (Some slot) = slot.pack

abbrev pub blocks_in : Option SlotView → ℕ
blocks_in None = 0
blocks_in (Some slot) = slot.blocks

-- the packs that slots hold, the slot of unit u being the u-th
abbrev pub held_slots : List SlotView → ℕ → Pack
held_slots slots unit = pack_in (slice_get slots unit)

-- slots that hold nothing
abbrev pub AllEmpty : List SlotView → Type 0
AllEmpty slots = (unit : ℕ) → slice_get slots unit ≡ (if nat_lt unit (length slots) then Some empty_slot else None)
