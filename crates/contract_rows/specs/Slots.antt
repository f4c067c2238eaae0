-- What wrong bodies would leave of slots and of the units' row of bits, refused by what these keep.
use Rattle.std.specs.Prelude.{ℕ, ◌≡◌, ◌≢◌, ◌<◌, ◌+◌, true, false, List, Option, None, Some, length, slice_set}
use Rattle.main_memory.specs.Memory.{Memory}
use Rattle.driver_machine.specs.World.{UnitView, Held}
use Rattle.driver_machine.specs.Acts.{repaired_at}
use Rattle.driver_machine.specs.Events.{can_arrive}
use Rattle.request_slots.specs.declared.slot.Slot.{Slot}
use Rattle.request_slots.specs.Requests.{frames_lent, slot_at, held_at}
use Rattle.request_slots.specs.Stored.{IsKept, as_seen}
use Rattle.hp_units.specs.Row.{IsRow, is_on, unit_in}

pub record SlotsRefused : Type 0 where
  -- a frame is neither free nor that of a request
  pub frame_lost : (memory : Memory) (slots : List (Option Slot)) → IsKept memory slots → length memory.free + frames_lent (as_seen memory slots) < 16384 → ⊥
  -- a request whose block was repaired stands in a slot that was free
  pub put_back_under_another_key : (old new : List (Option Held)) (slot other k at pattern : ℕ) (h : Held)
      → new ≡ slice_set old slot (Some (repaired_at k at pattern (held_at old slot))) → other ≢ slot
      → slot_at old other ≡ None → slot_at new other ≡ Some h → ⊥
  -- a unit arrived, and its bit says that it positions
  pub bit_left_on_behind_the_arrival : (row u : ℕ) (units : List UnitView) → IsRow row units → u < 32 → can_arrive (unit_in units u) ≡ false → is_on row u ≡ true → ⊥
  -- a unit positions, and its bit says that it does not
  pub bit_of_another_unit : (row u : ℕ) (units : List UnitView) → IsRow row units → u < 32 → can_arrive (unit_in units u) ≡ true → is_on row u ≡ false → ⊥
