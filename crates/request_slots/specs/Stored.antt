-- The slots as they are stored in memory: which request each slot has, and who has its buffer.
use Rattle.std.specs.Prelude.{◌≡◌, ◌≢◌, ℕ, zero, suc, ◌+◌, ◌≤◌, Bool, true, false, List, [], ◌∷◌, map, length, slice_index_or, Option, None, Some}
use Rattle.std.specs.Option.{option_map}
use Rattle.slab.specs.Slab.{Slab}
use Rattle.main_memory.specs.Blocks.{Loan, IsLoan}
use Rattle.main_memory.specs.Memory.{Memory, IsMemory, IsLent, AreApart, blocks_of}
use Rattle.driver_machine.specs.World.{Held}
use Rattle.request_slots.specs.declared.slot.Holder.{Holder}
use Rattle.request_slots.specs.declared.slot.Holder.TheVariants.{Driver, Adapter}
use Rattle.request_slots.specs.declared.slot.Slot.{Slot}
use Rattle.request_slots.specs.Lending.{IsLoanFor}
use Rattle.request_slots.specs.Requests.{frames_lent}

-- the buffer of a request, whoever has it
abbrev pub loan_of : Holder → Loan
loan_of (Driver buffer) = buffer
loan_of (Adapter buffer) = buffer

abbrev pub is_on_bus : Holder → Bool
is_on_bus (Driver buffer) = false
is_on_bus (Adapter buffer) = true

-- the slot of a number, if a request stands in it
abbrev pub slot_in : List (Option Slot) → ℕ → Option Slot
slot_in slots p = slice_index_or slots p None

-- so many slots: those of a list, and empty ones behind them
unfoldable pub filled_up : {T : Type 0} → ℕ → List (Option T) → List (Option T)
filled_up zero slots = []
filled_up (suc n) [] = None ∷ filled_up n []
filled_up (suc n) (slot ∷ slots) = slot ∷ filled_up n slots

-- all slots for which a slab has room
abbrev pub all_slots : Slab Slot → List (Option Slot)
all_slots slab = filled_up slab.capacity slab.slots

-- a request in its slot, with the blocks that its buffer holds in this memory
abbrev pub held_of : Memory → Slot → Held
held_of memory slot = record {
  id = slot.asked.id;
  unit = slot.asked.unit;
  first = slot.asked.first;
  write = slot.asked.write;
  loan = loan_of slot.buffer;
  blocks = blocks_of (loan_of slot.buffer) memory;
  on_bus = is_on_bus slot.buffer;
  ended = slot.ended;
}

abbrev pub as_seen : Memory → List (Option Slot) → List (Option Held)
as_seen memory slots = map (option_map (held_of memory)) slots

-- What the slots keep: each request has a buffer of its own, of the blocks that it asks for, which the memory lent; and each
-- frame of the memory is free, or a frame that a request needs.
pub record IsKept (memory : Memory) (slots : List (Option Slot)) : Type 0 where
  pub sound : IsMemory memory
  pub few : length slots ≤ 16384
  pub shape : (p : ℕ) → (slot : Slot) → slot_in slots p ≡ Some slot → IsLoan (loan_of slot.buffer)
  pub lent : (p : ℕ) → (slot : Slot) → slot_in slots p ≡ Some slot → IsLent memory (loan_of slot.buffer)
  pub asked : (p : ℕ) → (slot : Slot) → slot_in slots p ≡ Some slot → IsLoanFor slot.asked (loan_of slot.buffer)
  pub apart : (p q : ℕ) → (slot other : Slot) → p ≢ q → slot_in slots p ≡ Some slot → slot_in slots q ≡ Some other
      → AreApart (loan_of slot.buffer) (loan_of other.buffer)
  pub counted : length memory.free + frames_lent (as_seen memory slots) ≡ 16384
