-- Slots and the requests in them, as contracts see them.
use Rattle.std.specs.Prelude.{◌≡◌, ℕ, ◌+◌, ◌-◌, ◌*◌, ◌<◌, if◌then◌else◌, true, false, List, [], ◌∷◌, length, slice_index_or, Option, None, Some, unwrap_or, Contains}
use Rattle.main_memory.specs.Blocks.{IsShape, IsLoan, size_at}
use Rattle.driver_machine.specs.World.{Held, no_held, count_of, frames_of, block_in, pieces}
use Rattle.request_slots.specs.declared.asked.Asked.{Asked}

-- the request in a slot, if one stands there
abbrev pub slot_at : List (Option Held) → ℕ → Option Held
slot_at slots p = slice_index_or slots p None

abbrev pub held_at : List (Option Held) → ℕ → Held
held_at slots p = unwrap_or (slot_at slots p) no_held

-- What may be asked with these bytes: blocks in a buffer. A write comes with just their bytes, and a read with none.
pub record IsAskable (asked : Asked) (bytes : List ℕ) : Type 0 where
  pub shape : IsShape asked.count asked.offset asked.last
  pub size : length bytes ≡ (if asked.write then 512 * (asked.count - 1) + asked.last else 0)

-- a slot is free
abbrev pub HasFree : List (Option Held) → Type 0
HasFree slots = (p : ℕ) × (p < length slots) × (slot_at slots p ≡ None)

-- how many frames all requests in their slots have
abbrev pub frames_lent : List (Option Held) → ℕ
frames_lent [] = 0
frames_lent (None ∷ slots) = frames_lent slots
frames_lent (Some h ∷ slots) = frames_of h + frames_lent slots

-- what is asked, as it was submitted
abbrev pub asked_of : Held → Asked
asked_of h = record {
  id = h.id;
  unit = h.unit;
  first = h.first;
  count = h.loan.count;
  last = h.loan.last;
  write = h.write;
  offset = h.loan.offset;
}

-- A request in its slot has a buffer of 1 to 127 blocks in frames of the memory, and these blocks: each of 512 bytes, but for
-- the last one, which may be shorter.
pub record IsWhole (h : Held) : Type 0 where
  pub loan : IsLoan h.loan
  pub small : (frame : ℕ) → Contains h.loan.frames frame → frame < 16384
  pub size : length h.blocks ≡ count_of h
  pub bytes : (k : ℕ) → k < count_of h → length (block_in h k) ≡ size_at h.loan k

-- A request as it stands in its slot when it was submitted with these bytes: a write's buffer holds them, cut into blocks.
pub record IsHeldFor (asked : Asked) (bytes : List ℕ) (h : Held) : Type 0 where
  pub same : asked_of h ≡ asked
  pub on_bus : h.on_bus ≡ false
  pub ended : h.ended ≡ false
  pub whole : IsWhole h
  pub content : asked.write ≡ true → h.blocks ≡ pieces asked.count bytes
