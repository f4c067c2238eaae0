-- The images that packs in memory are made of, and the calls that fail.
use Rattle.std.specs.Prelude.{◌≡◌, ℕ, ◌==◌, ◌&&◌, Bool, if◌then◌else◌, List, [], ◌∷◌, ◌<◌, Some, slice_get}
use Rattle.std.specs.List.{list_any}
use Rattle.mass_outside.specs.Slots.{SlotView, empty_slot}
use Rattle.mass_outside.specs.declared.slots.Image.{Image}
use Rattle.mass_outside.specs.declared.mem_packs.PackOp.{PackOp}
use Rattle.mass_outside.specs.declared.mem_packs.PackOp.TheVariants.{Length, Read, Write, Marked, SetMark}
use Rattle.mass_outside.specs.declared.mem_packs.FailCall.{FailCall}

abbrev pub image_slot : Image → SlotView
image_slot image = record { pack = record { image = image.bytes.items; marks = image.marks.items }; blocks = image.blocks }

-- the slot of a unit: that of its first image, or an empty one
abbrev pub slot_of : List Image → ℕ → SlotView
slot_of [] unit = empty_slot
slot_of (image ∷ images) unit = if unit == image.unit then image_slot image else slot_of images unit

-- the operations by number
abbrev pub op_number : PackOp → ℕ
op_number Length = 0
op_number Read = 1
op_number Write = 2
op_number Marked = 3
op_number SetMark = 4

-- the call of an operation with a number, counted from 1, is one of those that fail
abbrev pub is_listed : List FailCall → PackOp → ℕ → Bool
is_listed fail op number = list_any (λ (call : FailCall). (op_number call.op == op_number op) && (call.number == number)) fail

-- each of the 32 units has the slot of its image
abbrev pub HoldsImages : List SlotView → List Image → Type 0
HoldsImages slots images = (unit : ℕ) → unit < 32 → slice_get slots unit ≡ Some (slot_of images unit)
