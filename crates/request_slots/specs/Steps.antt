-- The move of the next sector of a transfer, for the request in a slot.
use Rattle.std.specs.Prelude.{◌≡◌, ℕ, Bool, true, List, length, slice_set, Option, Some, IsSome, Result}
use Rattle.pack_geometry.specs.Pack.{Pack}
use Rattle.main_memory.specs.Blocks.{size_at}
use Rattle.hardware_table.specs.declared.Moved.{Moved}
use Rattle.hardware_table.specs.Drive.{DriveState}
use Rattle.hardware_table.specs.Adapter.{AdapterState, next_window}
use Rattle.mba_adapter.specs.Loaded.{loaded_buffer}
use Rattle.mba_adapter.specs.Steps.{IsUnderWay, NextBlock, StepsSector}
pub use Rattle.mba_adapter.specs.Steps.{Bench, adapter_after, drive_behind}
use Rattle.driver_machine.specs.World.{Held, block_in, with_block_in}
use Rattle.request_slots.specs.Requests.{slot_at, held_at}

-- IT MAY COME: the adapter has the buffer of that request, and a transfer of this drive is under way with a block left to it.
pub record MayStep (slots : List (Option Held)) (p : ℕ) (adapter : AdapterState) (drive : DriveState) : Type 0 where
  pub there : IsSome (slot_at slots p)
  pub bus : (held_at slots p).on_bus ≡ true
  pub loaded : (held_at slots p).loan ≡ loaded_buffer adapter
  pub is : IsUnderWay adapter drive

-- the block that it moves: one of that request
abbrev pub slot_block : ℕ → AdapterState → NextBlock (List (Option Held))
slot_block p adapter = record {
  size = λ slots. size_at (held_at slots p).loan (next_window adapter);
  bytes = λ slots. block_in (held_at slots p) (next_window adapter);
  put = λ block slots. slice_set slots p (Some (with_block_in (next_window adapter) block (held_at slots p)));
}

-- THE NEXT SECTOR IS TRIED, for the request in slot p. The block keeps its size.
pub record StepsSlot {Q E : Type 0} (tells : Q → Bool) (held : Q → ℕ → Pack) (faults : Q → ℕ) (packs packs' : Q) (unit p : ℕ) (old new : Bench (List (Option Held))) (result : Result Moved E) : Type 0 where
  pub steps : StepsSector tells held faults packs packs' unit (slot_block p old.adapter) old new result
  pub size : length (block_in (held_at new.store p) (next_window old.adapter)) ≡ size_at (held_at old.store p).loan (next_window old.adapter)
