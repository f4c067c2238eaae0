use Rattle.std.proofs.Common.{◌≡◌, ℕ, ◌<◌, List, Option, sym, ap, ◌∙◌, subst}
use Rattle.hardware_table.specs.Adapter.{next_window}
use Rattle.mba_adapter.specs.Move.{has_read}
use Rattle.mba_adapter.proofs.FailLaws.{tries_as}
use Rattle.main_memory.specs.Blocks.{Loan, size_at, span_of, bytes_in}
use Rattle.main_memory.specs.Memory.{IsMemory, IsLent}
use Rattle.mba_adapter.specs.Loaded.{loaded_buffer}
use Rattle.driver_machine.specs.World.{Held, block_in}
use Rattle.request_slots.specs.Requests.{held_at}
use Rattle.request_slots.specs.Stored.{loan_of, all_slots, as_seen, IsKept}
use Rattle.request_slots.proofs.HolderLaws.{stands, adapter_has}
use Rattle.request_slots.proofs.SlotLaws.{loan_at}
use Rattle.request_slots.proofs.StepLaws.{IsMoved, moved_block, length-moved_block, kept-same_frames, sound_of, free_of, shown_of}
use Rattle.request_slots.proofs.slots.Slots.step.Goals as goal
use Rattle.request_slots.proofs.slots.Slots.step.Given.{Over}

pub step_sector-requires-clause-may : goal.step_sector-requires-clause-may
step_sector-requires-clause-may g c =
    let has : loan_of c.slot_at.result.now.buffer ≡ c.in-Adapter.buffer = ap loan_of c.in-Adapter.is in
    record {
      loaded = sym has ∙ sym (loan_at c.self.inside.memory (all_slots c.self.inside.slots) c.args.slot c.slot_at.result.now c.self.view_is c.slot_at.ensures) ∙ c.requires.may.loaded;
      lent = subst (IsLent c.self.inside.memory) has (c.self.invariant.lent c.args.slot c.slot_at.result.now c.slot_at.ensures);
      is = c.requires.may.is;
    }

-- the block that is moved is one of the buffer's
moved : (g : Over) (c : goal.After-step_sector g) → IsMoved (all_slots c.self.inside.slots) c.args.slot c.in-Adapter.buffer (next_window c.args.adapter.now)
moved g c =
    let has : loan_of c.slot_at.result.now.buffer ≡ c.in-Adapter.buffer = ap loan_of c.in-Adapter.is in
    let loaded : c.in-Adapter.buffer ≡ loaded_buffer c.args.adapter.now =
    sym has ∙ sym (loan_at c.self.inside.memory (all_slots c.self.inside.slots) c.args.slot c.slot_at.result.now c.self.view_is c.slot_at.ensures) ∙ c.requires.may.loaded in
    record {
      slot = c.slot_at.result.now;
      here = c.slot_at.ensures;
      has = has;
      inside = subst (λ (l : Loan). next_window c.args.adapter.now < l.count) (sym loaded) c.step_sector.ensures.inside;
    }

-- what a step leaves of the memory
sound : (g : Over) (c : goal.After-step_sector g) → IsMemory c.step_sector.new.memory
sound g c =
    sound_of c.self.inside.memory (all_slots c.self.inside.slots) c.args.slot c.in-Adapter.buffer (next_window c.args.adapter.now) c.self.invariant (moved g c) c.step_sector.new.memory
    (has_read c.args.drive.now c.step_sector.result) c.step_sector.ensures.steps.store

free : (g : Over) (c : goal.After-step_sector g) → c.step_sector.new.memory.free ≡ c.self.inside.memory.free
free g c =
    free_of c.self.inside.memory (all_slots c.self.inside.slots) c.args.slot c.in-Adapter.buffer (next_window c.args.adapter.now) c.self.invariant (moved g c) c.step_sector.new.memory
    (has_read c.args.drive.now c.step_sector.result) c.step_sector.ensures.steps.store

kept : (g : Over) (c : goal.After-step_sector g) → IsKept c.step_sector.new.memory (all_slots c.self.inside.slots)
kept g c =
    kept-same_frames c.self.inside.memory c.step_sector.new.memory (all_slots c.self.inside.slots) c.self.invariant (free g c) (sound g c)

pub invariant_of-self : goal.invariant_of-self
invariant_of-self g c = kept g c

-- the block that is moved, before it is
block_before : (g : Over) (c : goal.After-step_sector g) → bytes_in (span_of c.in-Adapter.buffer (next_window c.args.adapter.now)) c.self.inside.memory.bytes
    ≡ block_in (held_at c.args.self.now c.args.slot) (next_window c.args.adapter.now)
block_before g c =
    moved_block c.self.inside.memory (all_slots c.self.inside.slots) c.args.slot c.in-Adapter.buffer (next_window c.args.adapter.now) c.self.invariant (moved g c)
    ∙ ap (λ (seen : List (Option Held)). block_in (held_at seen c.args.slot) (next_window c.args.adapter.now)) c.self.view_is

-- and after it
block_after : (g : Over) (c : goal.After-step_sector g) → bytes_in (span_of c.in-Adapter.buffer (next_window c.args.adapter.now)) c.step_sector.new.memory.bytes
    ≡ block_in (held_at (as_seen c.step_sector.new.memory (all_slots c.self.inside.slots)) c.args.slot) (next_window c.args.adapter.now)
block_after g c =
    moved_block c.step_sector.new.memory (all_slots c.self.inside.slots) c.args.slot c.in-Adapter.buffer (next_window c.args.adapter.now) (kept g c) (moved g c)

-- it is as long as that block of the request
size_is : (g : Over) (c : goal.After-step_sector g) → size_at c.in-Adapter.buffer (next_window c.args.adapter.now) ≡ size_at (held_at c.args.self.now c.args.slot).loan (next_window c.args.adapter.now)
size_is g c =
    let at : IsMoved (all_slots c.self.inside.slots) c.args.slot c.in-Adapter.buffer (next_window c.args.adapter.now) = moved g c in
    ap (λ (l : Loan). size_at l (next_window c.args.adapter.now)) (sym (loan_at c.self.inside.memory (all_slots c.self.inside.slots) c.args.slot at.slot c.self.view_is at.here ∙ at.has))

pub returns : goal.returns
returns g c =
    let steps = c.step_sector.ensures.steps in
    let before = ap (λ (block : List ℕ). record { book = c.args.book.now; window = block }) (block_before g c) in
    let after = ap (λ (block : List ℕ). record { book = c.step_sector.new.book; window = block }) (block_after g c) in
    record {
      steps = record {
        tries = tries_as (size_is g c) before after steps.tries;
        adapter = steps.adapter;
        drive = steps.drive;
        store = rw c.self.view_is at
            (shown_of c.self.inside.memory (all_slots c.self.inside.slots) c.args.slot c.in-Adapter.buffer (next_window c.args.adapter.now) c.self.invariant (moved g c) c.step_sector.new.memory
            (has_read c.args.drive.now c.step_sector.result) steps.store (sound g c) (free g c));
      };
      size = length-moved_block c.step_sector.new.memory (all_slots c.self.inside.slots) c.args.slot c.in-Adapter.buffer (next_window c.args.adapter.now) (kept g c) (moved g c) ∙ size_is g c;
    }

pub slot_at-requires : goal.slot_at-requires
slot_at-requires g c = stands c.self.inside.memory (all_slots c.self.inside.slots) c.args.slot c.self.view_is c.requires.may.there

pub unreachable-requires : goal.unreachable-requires
unreachable-requires g c = adapter_has c.self.inside.memory (all_slots c.self.inside.slots) c.args.slot c.slot_at.result.now c.in_default.field-0 c.self.view_is c.slot_at.ensures c.requires.may.bus c.in_default.is
