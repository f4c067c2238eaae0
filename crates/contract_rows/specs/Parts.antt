-- What wrong bodies of the transfer engine, the sorted queue, the repair and a line would leave, refused by the words of their contracts.
use Rattle.std.specs.Prelude.{ℕ, ◌≡◌, ◌≢◌, ◌<◌, ◌+◌, ◌*◌, List, [], ◌∷◌, Option, Some, Err, length, slice_index}
use Rattle.pack_geometry.specs.TableSpelling.{Table}
use Rattle.transfer_engine.specs.State.{TransferState, moved_on, failed}
use Rattle.transfer_engine.specs.Calls.{after_done, after_bad_sector, with_state}
use Rattle.transfer_engine.specs.declared.states.Transfer.TheVariants.{Direct, Forwarded}
use Rattle.transfer_engine.specs.declared.states.Next.TheVariants.{More}
use Rattle.trace_replay.specs.requests.ServiceOrder.{queue_with}
use Rattle.disksort.specs.declared.Waiter.{Waiter}
use Rattle.disksort.specs.SortQueue.{cylinder_of}
use Rattle.driver_machine.specs.Repaired.{repaired, data_bit, pattern_bit}

abbrev pub waiter : (number cylinder : ℕ) → Waiter
waiter number cylinder = record { number = number; cylinder = cylinder }

pub record PartsRefused : Type 0 where
  -- behind a block that was forwarded the rest begins one block late
  pub continuation_off_by_one : (t : TransferState) (index : ℕ) → t.index ≡ Some index → after_done t ≡ More (moved_on (t.done + 2) t) → ⊥
  -- a try fails, and its block is forwarded, which nobody found marked
  pub unmarked_block_forwarded : (t u : TransferState) (clean : ℕ) → with_state (Direct t) (failed clean t) ≡ Forwarded u → ⊥
  -- the marked sector that ends a request is counted among its blocks that are done
  pub done_one_too_many : (t : TransferState) (clean : ℕ) (table : Option Table) → after_bad_sector clean table t ≡ Err (record { done = t.done + clean + 1 }) → ⊥
  -- a try fails behind sectors that moved clean, and the failures before them are counted with it
  pub failures_kept_over_a_moved_place : (t : TransferState) (clean : ℕ) → 0 < clean → 0 < t.failures
      → with_state (Direct t) (failed clean t) ≡ Direct (record t { done = t.done + clean; failures = t.failures + 1 }) → ⊥
  -- of two at one cylinder the one that joined later is served first
  pub equal_cylinder_in_front : (first later cylinder : ℕ) → first ≢ later
      → queue_with cylinder_of (waiter later cylinder) (waiter first cylinder ∷ []) ≡ waiter later cylinder ∷ waiter first cylinder ∷ [] → ⊥
  -- one that joins below the head's cylinder is served in the head's sweep
  pub one_run_only : (head later low high : ℕ) → low < high
      → queue_with cylinder_of (waiter later low) (waiter head high ∷ []) ≡ waiter later low ∷ waiter head high ∷ [] → ⊥
  -- a place of the burst was on, and is on still
  pub bits_set_and_not_flipped : (at pattern place : ℕ) (old new : List ℕ) → new ≡ repaired at pattern old → place < 8 * length old
      → pattern_bit at pattern place ≡ 1 → data_bit old place ≡ 1 → data_bit new place ≡ 1 → ⊥
  -- a burst begins behind the end of a short window, and a byte in it differs
  pub repair_past_the_window_end : (at pattern k : ℕ) (old new : List ℕ) → pattern < 2048 → new ≡ repaired at pattern old → 8 * length old < at
      → k < length old → slice_index new k ≢ slice_index old k → ⊥
  -- a line had a text, was cleared, and has it still
  pub cleared_line_keeps_its_text : (old new : List ℕ) (byte : ℕ) (text : List ℕ) → old ≡ byte ∷ text → new ≡ [] → new ≡ old → ⊥
