-- What a try comes to, from what the calls of the packs said.
use Rattle.std.proofs.Common.{◌≡◌, ◌≤◌, ◌⊎◌, inl, inr, ℕ, Bool, true, false, IsTrue, List, Option, None, Some, Result, Ok, Err, IsSome, refl, sym, ap, ◌∙◌}
use Rattle.pack_geometry.specs.Pack.{Pack, is_marked, with_written}
use Rattle.main_memory.specs.Bytes.{filled}
use Rattle.outside_traits.specs.Causes.{Rose}
use Rattle.hardware_table.specs.declared.Moved.{Moved}
use Rattle.hardware_table.specs.Drive.{DriveState, is_writing}
use Rattle.hardware_table.specs.Moves.{stop_of}
use Rattle.drive_model.specs.Move.{Site, Scene, MovesSector, IsOldOrNew, TriesSector, site_of}

-- a drive that is not stopped is owed nothing of those that are
pub goes_on : {A P : Type 0} (stop : Option A) → stop ≡ None → IsSome stop → P
goes_on None none some = cc
goes_on (Some a) none some = cc

module _ {Q E : Type 0} {tells : Q → Bool} {held : Q → ℕ → Pack} {faults : Q → ℕ} {packs packs' : Q} {unit block : ℕ} {drive : DriveState} {size : ℕ} {old new : Scene} where
  -- it ended with a verdict
  pub tried : {v : Moved} → MovesSector unit block drive size (tells packs') (site_of old (held packs)) (site_of new (held packs')) v
      → (IsSome (stop_of drive) → packs' ≡ packs) → (IsTrue (tells packs') → IsTrue (tells packs)) → faults packs ≤ faults packs'
      → TriesSector {E = E} tells held faults packs packs' unit block drive size old new (Ok v)
  tried moves asks again later =
      record { moves = moves; stopped = λ s. (refl, asks s); unchanged = tt; old_or_new = tt; never_again = again; cause = record { later = later; failed = tt } }

  -- or the packs failed
  pub failed : {e : E} → stop_of drive ≡ None → new ≡ old → IsOldOrNew unit block drive (tells packs') (site_of old (held packs)) (held packs')
      → (IsTrue (tells packs') → IsTrue (tells packs)) → faults packs ≤ faults packs' → Rose (faults packs) (faults packs')
      → TriesSector tells held faults packs packs' unit block drive size old new (Err e)
  failed goes same left again later rose =
      record { moves = tt; stopped = λ s. goes_on (stop_of drive) goes s; unchanged = same; old_or_new = left; never_again = again; cause = record { later = later; failed = rose } }

-- the block of a write is old or new
pub write_fails : (unit block : ℕ) (drive : DriveState) (told : Bool) (old : Site) (mid held : ℕ → Pack) (sector : List ℕ) → is_writing drive.work ≡ true
    → (IsTrue told → false ≡ is_marked (old.held unit) block) → (IsTrue told → mid ≡ old.held) → sector ≡ filled 512 old.window
    → (IsTrue told → (held ≡ mid) ⊎ (held ≡ with_written mid unit block sector)) → IsOldOrNew unit block drive told old held
write_fails unit block drive told old mid held sector writes unmarked same is_sector left = λ t. by t (left t)
  where
    by : IsTrue told → (held ≡ mid) ⊎ (held ≡ with_written mid unit block sector)
        → (held ≡ old.held) ⊎ ((is_writing drive.work ≡ true) × (is_marked (old.held unit) block ≡ false)
        × (held ≡ with_written old.held unit block (filled 512 old.window)))
    by t (inl kept) = inl (kept ∙ same t)
    by t (inr wrote) = inr (writes, sym (unmarked t), wrote ∙ ap (λ h. with_written h unit block sector) (same t) ∙ ap (λ s. with_written old.held unit block s) is_sector)

-- a try that is seen in other words
pub tries_as : {Q E : Type 0} {tells : Q → Bool} {held : Q → ℕ → Pack} {faults : Q → ℕ} {packs packs' : Q} {unit block : ℕ} {drive : DriveState} {size size' : ℕ} {old old' new new' : Scene}
    {result : Result Moved E} → size ≡ size' → old ≡ old' → new ≡ new' → TriesSector tells held faults packs packs' unit block drive size old new result
    → TriesSector tells held faults packs packs' unit block drive size' old' new' result
tries_as e f h tries = rw (← e, ← f, ← h) tries
