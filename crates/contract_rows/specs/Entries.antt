-- What wrong bodies would leave of the entries of noise and of a cache, refused by the words of their contracts.
use Rattle.std.specs.Prelude.{ℕ, ◌≡◌, ◌≢◌, true, false, List, [], ◌∷◌, Option, Some}
use Rattle.live_noise.specs.declared.entries.Entry.{Entry}
use Rattle.live_noise.specs.Book.{number_of, with_entry}
use Rattle.driver_laws.specs.declared.rules.cached.Entry.{Entry as Cached}
use Rattle.driver_laws.specs.rules.Entries.{State, changed_in_front, unchanged, written_back}

pub record EntriesRefused : Type 0 where
  -- noise of a sector that was armed later strikes first
  pub new_noise_in_front_of_its_sector : (first later : Entry) → first ≢ later → number_of first ≡ number_of later → with_entry later (first ∷ []) ≡ later ∷ first ∷ [] → ⊥
  -- a block of the cache was changed, and the entry has the bytes that it had, though they are others,
  pub changed_bytes_held_back : (e : Cached) (bytes : List ℕ) (s : State) → s.entries ≡ e ∷ [] → bytes ≢ e.bytes
      → (changed_in_front e.unit e.block bytes s).entries ≡ record e { changed = true } ∷ [] → ⊥
  -- or it does not count as changed
  pub change_not_noted : (e : Cached) (bytes : List ℕ) (s : State) → s.entries ≡ e ∷ [] → (changed_in_front e.unit e.block bytes s).entries ≡ record e { bytes = bytes; changed = false } ∷ [] → ⊥
  -- a sync does not write an entry back that was changed,
  pub changed_entry_not_written_back : (e : Cached) → e.changed ≡ true → written_back (e ∷ []) ≡ [] → ⊥
  -- or one that was not,
  pub unchanged_entry_written_back : (e : Cached) → e.changed ≡ false → written_back (e ∷ []) ≢ [] → ⊥
  -- or an entry counts as changed behind it
  pub entry_left_changed : (e : Cached) → (unchanged e).changed ≡ true → ⊥
