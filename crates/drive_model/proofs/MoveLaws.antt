-- What a move leaves, from what the drive, the book and the packs said.
use Rattle.std.proofs.Common.{◌≡◌, ℕ, Bool, true, false, not, ◌&&◌, IsTrue, MatchBool, if◌then◌else◌, List, Option, None, Some, option_map, refl, sym, ap, ◌∙◌, subst}
use Rattle.pack_geometry.specs.Pack.{block_at, is_marked, with_written}
use Rattle.main_memory.specs.Bytes.{front, filled}
use Rattle.main_memory.specs.declared.window.Window.{Window}
use Rattle.main_memory.specs.Windows.{Writes, window_bytes}
use Rattle.hardware_table.specs.declared.FaultKind.{FaultKind}
use Rattle.hardware_table.specs.declared.Moved.{Moved}
use Rattle.hardware_table.specs.declared.Moved.TheVariants.{Clean, Burst, Hard, Marked, Faulted, Offline}
use Rattle.hardware_table.specs.Drive.{DriveState, is_writing}
use Rattle.hardware_table.specs.Noise.{strikes, book_struck}
use Rattle.hardware_table.specs.Moves.{stop_of, first_armed, has_bytes, was_read, IsVerdict, IsReadVerdict, IsReadAs}
use Rattle.drive_model.specs.Move.{Site, MovesSector, struck_at}

-- a drive that is stopped moves no bytes
no_bytes_by : (online : Bool) → (fault : Option FaultKind) → (verdict : Moved)
    → (if online then option_map Faulted fault else Some Offline) ≡ Some verdict → has_bytes verdict ≡ false
no_bytes_by true None verdict e = cc
no_bytes_by true (Some kind) verdict e = let same : Faulted kind ≡ verdict = cc in subst (λ v. has_bytes v ≡ false) same refl
no_bytes_by false fault verdict e = let same : Offline ≡ verdict = cc in subst (λ v. has_bytes v ≡ false) same refl

no_bytes : (d : DriveState) → (verdict : Moved) → stop_of d ≡ Some verdict → has_bytes verdict ≡ false
no_bytes d verdict e = no_bytes_by d.online (first_armed d.armed) verdict e

-- it has that verdict, whatever the pack holds, and leaves all as it was
pub stopped_moves : (unit block : ℕ) → (d : DriveState) → (size : ℕ) → (told : Bool) → (site : Site) → (verdict : Moved)
    → stop_of d ≡ Some verdict → MovesSector unit block d size told site site verdict
stopped_moves unit block d size told site verdict e = record {
  marked = is_marked (site.held unit) block;
  by_rules = rw e refl;
  by_pack = λ t. refl;
  book = rw (no_bytes d verdict e) refl;
  read = λ r. absurd (nothing (has_bytes verdict) (not (is_writing d.work)) (no_bytes d verdict e) r);
  unread = λ r. refl;
  written = λ t. rw (no_bytes d verdict e) refl;
}
  where
    nothing : (a b : Bool) → a ≡ false → IsTrue (a && b) → ⊥
    nothing false b e r = cc
    nothing true b e r = cc

no : false ≡ true → ⊥
no e = cc

-- a sector that is marked
pub marked_moves : (unit block : ℕ) → (d : DriveState) → (size : ℕ) → (told : Bool) → (old new : Site)
    → stop_of d ≡ None → (IsTrue told → true ≡ is_marked (old.held unit) block)
    → new.book ≡ old.book → new.window ≡ old.window → (IsTrue told → new.held ≡ old.held)
    → MovesSector unit block d size told old new Marked
marked_moves unit block d size told old new goes mark same_book same_window kept = record {
  marked = true;
  by_rules = rw goes refl;
  by_pack = mark;
  book = same_book;
  read = λ r. absurd (no r);
  unread = λ r. same_window;
  written = kept;
}

-- a sector that was written
pub write_moves : (unit block : ℕ) → (d : DriveState) → (size : ℕ) → (told : Bool) → (old new : Site)
    → stop_of d ≡ None → is_writing d.work ≡ true → (IsTrue told → false ≡ is_marked (old.held unit) block)
    → new.book ≡ old.book → new.window ≡ old.window
    → (IsTrue told → new.held ≡ with_written old.held unit block (filled 512 old.window))
    → MovesSector unit block d size told old new Clean
write_moves unit block d size told old new goes writes unmarked same_book same_window wrote = record {
  marked = false;
  by_rules = rw (goes, writes) refl;
  by_pack = unmarked;
  book = rw writes same_book;
  read = λ r. absurd (no (rw writes at r));
  unread = λ r. same_window;
  written = λ t. rw writes (wrote t);
}

-- the verdict of a read has bytes
read_bytes : (places : Option (List ℕ)) → (verdict : Moved) → IsReadVerdict places verdict → has_bytes verdict ≡ true
read_bytes None verdict e = ap has_bytes e
read_bytes (Some places) Clean h = refl
read_bytes (Some places) (Burst at pattern) h = refl
read_bytes (Some places) Hard h = refl
read_bytes (Some places) Marked h = absurd h
read_bytes (Some places) (Faulted kind) h = absurd h
read_bytes (Some places) Offline h = absurd h

by_reading : (d : DriveState) → (places : Option (List ℕ)) → (verdict : Moved) → stop_of d ≡ None → is_writing d.work ≡ false
    → IsReadVerdict places verdict → IsVerdict d false places verdict
by_reading d places verdict e f h = rw (e, f) h

-- a sector that was read, with this word in the offset register
pub read_moves : (unit block word : ℕ) → (d : DriveState) → (size : ℕ) → (told : Bool) → (old new : Site) → (verdict : Moved) → (sector bytes : List ℕ)
    → word ≡ d.offset → stop_of d ≡ None → is_writing d.work ≡ false → (IsTrue told → false ≡ is_marked (old.held unit) block)
    → IsReadVerdict (strikes unit block word old.book.live) verdict → new.book ≡ book_struck unit block word old.book
    → IsReadAs (strikes unit block word old.book.live) sector bytes → (IsTrue told → sector ≡ block_at (old.held unit).image block)
    → new.window ≡ front size bytes → (IsTrue told → new.held ≡ old.held)
    → MovesSector unit block d size told old new verdict
read_moves unit block word d size told old new verdict sector bytes is_word goes reads unmarked judged used as_read is_sector cut kept = record {
  marked = false;
  by_rules = by_reading d (struck_at unit block d old.book) verdict goes reads (subst (λ w. IsReadVerdict (strikes unit block w old.book.live) verdict) is_word judged);
  by_pack = unmarked;
  book = rw (moved, reads) (used ∙ ap (λ w. book_struck unit block w old.book) is_word);
  read = λ r t. record {
    bytes = bytes;
    whole = subst (λ s. IsReadAs (struck_at unit block d old.book) s bytes) (is_sector t) (subst (λ w. IsReadAs (strikes unit block w old.book.live) sector bytes) is_word as_read);
    cut = cut;
  };
  unread = λ r. absurd (something (has_bytes verdict) (is_writing d.work) moved reads r);
  written = λ t. rw (moved, reads) (kept t);
}
  where
    moved : has_bytes verdict ≡ true
    moved = read_bytes (strikes unit block word old.book.live) verdict judged

    something : (a b : Bool) → a ≡ true → b ≡ false → (a && not b) ≡ false → ⊥
    something a b e f g = cc

-- the window of a sector that was not read, and of one that was
pub stopped_window : (d : DriveState) → (verdict : Moved) → (window : Window) → stop_of d ≡ Some verdict
    → MatchBool (was_read d verdict) (Writes window window (window_bytes window)) (window ≡ window)
stopped_window d verdict window e = unread_window (has_bytes verdict) (not (is_writing d.work)) (no_bytes d verdict e)
  where
    unread_window : (a b : Bool) → a ≡ false → MatchBool (a && b) (Writes window window (window_bytes window)) (window ≡ window)
    unread_window false b e = refl
    unread_window true b e = absurd (no (sym e))

pub write_window : (d : DriveState) → (window : Window) → is_writing d.work ≡ true
    → MatchBool (was_read d Clean) (Writes window window (window_bytes window)) (window ≡ window)
write_window d window writes = by_write (is_writing d.work) writes
  where
    by_write : (b : Bool) → b ≡ true → MatchBool (not b) (Writes window window (window_bytes window)) (window ≡ window)
    by_write true e = refl
    by_write false e = absurd (no e)

pub read_window : (d : DriveState) → (places : Option (List ℕ)) → (verdict : Moved) → (old new : Window) → (bytes : List ℕ)
    → is_writing d.work ≡ false → IsReadVerdict places verdict → window_bytes new ≡ bytes → Writes old new bytes
    → MatchBool (was_read d verdict) (Writes old new (window_bytes new)) (new ≡ old)
read_window d places verdict old new bytes reads judged shown writes =
    by_read (has_bytes verdict) (is_writing d.work) (read_bytes places verdict judged) reads (rw shown writes)
  where
    by_read : (a b : Bool) → a ≡ true → b ≡ false → Writes old new (window_bytes new) → MatchBool (a && not b) (Writes old new (window_bytes new)) (new ≡ old)
    by_read true false e f written = written
    by_read true true e f written = absurd (no (sym f))
    by_read false b e f written = absurd (no e)
