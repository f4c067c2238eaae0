-- What the move of one sector between a pack and a window leaves.
use Rattle.std.specs.Prelude.{◌≡◌, ℕ, ◌⊎◌, Bool, true, false, IsTrue, if◌then◌else◌, List, Option, IsSome, Result, Ok, Err, IfOk, IsOk, OnErr}
use Rattle.main_memory.specs.Bytes.{front, filled}
use Rattle.main_memory.specs.declared.window.Window.{Window}
use Rattle.main_memory.specs.Windows.{window_bytes}
use Rattle.pack_geometry.specs.Pack.{Pack, block_at, is_marked, with_written}
use Rattle.outside_traits.specs.Causes.{HasCause}
use Rattle.hardware_table.specs.declared.Moved.{Moved}
use Rattle.hardware_table.specs.Drive.{DriveState, is_writing}
use Rattle.hardware_table.specs.Noise.{Book, strikes, book_struck}
use Rattle.hardware_table.specs.Moves.{IsVerdict, IsReadAs, stop_of, was_read, was_written, after_move}

-- what a move may change beside the drive: the book of noise, what the packs hold, and the bytes of the window
pub record Site : Type 0 where
  pub book : Book
  pub held : ℕ → Pack
  pub window : List ℕ

-- the places that a read of a sector flips
abbrev pub struck_at : ℕ → ℕ → DriveState → Book → Option (List ℕ)
struck_at unit block drive book = strikes unit block drive.offset book.live

-- what a read leaves in a window of so many bytes: the front of the bytes that were read
pub record IsFrontRead (places : Option (List ℕ)) (sector : List ℕ) (size : ℕ) (window : List ℕ) : Type 0 where
  pub bytes : List ℕ
  pub whole : IsReadAs places sector bytes
  pub cut : window ≡ front size bytes

-- A sector that was tried on a drive, through a window of so many bytes, with this verdict. What packs hold is said
-- where it is told.
pub record MovesSector (unit block : ℕ) (drive : DriveState) (size : ℕ) (told : Bool) (old new : Site) (verdict : Moved) : Type 0 where
  -- the verdict, by the rules in their order; the mark is the pack's
  pub marked : Bool
  pub by_rules : IsVerdict drive marked (struck_at unit block drive old.book) verdict
  pub by_pack : IsTrue told → marked ≡ is_marked (old.held unit) block
  -- noise that struck is used
  pub book : new.book ≡ (if was_read drive verdict then book_struck unit block drive.offset old.book else old.book)
  -- a read gives the window the front of the sector's bytes, and a write gives the pack the window's bytes and then
  -- zeros; all else stays
  pub read : IsTrue (was_read drive verdict) → IsTrue told
      → IsFrontRead (struck_at unit block drive old.book) (block_at (old.held unit).image block) size new.window
  pub unread : was_read drive verdict ≡ false → new.window ≡ old.window
  pub written : IsTrue told
      → new.held ≡ (if was_written drive verdict then with_written old.held unit block (filled 512 old.window) else old.held)

-- What a failure of the packs leaves: they hold what they held, or, in a write of a sector that is not marked, the
-- block that was to be written.
abbrev pub IsOldOrNew : ℕ → ℕ → DriveState → Bool → Site → (ℕ → Pack) → Type 0
IsOldOrNew unit block drive told old held =
    IsTrue told → (held ≡ old.held)
    ⊎ ((is_writing drive.work ≡ true) × (is_marked (old.held unit) block ≡ false)
    × (held ≡ with_written old.held unit block (filled 512 old.window)))

-- what is seen of a move without the packs: the book of noise, and the bytes of the window
pub record Scene : Type 0 where
  pub book : Book
  pub window : List ℕ

abbrev pub scene_at : Book → Window → Scene
scene_at book window = record { book = book; window = window_bytes window }

abbrev pub site_of : Scene → (ℕ → Pack) → Site
site_of scene held = record { book = scene.book; held = held; window = scene.window }

-- A try that the packs failed does nothing to its drive, and reads nothing.
abbrev pub drive_after : {E : Type 0} → Result Moved E → ℕ → DriveState → DriveState
drive_after (Ok verdict) block drive = after_move verdict block drive
drive_after (Err failed) block drive = drive

abbrev pub has_read : {E : Type 0} → DriveState → Result Moved E → Bool
has_read drive (Ok verdict) = was_read drive verdict
has_read drive (Err failed) = false

-- A SECTOR IS TRIED on a drive, through a window of so many bytes. A failure is the packs', whose count of failures rose: then book
-- and window are as they were.
pub record TriesSector {Q E : Type 0} (tells : Q → Bool) (held : Q → ℕ → Pack) (faults : Q → ℕ) (packs packs' : Q) (unit block : ℕ) (drive : DriveState) (size : ℕ) (old new : Scene) (result : Result Moved E) : Type 0 where
  pub moves : IfOk result (λ v. MovesSector unit block drive size (tells packs') (site_of old (held packs)) (site_of new (held packs')) v)
  -- a drive that is stopped asks the packs for nothing
  pub stopped : IsSome (stop_of drive) → IsOk result × (packs' ≡ packs)
  pub unchanged : OnErr result (new ≡ old)
  pub old_or_new : OnErr result (IsOldOrNew unit block drive (tells packs') (site_of old (held packs)) (held packs'))
  pub never_again : IsTrue (tells packs') → IsTrue (tells packs)
  pub cause : HasCause (faults packs) (faults packs') result
