-- What one poll of a sector comes to.
use Rattle.std.specs.Prelude.{◌≡◌, ◌⊎◌, ℕ, Bool, true, false, IsTrue, List}
use Rattle.pack_geometry.specs.Pack.{Pack, block_at, is_marked, with_written}
use Rattle.main_memory.specs.Blocks.{Loan, bytes_in, span_of}
use Rattle.main_memory.specs.Bytes.{filled}
use Rattle.main_memory.specs.Memory.{Memory}
use Rattle.pack_format.specs.declared.testing.station.Polled.{Polled}
use Rattle.pack_format.specs.declared.testing.station.Polled.TheVariants.{Clean, Marked}

-- what a poll may change: what the packs hold, and 512 bytes
pub record Sides : Type 0 where
  pub held : ℕ → Pack
  pub bytes : List ℕ

-- the answer for a sector that is marked, and for one that is not
abbrev pub answer_for : Bool → Polled
answer_for true = Marked
answer_for false = Clean

-- nothing moves where the sector is marked; else a write gives the pack the bytes, and a read gives the bytes of the block
abbrev pub moved : Polled → Bool → ℕ → ℕ → Sides → Sides
moved Marked write unit block sides = sides
moved Clean true unit block sides = record sides { held = with_written sides.held unit block sides.bytes }
moved Clean false unit block sides = record sides { bytes = block_at (sides.held unit).image block }

-- ONE POLL. The answer says whether the sector is marked, and all that changes is what moved. What packs hold is said where it is told;
-- bytes change in a read that was clean, and nowhere else.
pub record Polls (unit block : ℕ) (write told : Bool) (old new : Sides) (polled : Polled) : Type 0 where
  pub answer : IsTrue told → polled ≡ answer_for (is_marked (old.held unit) block)
  pub sides : IsTrue told → new ≡ moved polled write unit block old
  pub marked : polled ≡ Marked → new.bytes ≡ old.bytes
  pub written : write ≡ true → new.bytes ≡ old.bytes

-- a poll that failed: the packs hold what they held, or, in a write of a sector that is not marked, the block that was to be written
abbrev pub IsOldOrNew : ℕ → ℕ → Bool → Bool → Sides → (ℕ → Pack) → Type 0
IsOldOrNew unit block write told old held = IsTrue told → (held ≡ old.held)
    ⊎ ((write ≡ true) × (is_marked (old.held unit) block ≡ false) × (held ≡ with_written old.held unit block old.bytes))

-- what the packs hold, and the bytes of a frame, 512 of them
abbrev pub sides_of : (ℕ → Pack) → Loan → Memory → Sides
sides_of held loan memory = record { held = held; bytes = filled 512 (bytes_in (span_of loan 0) memory.bytes) }
