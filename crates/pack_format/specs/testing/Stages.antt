-- What the tests of blocks have done with a unit.
use Rattle.std.specs.Prelude.{◌≡◌, ◌≢◌, ◌⊎◌, ◌==◌, ◌&&◌, not, ℕ, ◌+◌, ◌*◌, ◌≤◌, Bool, true, false, List, length, replicate}
use Rattle.pack_geometry.specs.Pack.{Pack, block_at, is_marked}

-- this one block, where it is unmarked
abbrev pub one : Pack → ℕ → ℕ → Bool
one pack block sector = (sector == block) && not (is_marked pack sector)

-- these bytes where the sector was done, and else what it had
abbrev pub if_done : Bool → List ℕ → List ℕ → List ℕ
if_done true bytes had = bytes
if_done false bytes had = had

-- HOW LONG AN IMAGE GETS by sectors that are written: it is no shorter than it was, reaches to the end of each of them, and ends where it did or
-- where one of them does.
pub record IsAsLong (written : ℕ → Type 0) (old new : ℕ) : Type 0 where
  pub kept : old ≤ new
  pub covers : (sector : ℕ) → written sector → 512 * (sector + 1) ≤ new
  pub most : (new ≡ old) ⊎ ((sector : ℕ) × written sector × (new ≡ 512 * (sector + 1)))

-- SECTORS THAT WERE FILLED. Those of a set have these bytes, and every other sector what it had; the image is as long as they make it; marks stay,
-- and so does each other unit.
pub record Fills (unit : ℕ) (done : ℕ → Bool) (bytes : List ℕ) (old new : ℕ → Pack) : Type 0 where
  pub sectors : (sector : ℕ) → block_at (new unit).image sector ≡ if_done (done sector) bytes (block_at (old unit).image sector)
  pub long : IsAsLong (λ sector. done sector ≡ true) (length (old unit).image) (length (new unit).image)
  pub marks : (new unit).marks ≡ (old unit).marks
  pub others : (other : ℕ) → other ≢ unit → new other ≡ old other

-- ONE BLOCK WHERE ITS TEST STOPPED. Every sector has what it had, or is of the set and has such bytes.
pub record Stops (unit : ℕ) (done : ℕ → Bool) (Such : List ℕ → Type 0) (old new : ℕ → Pack) : Type 0 where
  pub sectors : (sector : ℕ) → (block_at (new unit).image sector ≡ block_at (old unit).image sector)
      ⊎ ((done sector ≡ true) × Such (block_at (new unit).image sector))
  pub long : (length (new unit).image ≡ length (old unit).image) ⊎ IsAsLong (λ sector. done sector ≡ true) (length (old unit).image) (length (new unit).image)
  pub marks : (new unit).marks ≡ (old unit).marks
  pub others : (other : ℕ) → other ≢ unit → new other ≡ old other

-- what a test leaves in a block, wherever it stops: 512 bytes A5, or 512 zeros
abbrev pub IsTested : List ℕ → Type 0
IsTested bytes = (bytes ≡ replicate 512 165) ⊎ (bytes ≡ replicate 512 0)
