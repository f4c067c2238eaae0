-- Why a test of a block stops.
use Rattle.std.specs.Prelude.{◌≡◌, ◌≢◌, ℕ, ◌<◌, Bool, List, length, slice_index, IsTrue}
use Rattle.pack_format.specs.declared.fault.FormatFault.{FormatFault}
use Rattle.pack_format.specs.declared.fault.FormatFault.TheVariants.{Differs, Store}

-- such bytes are written, to this block
abbrev pub Writes : (block : ℕ) → (Such : List ℕ → Type 0) → ℕ → List ℕ → Type 0
Writes block Such sector bytes = (sector ≡ block) × Such bytes

-- A BLOCK CAME BACK OTHERWISE than it was written, and this is its first byte that did. (The buffer into which it is read has before, at each
-- place, the complement of the first byte that was written: so a block that is found marked, of which nothing comes back, differs at place 0.)
pub record CameBack (Wrote : ℕ → List ℕ → Type 0) (block at wrote read : ℕ) : Type 0 where
  pub bytes : List ℕ
  pub written : Wrote block bytes
  pub back : List ℕ
  pub size : length back ≡ 512
  pub within : at < 512
  pub before : (k : ℕ) → k < at → slice_index back k ≡ slice_index bytes k
  pub wrote_is : wrote ≡ slice_index bytes at
  pub read_is : read ≡ slice_index back at
  pub other : read ≢ wrote

-- over packs that tell, no byte comes back otherwise than it was written
abbrev pub IsStop : Bool → (Wrote : ℕ → List ℕ → Type 0) → FormatFault → Type 0
IsStop told Wrote Store = Unit {0}
IsStop told Wrote (Differs block at wrote read) = ¬ (IsTrue told) × CameBack Wrote block at wrote read
IsStop told Wrote _ = ⊥
