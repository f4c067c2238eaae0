-- HOW MANY WHOLE BLOCKS CAN BE USED, and the piece of a range that lies in these blocks.
use Rattle.std.specs.Prelude.{◌≡◌, ◌⊎◌, ℕ, ◌+◌, ◌-◌, ◌*◌, ◌%◌, ◌<◌, ◌==◌, min, if◌then◌else◌, None, IsSome}
use Rattle.driver_laws.specs.rules.Machine.{Blocks}

-- all of so many blocks, or just those before the first that can't be used
pub record Reaches (blocks : Blocks) (first count n : ℕ) : Type 0 where
  pub usable : (k : ℕ) → k < n → IsSome (blocks (first + k))
  pub ends : n < count → blocks (first + n) ≡ None

-- the bytes of a piece that lie in its first blocks, of which the first one has `skip` bytes in front of it
abbrev pub bytes_among : (blocks skip size : ℕ) → ℕ
bytes_among blocks skip size = if blocks == 0 then 0 else min (512 * blocks - skip) size

-- so many bytes of a range end with a block, or are all, or none
abbrev pub EndsBlock : (at size done : ℕ) → Type 0
EndsBlock at size done = (done ≡ 0) ⊎ ((done ≡ size) ⊎ ((at + done) % 512 ≡ 0))
