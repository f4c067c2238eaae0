-- THE BYTES OF A PARTITION: those of its blocks, one after another, each at its place in the partition.
use Rattle.std.specs.Prelude.{◌≡◌, ◌⊎◌, ℕ, zero, suc, ◌+◌, ◌-◌, ◌*◌, ◌/◌, ◌%◌, ◌<◌, ◌≤◌, nat_le, if◌then◌else◌, List, [], ◌∷◌, ◌++◌, drop, length, replicate, get_or, Option, None, Some, IsSome}
use Rattle.pack_geometry.specs.declared.DriveKind.{DriveKind}
use Rattle.partitions.specs.declared.Part.{Part}
use Rattle.partitions.specs.declared.Part.TheVariants.{B}
use Rattle.partitions.specs.Partitions.{size_of}
use Rattle.driver_laws.specs.rules.Machine.{Blocks, bytes_or_none}
use Rattle.driver_laws.specs.rules.Laid.{laid_at}

-- the byte at a place, of a partition that begins with the block `first`
abbrev pub byte_at : Blocks → (first place : ℕ) → ℕ
byte_at blocks first place = get_or (bytes_or_none (blocks (first + place / 512))) (place % 512) 0

-- A RANGE: so many bytes from a place on
abbrev pub range : (size : ℕ) → Blocks → (first at : ℕ) → List ℕ
range zero blocks first at = []
range (suc size) blocks first at = byte_at blocks first at ∷ range size blocks first (at + 1)

-- it reaches beyond the partition
abbrev pub IsOutside : DriveKind → Part → (at size : ℕ) → Type 0
IsOutside kind part at size = 512 * size_of kind part < at + size

-- it has a byte of block k of the partition
pub record Touches (at size k : ℕ) : Type 0 where
  pub some : 0 < size
  pub begins : 512 * k < at + size
  pub ends : at < 512 * k + 512

-- HOW FAR it can be used: its first bytes, so many, lie in blocks that can all be used; and where these are not all, they are just those
-- before a block that can't.
pub record ComesTo (blocks : Blocks) (first at size done : ℕ) : Type 0 where
  pub few : done ≤ size
  pub usable : (k : ℕ) → Touches at done k → IsSome (blocks (first + k))
  pub ends : done < size → blocks (first + (at + done) / 512) ≡ None
  pub whole : done < size → (done ≡ 0) ⊎ ((at + done) % 512 ≡ 0)

-- BLOCKS WITH BYTES REPLACED from a place on: block k of the partition has those of the bytes that fall into it, at their places, and
-- else its own; and no block in front of the partition has any.
abbrev pub block_with : (k at : ℕ) → (from bytes : List ℕ) → List ℕ
block_with k at from bytes = laid_at (at - 512 * k) (drop (512 * k - at) from) bytes

abbrev pub with_bytes : (k at : ℕ) → (from : List ℕ) → Option (List ℕ) → Option (List ℕ)
with_bytes k at from None = None
with_bytes k at from (Some bytes) = Some (block_with k at from bytes)

abbrev pub with_range : Blocks → (first at : ℕ) → (from : List ℕ) → Blocks
with_range blocks first at from block = if nat_le first block then with_bytes (block - first) at from (blocks block) else blocks block

-- A DUMP: bytes filled up with zeros to whole blocks, and the place from which on they end with the last block of partition `b`
abbrev pub blocks_for : (size : ℕ) → ℕ
blocks_for size = (size + 511) / 512

abbrev pub dumped : List ℕ → List ℕ
dumped memory = memory ++ replicate (512 * blocks_for (length memory) - length memory) 0

abbrev pub dump_place : DriveKind → (size : ℕ) → ℕ
dump_place kind size = 512 * (size_of kind B - blocks_for size)
