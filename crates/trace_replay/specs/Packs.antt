-- THE RULE OF PACKS AND NOISE. The verdict of a tried sector is that of the hardware table, by the drive, the mark of the pack and
-- the live noise. The bytes of reads and of the packs follow from the verdict.
use Rattle.std.specs.Prelude.{ℕ, ◌+◌, ◌*◌, ◌/◌, ◌%◌, ◌^◌, ◌==◌, ◌&&◌, Bool, true, false, if◌then◌else◌, List, [], ◌∷◌, ◌++◌, take, drop, replicate, Option, None, Some, bit_xor}
use Rattle.pack_geometry.specs.Pack as model
use Rattle.fire_code.specs.Repair.{burst_byte}
use Rattle.hardware_table.specs.declared.Moved.{Moved}
use Rattle.hardware_table.specs.Drive.{DriveState}
use Rattle.hardware_table.specs.Moves.{IsVerdict, was_read, was_written}
use Rattle.hardware_table.specs.Noise.{LiveNoise, with_noise, strikes, after_strike}
use Rattle.trace_replay.specs.requests.Requests.{Request}
use Rattle.trace_replay.specs.Script.{Input, Noise}
use Rattle.trace_replay.specs.Moments.{Deed, Sector}

-- The sectors of all units, which of them are marked, and the noise that is live. A sector is 512 bytes.
pub record Surface : Type 0 where
  pub sector : (unit block : ℕ) → List ℕ
  pub is_marked : (unit block : ℕ) → Bool
  pub live : List LiveNoise

-- the surface of packs, with no noise
abbrev pub surface_of : (ℕ → model.Pack) → Surface
surface_of packs = record {
  sector = λ unit block. model.block_at (packs unit).image block;
  is_marked = λ unit block. model.is_marked (packs unit) block;
  live = [];
}

-- the sector of one block of one unit is replaced
abbrev pub this_sector_or : Bool → List ℕ → (ℕ → ℕ → List ℕ) → ℕ → ℕ → List ℕ
this_sector_or true bytes sectors unit block = bytes
this_sector_or false bytes sectors unit block = sectors unit block

-- the surface with one sector replaced
abbrev pub with_sector : Surface → ℕ → ℕ → List ℕ → Surface
with_sector s unit block bytes = record s {
  sector = λ u b. this_sector_or ((u == unit) && (b == block)) bytes s.sector u b;
}

-- THE BYTES. A flipped place k below 4096 is bit k % 8 of byte k / 8; the others are those of the check.
abbrev pub flipped_in : ℕ → List ℕ → ℕ
flipped_in i [] = 0
flipped_in i (k ∷ places) = bit_xor (if k / 8 == i then 2 ^ (k % 8) else 0) (flipped_in i places)

-- the bytes from number i on with these places flipped
abbrev pub flipped_from : ℕ → List ℕ → List ℕ → List ℕ
flipped_from i places [] = []
flipped_from i places (b ∷ bytes) = bit_xor b (flipped_in i places) ∷ flipped_from (i + 1) places bytes

-- what a read gives of a sector
abbrev pub read_as : Option (List ℕ) → List ℕ → List ℕ
read_as None bytes = bytes
read_as (Some places) bytes = flipped_from 0 places bytes

-- the bytes with a burst repaired in them
abbrev pub repaired_from : ℕ → ℕ → ℕ → List ℕ → List ℕ
repaired_from i at pattern [] = []
repaired_from i at pattern (b ∷ bytes) = bit_xor b (burst_byte at pattern i) ∷ repaired_from (i + 1) at pattern bytes

-- how many bytes of block k a request has
abbrev pub size_of_block : Request → ℕ → ℕ
size_of_block r k = if k + 1 == r.count then r.last else 512

-- the bytes of a write; a read has none
abbrev pub bytes_of_write : Option (List ℕ) → List ℕ
bytes_of_write None = []
bytes_of_write (Some bytes) = bytes

-- the 512 bytes that a write gives the sector of its block k: those that the block has, and zeros behind them
abbrev pub sector_of_block : Request → ℕ → List ℕ
sector_of_block r k = take 512 (take (size_of_block r k) (drop (512 * k) (bytes_of_write r.written)) ++ replicate 512 0)

-- A SECTOR IS TRIED. The places that noise flips in a read of it
abbrev pub flips_at : Surface → ℕ → DriveState → ℕ → Option (List ℕ)
flips_at s unit d block = strikes unit block d.offset s.live

-- the verdict is the hardware table's
abbrev pub VerdictMay : Surface → ℕ → DriveState → Deed → Type 0
VerdictMay s unit d (Sector block verdict) = IsVerdict d (s.is_marked unit block) (flips_at s unit d block) verdict
VerdictMay s unit d deed = Unit {0}

-- the bytes of block k of the request that a try of the sector gives, where it was read
abbrev pub bytes_read : Bool → Surface → ℕ → DriveState → ℕ → Request → ℕ → List ℕ
bytes_read true s unit d block r k = take (size_of_block r k) (read_as (flips_at s unit d block) (s.sector unit block))
bytes_read false s unit d block r k = []

-- The surface after block k of a request was tried at a sector: a write replaces it, and a read uses the noise that it met.
abbrev pub surface_written : Bool → Surface → ℕ → ℕ → Request → ℕ → Surface
surface_written true s unit block r k = with_sector s unit block (sector_of_block r k)
surface_written false s unit block r k = s

-- a read uses the noise that it meets
abbrev pub surface_read : Bool → Surface → ℕ → DriveState → ℕ → Surface
surface_read true s unit d block = record s { live = after_strike unit block d.offset s.live }
surface_read false s unit d block = s

-- what a try does, whichever of the two it was
abbrev pub surface_tried : Surface → ℕ → DriveState → ℕ → Moved → Request → ℕ → Surface
surface_tried s unit d block verdict r k =
    surface_written (was_written d verdict) (surface_read (was_read d verdict) s unit d block) unit block r k

-- a line of the script that arms noise
abbrev pub surface_played : Surface → Input → Surface
surface_played s (Noise noise) = record s { live = with_noise noise s.live }
surface_played s input = s
