-- WHOLE BLOCKS of a partition, read or written by one request that is waited for.
use Rattle.std.specs.Prelude.{◌≡◌, ◌≢◌, ℕ, ◌+◌, ◌<◌, ◌≤◌, min, List, IsSome}
use Rattle.pack_geometry.specs.declared.DriveKind.{DriveKind}
use Rattle.partitions.specs.Partitions.{first_of, size_of}
use Rattle.trace_replay.specs.requests.Requests.{Request}
use Rattle.driver_laws.specs.rules.Machine.{blocks_done, bytes_of_first}
use Rattle.driver_laws.specs.rules.Laid.{laid}
use Rattle.driver_laws.specs.rules.Pieces.{Reaches}
use Rattle.blocking_io.specs.FrontsPasses.{All, AtEnd, Before, Outside, Reached, Stage, setup_at}
use Rattle.blocking_io.specs.Fronts.{OthersStay}
use Rattle.blocking_io.specs.Sites.{IsUnchanged, kind_at, left_map, map_at}

pub record AreBlocks (kind : DriveKind) (r : Request) : Type 0 where
  pub id : r.id ≡ 0
  pub some : 1 ≤ r.count
  pub few : r.count ≤ 127
  pub last : r.last ≡ 512
  pub offset : r.offset ≡ 0
  pub inside : r.block + r.count ≤ size_of kind r.part

-- how many blocks an answer says to be done
abbrev pub blocks_reached : Reached → ℕ → ℕ
blocks_reached All count = count
blocks_reached (Before done) count = min done count
blocks_reached Outside count = 0
blocks_reached AtEnd count = 0

-- where the partition of a request begins
abbrev pub origin : Stage → Request → ℕ
origin s r = first_of (kind_at s.world r.unit) r.part

-- ONE READ of them gives all, or nothing.
pub record ReadsOnce (r : Request) (n : ℕ) (into into' : List ℕ) (old new : Stage) : Type 0 where
  pub reaches : Reaches (map_at old r.unit) (origin old r + r.block) r.count n
  pub all : n ≡ r.count → into' ≡ laid (bytes_of_first r.count (map_at old r.unit) (origin old r + r.block) r) into
  pub none : n < r.count → into' ≡ into
  pub same : IsUnchanged old new

-- A WRITE of them replaces those that can be used,
pub record PutsBlocks (r : Request) (n : ℕ) (old new : Stage) : Type 0 where
  pub reaches : Reaches (map_at old r.unit) (origin old r + r.block) r.count n
  pub written : (block : ℕ) → map_at new r.unit block ≡ blocks_done (map_at old r.unit) (origin old r + r.block) r n block
  pub map : (u block : ℕ) → u ≢ r.unit → map_at new u block ≡ map_at old u block

-- and where it stopped some of the first ones.
pub record PutsFront (r : Request) (old new : Stage) : Type 0 where
  pub done : ℕ
  pub few : done ≤ r.count
  pub usable : (k : ℕ) → k < done → IsSome (map_at old r.unit (origin old r + r.block + k))
  pub written : (block : ℕ) → left_map old new r.unit block ≡ blocks_done (map_at old r.unit) (origin old r + r.block) r done block
  pub map : (u block : ℕ) → u ≢ r.unit → left_map old new u block ≡ map_at old u block
  pub others : OthersStay (setup_at old) new.held
