-- What is asked of the subsystem, and how it is answered.
use Rattle.std.specs.Prelude.{◌≡◌, ℕ, ◌<◌, ◌≤◌, ◌+◌, ◌-◌, ◌*◌, List, length, Option, Some}
use Rattle.partitions.specs.Passes.{DriveKind}
use Rattle.partitions.specs.declared.Part.{Part}
use Rattle.partitions.specs.Partitions.{first_of}

-- A request: its unit, its partition and its first block in that, how many blocks, how many bytes of the last one, its offset
-- in its first frame, and the bytes of a write.
pub record Request : Type 0 where
  pub id : ℕ
  pub unit : ℕ
  pub part : Part
  pub block : ℕ
  pub count : ℕ
  pub last : ℕ
  pub offset : ℕ
  pub written : Option (List ℕ)

-- WHAT A REQUEST IS: 1 to 127 blocks, 1 to 512 bytes of the last one, an offset inside a frame; and of a write just its bytes.
pub record IsRequest (r : Request) : Type 0 where
  pub some : 1 ≤ r.count
  pub few : r.count ≤ 127
  pub ends : 1 ≤ r.last
  pub in_block : r.last ≤ 512
  pub in_frame : r.offset < 512
  pub exact : (bytes : List ℕ) → r.written ≡ Some bytes → length bytes ≡ 512 * (r.count - 1) + r.last

-- its first block on the pack, where it lies inside its partition
abbrev pub first_block : DriveKind → Request → ℕ
first_block kind r = first_of kind r.part + r.block

-- what stopped a request that was begun
pub data Cause : Type 0 where
  Offline : Cause
  Locked : Cause
  Unforwarded : Cause
  Fault : Cause

-- How a request is answered: a read with its bytes, a write, three refusals at once, or an error with the number of its
-- first blocks that were done.
pub data Answer : Type 0 where
  ReadOk : (bytes : List ℕ) → Answer
  WriteOk : Answer
  OutsidePartition : Answer
  EndOfPartition : Answer
  NoFrames : Answer
  Failed : (cause : Cause) (done : ℕ) → Answer

-- Why a request is refused as it is submitted: it begins at the very end of its partition, or reaches beyond it, or its frames
-- are not there.
pub data Rejection : Type 0 where
  AtEnd : Rejection
  Beyond : Rejection
  FramesShort : Rejection

-- how that is answered
abbrev pub rejection_answer : Rejection → Answer
rejection_answer AtEnd = EndOfPartition
rejection_answer Beyond = OutsidePartition
rejection_answer FramesShort = NoFrames
