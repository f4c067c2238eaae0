-- THE BLOCK MACHINE: how requests may be answered, and what an answer leaves. No cylinder, register, queue, code or replacement
-- occurs here, and a request changes all its blocks at its answer.
use Rattle.std.specs.Prelude.{◌≡◌, ℕ, ◌<◌, ◌+◌, ◌-◌, ◌*◌, ◌==◌, ◌&&◌, nat_le, nat_lt, if◌then◌else◌, zero, suc, List, [], ◌∷◌, ◌++◌, take, length, Option, None, Some, is_some, unwrap_or, IsSome, true}
use Rattle.pack_geometry.specs.declared.DriveKind.{DriveKind}
use Rattle.pack_geometry.specs.declared.DriveKind.TheVariants.{Rp06}
use Rattle.partitions.specs.Partitions.{admission}
use Rattle.trace_replay.specs.requests.Requests.{Request, first_block, Cause, Unforwarded, Answer, ReadOk, WriteOk, OutsidePartition, EndOfPartition, NoFrames, Failed, rejection_answer}
use Rattle.trace_replay.specs.Script.{Input, Submit}
use Rattle.trace_replay.specs.Moments.{Answered}
use Rattle.trace_replay.specs.Service.{frames_needed}
use Rattle.trace_replay.specs.Packs.{size_of_block, sector_of_block}
use Rattle.trace_replay.specs.Replay.{Submission, Refused, Joined, submission_by}

-- what each block of a unit holds: 512 bytes, or none where it is unusable
abbrev pub Blocks : Type 0
Blocks = ℕ → Option (List ℕ)

-- THE MACHINE. What each block of each unit holds, and the requests that are outstanding.
pub record Machine : Type 0 where
  pub blocks : ℕ → Blocks
  pub outstanding : List Request

-- nothing is outstanding
abbrev pub idle : (ℕ → Blocks) → Machine
idle blocks = record { blocks = blocks; outstanding = [] }

-- the request that has an id, if one has
abbrev pub request_of : ℕ → List Request → Option Request
request_of id [] = None
request_of id (r ∷ rs) = if r.id == id then Some r else request_of id rs

-- the requests without the one that has an id
abbrev pub without : ℕ → List Request → List Request
without id [] = []
without id (r ∷ rs) = if r.id == id then rs else r ∷ without id rs

-- the frames that requests need together
abbrev pub frames_of : List Request → ℕ
frames_of [] = 0
frames_of (r ∷ rs) = frames_needed r + frames_of rs

-- the kind of a unit's drive (nothing is asked of a unit without one)
abbrev pub kind_of : (ℕ → Option DriveKind) → ℕ → DriveKind
kind_of drives unit = unwrap_or (drives unit) Rp06

-- SUBMISSION. A request is refused by its partition, or where its frames and those of the outstanding requests are more than
-- 16,384; or it joins.
abbrev pub meets : (ℕ → Option DriveKind) → Machine → Request → Submission
meets drives m r = submission_by (admission (kind_of drives r.unit) r.part r.block r.count) (nat_le (frames_of m.outstanding + frames_needed r) 16384)

-- the machine after it: a refusal changes nothing
abbrev pub submitted : Machine → Request → Submission → Machine
submitted m r (Refused why) = m
submitted m r Joined = record m { outstanding = r ∷ m.outstanding }

-- a refusal is answered at once
abbrev pub answers_at_once : ℕ → Request → Submission → List Answered
answers_at_once line r (Refused why) = record { line = line; id = r.id; answer = rejection_answer why } ∷ []
answers_at_once line r Joined = []

-- the machine after any input: only a request is submitted
abbrev pub after_input : (ℕ → Option DriveKind) → Machine → Input → Machine
after_input drives m (Submit r) = submitted m r (meets drives m r)
after_input drives m input = m

-- and what is answered at once
abbrev pub answers_of_input : (ℕ → Option DriveKind) → Machine → ℕ → Input → List Answered
answers_of_input drives m line (Submit r) = answers_at_once line r (meets drives m r)
answers_of_input drives m line input = []

-- ANSWERS. The first n blocks of a request can be used.
abbrev pub AreUsable : Blocks → (first n : ℕ) → Type 0
AreUsable blocks first n = (k : ℕ) → k < n → IsSome (blocks (first + k))

-- the bytes of a block, and none where it is unusable
abbrev pub bytes_or_none : Option (List ℕ) → List ℕ
bytes_or_none None = []
bytes_or_none (Some bytes) = bytes

-- the bytes of the first n blocks of a request: of each as many as the request asks for, which is less than the whole block at
-- most for its last one
abbrev pub bytes_of_first : ℕ → Blocks → (first : ℕ) → Request → List ℕ
bytes_of_first zero blocks first r = []
bytes_of_first (suc n) blocks first r = bytes_of_first n blocks first r ++ take (size_of_block r n) (bytes_or_none (blocks (first + n)))

-- the blocks of a unit after the first n blocks of a request were done: a write replaces them, its last one filled up with
-- zeros, and a read changes none
abbrev pub blocks_done : Blocks → (first : ℕ) → Request → (n : ℕ) → Blocks
blocks_done blocks first r n block =
    if is_some r.written && (nat_le first block && nat_lt block (first + n)) then Some (sector_of_block r (block - first)) else blocks block

-- how many blocks of a request an answer says to be done
abbrev pub done_in : Answer → Request → ℕ
done_in (Failed cause done) r = done
done_in answer r = r.count

-- a cause says something of the first block not done only where it could not be forwarded
abbrev pub IsCause : Cause → Option (List ℕ) → Type 0
IsCause Unforwarded block = block ≡ None
IsCause cause block = Unit {0}

-- An outstanding request may be answered: a read with as many bytes as it asks for, which are those of its blocks (where that is
-- claimed); a write; or with an error and so many blocks done.
abbrev pub MayAnswer : (claimed : Type 0) → Blocks → (first : ℕ) → Request → Answer → Type 0
MayAnswer claimed blocks first r (ReadOk bytes) =
    (r.written ≡ None) × AreUsable blocks first r.count × (length bytes ≡ 512 * (r.count - 1) + r.last)
    × (claimed → bytes ≡ bytes_of_first r.count blocks first r)
MayAnswer claimed blocks first r WriteOk = (is_some r.written ≡ true) × AreUsable blocks first r.count
MayAnswer claimed blocks first r (Failed cause done) = (done < r.count) × AreUsable blocks first done × IsCause cause (blocks (first + done))
MayAnswer claimed blocks first r OutsidePartition = ⊥
MayAnswer claimed blocks first r EndOfPartition = ⊥
MayAnswer claimed blocks first r NoFrames = ⊥

-- the blocks of all units after an answer
abbrev pub blocks_after : (ℕ → Blocks) → (first : ℕ) → Request → Answer → ℕ → Blocks
blocks_after blocks first r answer unit = if unit == r.unit then blocks_done (blocks unit) first r (done_in answer r) else blocks unit

-- the machine after it: the request is no longer outstanding
abbrev pub after_answer : Machine → (first : ℕ) → Request → Answer → Machine
after_answer m first r answer = record { blocks = blocks_after m.blocks first r answer; outstanding = without r.id m.outstanding }

-- One answer is a step of the outstanding request that has its id. (`claims` says whether the bytes of a read that is answered
-- at a line are claimed.)
pub record Step (drives : ℕ → Option DriveKind) (claims : (line : ℕ) → Request → Type 0) (old : Machine) (a : Answered) (new : Machine) : Type 0 where
  pub request : Request
  pub found : request_of a.id old.outstanding ≡ Some request
  pub may : MayAnswer (claims a.line request) (old.blocks request.unit) (first_block (kind_of drives request.unit) request) request a.answer
  pub is : new ≡ after_answer old (first_block (kind_of drives request.unit) request) request a.answer

-- answers one after another, all with the number of one line
abbrev pub Steps : (ℕ → Option DriveKind) → ((line : ℕ) → Request → Type 0) → (line : ℕ) → Machine → List Answered → Machine → Type 0
Steps drives claims line old [] new = new ≡ old
Steps drives claims line old (a ∷ answers) new = (a.line ≡ line) × (mid : Machine) × Step drives claims old a mid
    × Steps drives claims line mid answers new
