-- THE DRIVER'S BYTES. For which map the driver and its packs stand: what the homes, the buffers and the tables hold between any two
-- acts, whatever led to them.
use Rattle.std.specs.Prelude.{◌≡◌, ℕ, ◌+◌, ◌-◌, ◌<◌, ◌==◌, ◌&&◌, nat_le, nat_lt, true, false, if◌then◌else◌, List, [], ◌∷◌, take, All, Option, None, Some, IsSome}
use Rattle.pack_geometry.specs.declared.DriveKind.{DriveKind}
use Rattle.pack_geometry.specs.Geometry.{place_at, replacement_at}
use Rattle.pack_geometry.specs.Pack.{Pack, is_marked}
use Rattle.pack_geometry.specs.TableSpelling.{Table}
use Rattle.pack_geometry.specs.PackTable.{IsTableOf}
use Rattle.pack_geometry.specs.Homes.{home_of, content_of, index_in}
use Rattle.hardware_table.specs.declared.Moved.{Moved}
use Rattle.hardware_table.specs.declared.Moved.TheVariants.{Clean, Burst, Marked}
use Rattle.hardware_table.specs.Adapter.{AdapterState}
use Rattle.hardware_table.specs.Noise.{LiveNoise}
use Rattle.driver_machine.specs.Repaired.{repaired}
use Rattle.main_memory.specs.Blocks.{size_at}
use Rattle.main_memory.specs.Bytes.{filled}
use Rattle.transfer_engine.specs.State.{TransferState}
use Rattle.trace_replay.specs.declared.requests.answers.AnswerKind.{AnswerKind}
use Rattle.trace_replay.specs.declared.requests.answers.AnswerKind.TheVariants.{ReadOk, Eof, Error}
use Rattle.trace_replay.specs.declared.requests.answers.Cause.TheVariants.{Unforwarded}
use Rattle.driver_laws.specs.rules.Machine.{Blocks, bytes_or_none}
use Rattle.driver_laws.specs.rules.Stands.{is_sure_among, IsLive}
use Rattle.driver_machine.specs.declared.Made.{Made}
use Rattle.driver_machine.specs.declared.Task.{Task}
use Rattle.driver_machine.specs.declared.Task.TheVariants.{Clear, Judge, GiveUp}
use Rattle.driver_machine.specs.declared.Phase.{Phase}
use Rattle.driver_machine.specs.declared.Phase.TheVariants.{Waiting, Transferring, Due}
use Rattle.driver_machine.specs.World.{World, UnitView, Held, adapter_of, unit_at, adapter_at, held_in, slot_in_hand, transfer_of, block_in}
use Rattle.driver_machine.specs.Guards.{IsSetUp}

-- THE MAP OF A UNIT once the first blocks of a request are done: a write replaces them, its last one filled up with zeros.
abbrev pub map_done : Blocks → Held → (done : ℕ) → Blocks
map_done blocks h done block =
    if h.write && (nat_le h.first block && nat_lt block (h.first + done)) then Some (filled 512 (block_in h (block - h.first))) else blocks block

-- what a read asks of a block of the map for block k of its buffer
abbrev pub asked_of : Held → (k : ℕ) → Option (List ℕ) → List ℕ
asked_of h k block = take (size_at h.loan k) (bytes_or_none block)

-- a request is sure where the homes of all its blocks are
abbrev pub IsSureFor : (sure : ℕ → Type 0) → DriveKind → Option Table → Pack → Held → Type 0
IsSureFor sure kind table pack h = (k sector : ℕ) → k < h.loan.count → home_of kind table pack (h.first + k) ≡ Some sector → sure sector

-- HOW MANY BLOCKS of the request in hand are done, with the sectors that moved clean in the segment that runs
abbrev pub done_at : Task → TransferState → ℕ
done_at (Clear moved last) t = t.done + moved
done_at (Judge moved last) t = t.done + moved
done_at (GiveUp done) t = done
done_at task t = t.done

abbrev pub done_in : Phase → TransferState → AdapterState → ℕ
done_in Waiting t a = 0
done_in Transferring t a = t.done + a.moved
done_in (Due task) t a = done_at task t
done_in phase t a = t.done

-- and the verdict that ended the segment, while it is not judged
abbrev pub last_at : Task → Moved
last_at (Clear moved last) = last
last_at (Judge moved last) = last
last_at task = Clean

abbrev pub last_in : Phase → AdapterState → Moved
last_in Transferring a = if a.completion then a.verdict else Clean
last_in (Due task) a = last_at task
last_in phase a = Clean

-- MARKED AND LISTED: the block whose replacement is that of an entry
pub record IsForwarded (kind : DriveKind) (table : Option Table) (pack : Pack) (block index : ℕ) : Type 0 where
  pub marked : is_marked pack block ≡ true
  pub listed : index_in table (place_at kind block) ≡ Some index

-- the sector that carries a block: its own, or the replacement of an entry
abbrev pub sector_for : DriveKind → (index : Option ℕ) → (block : ℕ) → ℕ
sector_for kind None block = block
sector_for kind (Some i) block = replacement_at kind i

-- WHERE A SEGMENT STOPPED. Behind a burst the buffer has the map's block with that burst in it; a marked sector is marked.
abbrev pub IsStopped : (sure : Type 0) → Pack → (sector : ℕ) → Held → (k : ℕ) → Option (List ℕ) → Moved → Type 0
IsStopped sure pack sector h k block (Burst at pattern) = IsSome block × (sure → repaired at pattern (block_in h k) ≡ asked_of h k block)
IsStopped sure pack sector h k block Marked = is_marked pack sector ≡ true
IsStopped sure pack sector h k block last = Unit {0}

-- THE REQUEST IN HAND, of which so many blocks are done. The homes hold the map with the blocks that a write has done; these have
-- homes; and the buffer of a read has the map's blocks. A segment at a replacement is that of a block which is marked and listed.
pub record HandBears (sure : ℕ → Type 0) (kind : DriveKind) (table : Option Table) (pack : Pack) (blocks : Blocks) (h : Held)
    (t : TransferState) (done : ℕ) (last : Moved) : Type 0 where
  pub homes : (block : ℕ) → content_of kind table pack block ≡ map_done blocks h done block
  pub usable : (k : ℕ) → k < done → IsSome (blocks (h.first + k))
  pub read : h.write ≡ false → IsSureFor sure kind table pack h → (k : ℕ) → k < done → block_in h k ≡ asked_of h k (blocks (h.first + k))
  pub forwarded : (i : ℕ) → t.index ≡ Some i → IsForwarded kind table pack (h.first + t.done) i
  pub stopped : IsStopped (IsSureFor sure kind table pack h) pack (sector_for kind t.index (h.first + done)) h done (blocks (h.first + done)) last

-- A UNIT: its table is that of its pack, and so stands the request that it has in hand.
pub record UnitBears (sure : ℕ → Type 0) (pack : Pack) (blocks : Blocks) (v : UnitView) (a : AdapterState) (h : Held) : Type 0 where
  pub table : IsTableOf v.drive.kind pack v.table
  pub hand : HandBears sure v.drive.kind v.table pack blocks h (transfer_of v) (done_in v.phase (transfer_of v) a) (last_in v.phase a)

-- AN ANSWER to the request in a slot, as the map before it has it: so many of its first blocks are done, and have homes; a read that is
-- ok has the map's blocks; and where it could not be forwarded the next block has no home.
abbrev pub done_by : AnswerKind → Held → ℕ
done_by (Error why done) h = done
done_by Eof h = 0
done_by kind h = h.loan.count

abbrev pub IsSaid : (sure : Type 0) → Blocks → Held → AnswerKind → Type 0
IsSaid sure blocks h (ReadOk count last) = sure → (k : ℕ) → k < count → block_in h k ≡ asked_of h k (blocks (h.first + k))
IsSaid sure blocks h (Error Unforwarded done) = blocks (h.first + done) ≡ None
IsSaid sure blocks h kind = Unit {0}

pub record IsStep (sure : Type 0) (blocks : Blocks) (h : Held) (kind : AnswerKind) : Type 0 where
  pub usable : (k : ℕ) → k < done_by kind h → IsSome (blocks (h.first + k))
  pub said : IsSaid sure blocks h kind

-- a refusal says nothing, and changes nothing
abbrev pub StepsFrom : (armed : List LiveNoise) → World → (held : ℕ → Pack) → (ℕ → Blocks) → (slot : Option ℕ) → AnswerKind → Type 0
StepsFrom armed w held maps None kind = Unit {0}
StepsFrom armed w held maps (Some p) kind =
    IsStep (IsSureFor (is_sure_among armed (held_in w p).unit) (unit_at w (held_in w p).unit).drive.kind (unit_at w (held_in w p).unit).table
    (held (held_in w p).unit) (held_in w p)) (maps (held_in w p).unit) (held_in w p) kind

abbrev pub maps_with : (ℕ → Blocks) → Held → (done : ℕ) → ℕ → Blocks
maps_with maps h done unit = if unit == h.unit then map_done (maps unit) h done else maps unit

abbrev pub maps_behind : World → (ℕ → Blocks) → (slot : Option ℕ) → AnswerKind → ℕ → Blocks
maps_behind w maps None kind = maps
maps_behind w maps (Some p) kind = maps_with maps (held_in w p) (done_by kind (held_in w p))

-- THE ANSWERS THAT WAIT are steps, one behind another, from a first map to the present one.
abbrev pub AreSteps : (armed : List LiveNoise) → World → (held : ℕ → Pack) → List Made → (first now : ℕ → Blocks) → Type 0
AreSteps armed w held [] first now = now ≡ first
AreSteps armed w held (made ∷ rest) first now =
    StepsFrom armed w held first made.slot made.answer.kind × AreSteps armed w held rest (maps_behind w first made.slot made.answer.kind) now

-- THE DRIVER WITH ITS PACKS STANDS FOR A MAP, which is that before the answers that wait. What reads give is claimed at sectors
-- where no alias is among the noise that was armed.
pub record Bears (armed : List LiveNoise) (w : World) (held : ℕ → Pack) (first : ℕ → Blocks) : Type 0 where
  pub now : ℕ → Blocks
  pub answers : AreSteps armed w held w.answers first now
  pub units : (u : ℕ) → IsSetUp w u
      → UnitBears (is_sure_among armed u) (held u) (now u) (unit_at w u) (adapter_at w (adapter_of u)).state (held_in w (slot_in_hand (unit_at w u)))
  pub noise : All (IsLive armed) w.book.live
