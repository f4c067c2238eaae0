-- Wrong outcomes of requests that are waited for, and of raw transfers.
use Rattle.std.specs.Prelude.{◌≡◌, ◌≢◌, ◌↔◌, ℕ, ◌+◌, ◌-◌, ◌*◌, ◌<◌, ◌≤◌, Bool, true, false, IsTrue, List, [], ◌∷◌, ◌++◌, length, Option, Result, Err, Some}
use Rattle.outside_traits.specs.declared.traits.PackCall.TheVariants.{Block}
use Rattle.pack_geometry.specs.declared.DriveKind.{DriveKind}
use Rattle.pack_geometry.specs.Geometry.{block_count, sectors_of}
use Rattle.partitions.specs.declared.Part.{Part}
use Rattle.partitions.specs.declared.Part.TheVariants.{B}
use Rattle.partitions.specs.Partitions.{size_of}
use Rattle.trace_replay.specs.requests.Requests.{Request, ReadOk}
use Rattle.trace_replay.specs.Script.{Input}
use Rattle.driver_machine.specs.Guards.{IsSetUp}
use Rattle.driver_machine.specs.World.{Held, slot_at, unit_at}
use Rattle.driver_laws.specs.rules.Rest.{HasTables}
use Rattle.driver_laws.specs.rules.Waited.{answer_in}
use Rattle.driver_laws.specs.rules.Bytes.{IsOutside, dumped, dump_place}
use Rattle.raw_io.specs.declared.fault.RawFault.{RawFault}
use Rattle.raw_io.specs.declared.fault.RawFault.TheVariants.{Outside}
use Rattle.raw_io.specs.Passes.{Answers, IsReady, MoveFails, Stage, State, kind_at, map_at, moments_in, setup_at}
use Rattle.raw_io.specs.Pieces.{GivesRange, PutsRange, start_of}
use Rattle.raw_io.specs.Transfers.{AreBegun}
use Rattle.driver_laws.specs.rules.Sessions.{Part as SessionPart, IsSession, told_in}
use Rattle.trace_replay.specs.Text.{trace_text}
use Rattle.pack_geometry.specs.TableSpelling.{Table}
use Rattle.pack_geometry.specs.Pack.{Pack}
use Rattle.driver_laws.specs.shown.Lengths.{length_behind}
use Rattle.driver_laws.specs.declared.answers.outcome.Stop.TheVariants as stopped
use Rattle.raw_command.specs.Transfers.{LeavesAll}
use Rattle.command_parts.specs.Outside.{Outside as Between}
use Rattle.command_parts.specs.declared.words.Target.{Target}
use Rattle.command_parts.specs.declared.words.Writing.{Writing}
use Rattle.hpsim_run.specs.Passes.{Gives, ReadStops, Sink, Store, Transferred, WriteStops, start_at, target_for}

-- A DRAIN ENDS EARLY: a request has not ended behind it.
abbrev pub DrainEndsEarly : Type 0
DrainEndsEarly = (s : State) (slot : ℕ) (h : Held) → slot_at s.world slot ≡ Some h → h.ended ≡ false → ¬ IsReady s

-- A READ COMES FROM THE PACK: its first byte is not that of its first block, as of one whose home is another sector.
abbrev pub ReadComesFromThePack : Type 0
ReadComesFromThePack = (line first old_first other : ℕ) (r : Request) (bytes into into' : List ℕ) (old new : Stage) → Answers line r old new → IsTrue new.packs_tell → HasTables (setup_at old)
    → answer_in (setup_at old) r ≡ ReadOk (first ∷ bytes) → old.given.bytes ≡ old_first ∷ into → new.given.bytes ≡ other ∷ into' → ¬ (other ≢ first)

-- A DRIVE IS OFFLINE of a driver that is ready for a request.
abbrev pub DriveIsOffline : Type 0
DriveIsOffline = (s : State) (unit : ℕ) → IsSetUp s.world unit → (unit_at s.world unit).drive.online ≡ false → ¬ IsReady s

-- A WRITE BEFORE ITS LINES: the packs failed at a block that was to be written, and of the lines before it the trace has only some.
abbrev pub WriteBeforeItsLines : Type 0
WriteBeforeItsLines = (input : Input) (byte : ℕ) (sent kept : List ℕ) (told now : Stage) → IsTrue now.trace_tells
    → told.taken ≡ sent ++ byte ∷ kept → now.taken ≡ sent → ¬ MoveFails input told now

-- DONE IN BLOCKS: a read stopped at a block that can't be used, and the number of blocks before that is told as the number of bytes.
abbrev pub DoneInBlocks : Type 0
DoneInBlocks = (unit blocks : ℕ) (part : Part) (into into' : List ℕ) (old new : Stage) → IsTrue new.packs_tell → HasTables (setup_at old)
    → 0 < blocks → blocks < 512 → blocks < length into → ¬ GivesRange unit part 0 blocks into into' old new

-- A DUMP AT THE FRONT: the first block of partition `b` holds other bytes than before.
abbrev pub DumpAtTheFront : Type 0
DumpAtTheFront = (unit done : ℕ) (memory bytes : List ℕ) (old new : Stage) → IsTrue new.packs_tell → HasTables (setup_at old) → length memory ≤ 8388608
    → PutsRange unit B (dump_place (kind_at old.world unit) (length memory)) done (dumped memory) old new
    → map_at old unit (start_of old unit B) ≡ Some bytes → length bytes ≡ 512 → ¬ (map_at new unit (start_of old unit B) ≢ Some bytes)

-- OUTSIDE BY ONE: a range is refused that ends with the last byte of its partition.
abbrev pub OutsideByOne : Type 0
OutsideByOne = (kind : DriveKind) (part : Part) (at size : ℕ) (result : Result (Unit {0}) RawFault) → at + size ≡ 512 * size_of kind part
    → (result ≡ Err Outside) ↔ IsOutside kind part at size → ¬ (result ≡ Err Outside)

-- AN EDGE WITHOUT ITS BYTES: bytes were written behind the first one of a block, and the first one is another.
abbrev pub EdgeWithoutItsBytes : Type 0
EdgeWithoutItsBytes = (unit done first other : ℕ) (part : Part) (from bytes bytes' : List ℕ) (old new : Stage) → IsTrue new.packs_tell → HasTables (setup_at old)
    → map_at old unit (start_of old unit part) ≡ Some (first ∷ bytes) → map_at new unit (start_of old unit part) ≡ Some (other ∷ bytes')
    → PutsRange unit part 1 done from old new → ¬ (other ≢ first)

-- ANY TRACE AT A STOPPED TRANSFER: the packs failed, and the trace took something, which is not the text of a legal session of requests to the partition,
-- from the start over the packs.
abbrev pub IsNoSession : (reads : Bool) → Target → (old new : Between) → Type 0
IsNoSession reads t old new = (table : Option Table) (parts : List SessionPart) → AreBegun reads t.unit t.part parts → IsSession (start_at t table old.held) parts
    → new.taken ≢ old.taken ++ trace_text (told_in parts)

abbrev pub AnyTraceAtAStoppedTransfer : Type 0
AnyTraceAtAStoppedTransfer = (t : Target) (w : Writing) (size : ℕ) (old new : Between) → IsTrue new.packs_tell → IsTrue new.trace_tells → new.taken ≢ old.taken
    → (IsNoSession true t old new → ¬ ReadStops Store t size old new)
    × ((stops : WriteStops Store w old new) → ¬ IsNoSession false (target_for w stops.from) old new)

-- LINES DROPPED AT A READ: the packs failed at a block of the unit that lies before the table's track. Whatever was read until then has a line,
-- and the trace took nothing.
abbrev pub LinesDroppedAtARead : Type 0
LinesDroppedAtARead = (t : Target) (size block : ℕ) (old new : Between) → IsTrue new.packs_tell → IsTrue new.trace_tells → new.taken ≡ old.taken
    → block < block_count t.kind - sectors_of t.kind → new.failed_at ≡ Block t.unit block
    → ((left : LeavesAll t stopped.Store old.held new.held new.trace_tells old.taken new.taken) → trace_text (told_in left.broke.parts) ≢ []) → ¬ ReadStops Store t size old new

-- A RAW TRANSFER LENGTHENS THE IMAGE, or shortens it: it is not as long as the blocks that its lines wrote make it, be it where the trace failed;
-- or a read blows an empty image up, be it where it stopped.
abbrev pub TransferLengthensTheImage : Type 0
TransferLengthensTheImage = (reads : Bool) (t : Target) (held held' : ℕ → Pack) (trace_tells : Bool) (taken taken' : List ℕ)
    → (moved : Transferred reads t held held' trace_tells taken taken') → (unit : ℕ)
    → ¬ (length (held' unit).image ≢ length_behind (start_at t moved.table held) (moments_in moved.parts) unit (length (held unit).image))

abbrev pub StoppedWriteLengthensTheImage : Type 0
StoppedWriteLengthensTheImage = (w : Writing) (old new : Between) → (tells : IsTrue new.packs_tell) → (stops : WriteStops Sink w old new) → (unit : ℕ)
    → ¬ (length (new.held unit).image
    ≢ length_behind (start_at (target_for w stops.from) (stops.left tells).table old.held) (moments_in (stops.left tells).broke.parts) unit (length (old.held unit).image))

abbrev pub ReadBlowsAnEmptyImageUp : Type 0
ReadBlowsAnEmptyImageUp = (t : Target) (size done unit : ℕ) (old new : Between) → IsTrue new.packs_tell → (old.held unit).image ≡ [] → 0 < length (new.held unit).image
    → (¬ Gives t size done old new (λ bytes. Unit {0})) × (¬ ReadStops Store t size old new) × (¬ ReadStops Sink t size old new)

abbrev pub RawLengthensTheImage : Type 0
RawLengthensTheImage = TransferLengthensTheImage × StoppedWriteLengthensTheImage × ReadBlowsAnEmptyImageUp
