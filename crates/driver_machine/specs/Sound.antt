-- What holds of the driver between any two acts: of each unit, of each adapter, of each slot, and of the answers that wait.
use Rattle.std.specs.Prelude.{◌≡◌, ◌≢◌, ◌⊎◌, ℕ, ◌+◌, ◌*◌, ◌<◌, ◌≤◌, Bool, true, false, if◌then◌else◌, List, [], ◌∷◌, length, map, Option, None, Some, Contains, slice_get, IsTrue}
use Rattle.std.specs.Int.{bit_at}
use Rattle.pack_geometry.specs.declared.DriveKind.{DriveKind}
use Rattle.pack_geometry.specs.Geometry.{cylinders_of, sectors_of, limit_of, place_at}
use Rattle.pack_geometry.specs.TableSpelling.{Table, IsTable}
use Rattle.pack_geometry.specs.PackTable.{places_of}
use Rattle.drive_registers.specs.Bits as bits
use Rattle.drive_registers.specs.Codes.{offset_code}
use Rattle.drive_registers.specs.declared.OffsetCode.{OffsetCode}
use Rattle.hardware_table.specs.declared.Moved.{Moved}
use Rattle.hardware_table.specs.declared.Moved.TheVariants as verdict
use Rattle.hardware_table.specs.declared.Work.{Work}
use Rattle.hardware_table.specs.declared.Work.TheVariants as work
use Rattle.hardware_table.specs.Drive.{DriveState}
use Rattle.hardware_table.specs.Functions.{is_addressed}
use Rattle.hardware_table.specs.Moves.{after_move}
use Rattle.hardware_table.specs.Adapter.{AdapterState, IsAdapter, late_after}
use Rattle.main_memory.specs.Blocks.{IsLoan, size_at}
use Rattle.disksort.specs.declared.Waiter.{Waiter}
use Rattle.trace_replay.specs.requests.ServiceOrder.{IsInOrder}
use Rattle.transfer_engine.specs.State.{segment_of}
use Rattle.transfer_engine.specs.State as engine
use Rattle.trace_replay.specs.declared.requests.answers.AnswerKind.{AnswerKind}
use Rattle.trace_replay.specs.declared.requests.answers.AnswerKind.TheVariants.{ReadOk, WriteOk, Eof, Error}
use Rattle.driver_machine.specs.declared.Made.{Made}
use Rattle.driver_machine.specs.declared.Task.{Task}
use Rattle.driver_machine.specs.declared.Task.TheVariants.{Clear, Judge, Steps, Command, GiveUp}
use Rattle.driver_machine.specs.declared.Phase.{Phase}
use Rattle.driver_machine.specs.declared.Phase.TheVariants.{Waiting, Positioning, Queued, Transferring, Due}
use Rattle.driver_machine.specs.World.{World, UnitView, AdapterView, Held, adapter_of, drive_of, unit_on, unit_at, adapter_at, slot_at, held_in, slot_in_hand, transfer_of, job_of, block_in, frames_of}
use Rattle.driver_machine.specs.Due.{steps_of}
use Rattle.driver_machine.specs.Refusals.{refuses}
use Rattle.driver_machine.specs.Guards.{IsApart}

-- WORDS FOR LISTS OF NUMBERS.
abbrev pub Among : ℕ → List ℕ → Type 0
Among x [] = ⊥
Among x (y ∷ ys) = (x ≡ y) ⊎ Among x ys

abbrev pub Once : List ℕ → Type 0
Once [] = Unit {0}
Once (x ∷ xs) = (Among x xs → ⊥) × Once xs

-- THE DRIVE. Its heads and its registers name places of it, the offset register says the format and perhaps an offset, and a
-- volume is valid only online. All of this holds whatever the drive does.
abbrev pub code_word : Option OffsetCode → ℕ
code_word None = 0
code_word (Some code) = offset_code code

pub record IsDrive (d : DriveState) : Type 0 where
  pub cylinder : d.cc < cylinders_of d.kind
  pub look : ℕ
  pub look_ahead : d.la ≡ look * 64
  pub sector : look < sectors_of d.kind
  pub address : is_addressed d ≡ true
  pub code : Option OffsetCode
  pub offset : d.offset ≡ bits.sixteen_bit_format + code_word code
  pub valid : d.valid ≡ true → d.online ≡ true

pub record IsClear (d : DriveState) : Type 0 where
  pub er1 : d.er1 ≡ 0
  pub er2 : d.er2 ≡ 0

-- it stands still, and has nothing to tell
pub record IsStill (d : DriveState) : Type 0 where
  pub work : d.work ≡ work.Ready
  pub attention : d.attention ≡ false
  pub clear : IsClear d

-- it positions to a place of the drive
abbrev pub IsGoal : DriveKind → Work → Type 0
IsGoal kind (work.Positioning cylinder (Some sector)) = (cylinder < cylinders_of kind) × (sector < sectors_of kind)
IsGoal kind (work.Positioning cylinder None) = cylinder < cylinders_of kind
IsGoal kind work.Ready = ⊥
IsGoal kind (work.Transfer write) = ⊥

-- it positions, or has its attention up, and never both
pub record IsMoving (d : DriveState) : Type 0 where
  pub either : (IsGoal d.kind d.work × (d.attention ≡ false)) ⊎ ((d.work ≡ work.Ready) × (d.attention ≡ true))
  pub clear : IsClear d

-- no errors, and the data was not late
pub record IsQuiet (d : DriveState) (a : AdapterState) : Type 0 where
  pub clear : IsClear d
  pub late : a.data_late ≡ false

-- the error registers are as the last verdict leaves those of a clear drive, whatever condition changes then
abbrev pub late_by : Moved → Bool
late_by (verdict.Faulted kind) = late_after kind false
late_by last = false

pub record IsShown (d : DriveState) (a : AdapterState) : Type 0 where
  pub before : DriveState
  pub kind : before.kind ≡ d.kind
  pub clear : IsClear before
  pub block : ℕ
  pub er1 : d.er1 ≡ (after_move a.verdict block before).er1
  pub er2 : d.er2 ≡ (after_move a.verdict block before).er2
  pub ec1 : d.ec1 ≡ (after_move a.verdict block before).ec1
  pub ec2 : d.ec2 ≡ (after_move a.verdict block before).ec2
  pub late : a.data_late ≡ late_by a.verdict

-- its transfer is under way until the completion goes up; errors show in it as soon as it is
pub record IsUnderWay (d : DriveState) (a : AdapterState) : Type 0 where
  pub work : d.work ≡ (if a.completion then work.Ready else work.Transfer a.write)
  pub attention : d.attention ≡ false
  pub quiet : a.completion ≡ false → IsQuiet d a
  pub shown : a.completion ≡ true → IsShown d a

-- it stands still, with the errors of a verdict
pub record IsStopped (d : DriveState) : Type 0 where
  pub work : d.work ≡ work.Ready
  pub attention : d.attention ≡ false

-- THE TRANSFER of the request in hand is one of its job. Where its segment is a replacement, the next block is listed there.
pub record IsBegun (v : UnitView) (h : Held) : Type 0 where
  pub some : v.transfer ≡ Some (transfer_of v)
  pub is : engine.IsTransfer (transfer_of v)
  pub job : (transfer_of v).job ≡ job_of v.drive.kind h
  pub listed : (i : ℕ) → (transfer_of v).index ≡ Some i
      → slice_get (places_of v.table) i ≡ Some (place_at v.drive.kind (h.first + (transfer_of v).done))

-- no more steps of a retry are taken than it has
abbrev pub AreTaken : UnitView → ℕ → Type 0
AreTaken v taken = taken ≤ length (steps_of (transfer_of v))

-- how far a segment of so many sectors came when it ended: all moved clean, or one did not; behind a repair that one counts
abbrev pub IsEndedAt : Moved → ℕ → ℕ → Type 0
IsEndedAt verdict.Clean moved count = (1 ≤ moved) × (moved ≤ count)
IsEndedAt last moved count = moved < count

-- a burst begins at a place of the word, counted from 1, and its pattern has 11 bits
pub record IsBurstAt (at pattern : ℕ) : Type 0 where
  pub first : 1 ≤ at
  pub last : at ≤ 4128
  pub pattern_bits : pattern < 2048

-- a burst and a hard error are found by reads alone
abbrev pub IsFor : Bool → Moved → Type 0
IsFor write (verdict.Burst at pattern) = (write ≡ false) × IsBurstAt at pattern
IsFor write verdict.Hard = write ≡ false
IsFor write last = Unit {0}

-- THE TASK inside an event.
abbrev pub IsTask : UnitView → Held → Task → Type 0
IsTask v h (Clear moved last) =
    IsBegun v h × IsStopped v.drive × (last ≢ verdict.Clean) × IsEndedAt last moved (segment_of (transfer_of v)).count × IsFor h.write last
IsTask v h (Judge moved last) =
    IsBegun v h × IsStill v.drive × IsEndedAt last moved (segment_of (transfer_of v)).count × IsFor h.write last
IsTask v h (Steps taken) = IsBegun v h × IsStill v.drive × AreTaken v taken
IsTask v h Command = IsBegun v h × IsStill v.drive
IsTask v h (GiveUp done) = (v.transfer ≡ None) × IsStill v.drive × (done < h.loan.count)

-- THE PHASE. Waiting is where nothing was begun for the head; positioning is where the drive does, or has its attention up;
-- queued is where the unit waits for its adapter; transferring is where its adapter is busy for it.
abbrev pub IsPhase : (u : ℕ) → UnitView → AdapterView → Held → Phase → Type 0
IsPhase u v a h Waiting = IsStill v.drive × (v.transfer ≡ None)
IsPhase u v a h (Positioning taken) = IsBegun v h × IsMoving v.drive × AreTaken v taken
IsPhase u v a h Queued = IsBegun v h × IsStill v.drive × Among u a.queue
IsPhase u v a h Transferring = IsBegun v h × IsUnderWay v.drive a.state × (a.state.busy ≡ true) × (a.state.drive ≡ drive_of u)
IsPhase u v a h (Due task) = IsTask v h task

-- THE UNIT. A request that is outstanding stands in its unit's queue, which is in service order; unless the unit waits, the
-- head is in hand.
abbrev pub slots_of : List Waiter → List ℕ
slots_of queue = map (λ (x : Waiter). x.number) queue

pub record IsOutstanding (w : World) (u : ℕ) (x : Waiter) : Type 0 where
  pub held : Held
  pub slot : slot_at w x.number ≡ Some held
  pub unit : held.unit ≡ u
  pub going_on : held.ended ≡ false
  pub cylinder : x.cylinder ≡ (place_at (unit_at w u).drive.kind held.first).cylinder

abbrev pub is_waiting : Phase → Bool
is_waiting Waiting = true
is_waiting phase = false

-- the table, where the pack has one, is a table for the unit's kind
pub record IsTableFor (kind : DriveKind) (table : Table) : Type 0 where
  pub is : IsTable table
  pub for_drive : table.kind ≡ kind

pub record UnitOk (w : World) (u : ℕ) (v : UnitView) : Type 0 where
  pub queue : (x : Waiter) → Contains v.queue x → IsOutstanding w u x
  pub once : Once (slots_of v.queue)
  pub order : IsInOrder (λ (x : Waiter). x.cylinder) v.queue
  pub drive : IsDrive v.drive
  pub head : is_waiting v.phase ≡ false → 0 < length v.queue
  pub phase : IsPhase u v (adapter_at w (adapter_of u)) (held_in w (slot_in_hand v)) v.phase
  pub table : (table : Table) → v.table ≡ Some table → IsTableFor v.drive.kind table
  pub undeclared : v.declared ≡ false → v.queue ≡ []

-- THE ADAPTER names one of its eight drives, busy or free. Where it is busy, it has the buffer of the request in hand of a transferring unit,
-- and moves its segment.
pub record Transfers (w : World) (u : ℕ) (h : Held) (a : AdapterState) : Type 0 where
  pub phase : (unit_at w u).phase ≡ Transferring
  pub slot : slot_at w (slot_in_hand (unit_at w u)) ≡ Some h
  pub on_bus : h.on_bus ≡ true
  pub loan : record { frames = a.frames; offset = a.offset; count = a.blocks; last = a.last } ≡ h.loan
  pub segment : record { block = a.block; skip = a.skip; count = a.count } ≡ segment_of (transfer_of (unit_at w u))
  pub write : a.write ≡ h.write
  pub over : a.completion ≡ true → IsEndedAt a.verdict a.moved a.count × IsFor h.write a.verdict
  pub whole : a.completion ≡ true → a.verdict ≡ verdict.Clean → a.moved ≡ a.count

pub record AdapterOk (w : World) (a : ℕ) (v : AdapterView) : Type 0 where
  pub state : IsAdapter v.state
  pub drive : v.state.drive < 8
  pub busy : v.state.busy ≡ true → (h : Held) × Transfers w (unit_on a v.state.drive) h v.state
  pub rest : v.state.busy ≡ false → v.state.completion ≡ false
  pub waits : (u : ℕ) → Among u v.queue → (u < 32) × (adapter_of u ≡ a) × ((unit_at w u).phase ≡ Queued)
  pub once : Once v.queue
  pub small : v.state.attentions < 256
  pub raised : (k : ℕ) → k < 8 → bit_at v.state.attentions k ≡ (if (unit_at w (unit_on a k)).drive.attention then 1 else 0)

-- THE SLOT. A request that is not ended stands in its unit's queue, and any other has an answer that waits; each block of its
-- buffer is whole, whether it reads or writes; the adapter has its buffer only in a transfer.
abbrev pub slot_made : Option ℕ → List ℕ → List ℕ
slot_made None slots = slots
slot_made (Some p) slots = p ∷ slots

abbrev pub slots_made : List Made → List ℕ
slots_made [] = []
slots_made (made ∷ rest) = slot_made made.slot (slots_made rest)

pub record SlotOk (w : World) (p : ℕ) (h : Held) : Type 0 where
  pub unit : h.unit < 32
  pub loan : IsLoan h.loan
  pub small : (frame : ℕ) → Contains h.loan.frames frame → frame < 16384
  pub size : length h.blocks ≡ h.loan.count
  pub whole : (k : ℕ) → k < h.loan.count → length (block_in h k) ≡ size_at h.loan k
  pub inside : h.first + h.loan.count ≤ limit_of (unit_at w h.unit).drive.kind
  pub queued : h.ended ≡ false → Among p (slots_of (unit_at w h.unit).queue)
  pub bus : h.on_bus ≡ true →
      (p ≡ slot_in_hand (unit_at w h.unit)) × ((unit_at w h.unit).phase ≡ Transferring) × (h.ended ≡ false)
  pub made : h.ended ≡ true → Among p (slots_made w.answers)

-- an answer that waits for a slot is that of a request that has ended, has its id, and gives just its blocks
abbrev pub IsGiven : Held → AnswerKind → Type 0
IsGiven h (ReadOk count last) = (h.write ≡ false) × (count ≡ h.loan.count) × (last ≡ h.loan.last)
IsGiven h WriteOk = h.write ≡ true
IsGiven h Eof = ⊥
IsGiven h (Error why done) = done < h.loan.count

pub record IsMade (w : World) (made : Made) (p : ℕ) : Type 0 where
  pub held : Held
  pub slot : slot_at w p ≡ Some held
  pub id : made.answer.id ≡ held.id
  pub over : held.ended ≡ true
  pub given : IsGiven held made.answer.kind

-- THE FRAMES that all outstanding requests need
abbrev pub frames_by : Bool → Held → ℕ
frames_by true h = 0
frames_by false h = frames_of h

abbrev pub frames_used : List (Option Held) → ℕ
frames_used [] = 0
frames_used (None ∷ slots) = frames_used slots
frames_used (Some h ∷ slots) = frames_by h.ended h + frames_used slots

-- WHAT HOLDS OF THE WORLD. No two requests share a frame, and no two that are outstanding an id. An answer that waits for no slot
-- is that of a request that was refused.
pub record Sound (w : World) : Type 0 where
  pub units : length w.units ≡ 32
  pub adapters : length w.adapters ≡ 4
  pub each_unit : (u : ℕ) → u < 32 → UnitOk w u (unit_at w u)
  pub each_adapter : (a : ℕ) → a < 4 → AdapterOk w a (adapter_at w a)
  pub each_slot : (p : ℕ) (h : Held) → slot_at w p ≡ Some h → SlotOk w p h
  pub differ : (p q : ℕ) (g h : Held) → slot_at w p ≡ Some g → slot_at w q ≡ Some h
      → g.ended ≡ false → h.ended ≡ false → g.id ≡ h.id → p ≡ q
  pub apart : (p q : ℕ) (g h : Held) → slot_at w p ≡ Some g → slot_at w q ≡ Some h → p ≢ q → IsApart g.loan.frames h.loan.frames
  pub frames : w.frames ≡ frames_used w.slots
  pub room : w.frames ≤ 16384
  pub answers : (made : Made) (p : ℕ) → Contains w.answers made → made.slot ≡ Some p → IsMade w made p
  pub refused : (made : Made) → Contains w.answers made → made.slot ≡ None → IsTrue (refuses made.answer.kind)
  pub once : Once (slots_made w.answers)

-- BETWEEN TWO EVENTS no task is due: a unit that waits has no request, and an adapter that is free has no unit that waits.
abbrev pub WorkOf : Phase → List Waiter → Type 0
WorkOf Waiting queue = queue ≡ []
WorkOf (Due task) queue = ⊥
WorkOf phase queue = Unit {0}

pub record AtWork (w : World) : Type 0 where
  pub units : (u : ℕ) → u < 32 → WorkOf (unit_at w u).phase (unit_at w u).queue
  pub adapters : (a : ℕ) → a < 4 → (adapter_at w a).state.busy ≡ false → (adapter_at w a).queue ≡ []
