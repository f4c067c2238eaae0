-- What comes next at a unit, inside an event.
use Rattle.std.specs.Prelude.{ℕ, ◌+◌, ◌/◌, ◌==◌, ◌&&◌, Bool, true, false, not, if◌then◌else◌, List, [], ◌∷◌, drop, Option, None, Some}
use Rattle.pack_geometry.specs.declared.Place.{Place}
use Rattle.pack_geometry.specs.Geometry.{place_at}
use Rattle.drive_registers.specs.Codes.{offset_field}
use Rattle.drive_registers.specs.declared.OffsetCode.{OffsetCode}
use Rattle.hardware_table.specs.declared.Moved.{Moved}
use Rattle.hardware_table.specs.declared.Moved.TheVariants as verdict
use Rattle.trace_replay.specs.Seek.{position_for}
use Rattle.trace_replay.specs.declared.seek_engine.Position.{Position}
use Rattle.trace_replay.specs.declared.seek_engine.Position.TheVariants as position
use Rattle.trace_replay.specs.Schedule.{step_after}
use Rattle.trace_replay.specs.declared.retry_offsets.Step.{Step}
use Rattle.trace_replay.specs.declared.retry_offsets.Step.TheVariants as retry
use Rattle.transfer_engine.specs.State.{TransferState, begun, segment_of, failures_after}
use Rattle.transfer_engine.specs.Calls.{entry_for, step_for}
use Rattle.trace_replay.specs.declared.requests.answers.AnswerKind.{AnswerKind}
use Rattle.trace_replay.specs.declared.requests.answers.AnswerKind.TheVariants.{ReadOk, WriteOk, Error}
use Rattle.trace_replay.specs.declared.requests.answers.Cause.{Cause}
use Rattle.trace_replay.specs.declared.requests.answers.Cause.TheVariants as cause
use Rattle.driver_machine.specs.declared.RetryStep.{RetryStep}
use Rattle.driver_machine.specs.declared.RetryStep.TheVariants.{Recalibrate, Seek, Offset}
use Rattle.driver_machine.specs.declared.Task.{Task}
use Rattle.driver_machine.specs.declared.Task.TheVariants.{Clear, Judge, Steps, Command, GiveUp}
use Rattle.driver_machine.specs.declared.Phase.{Phase}
use Rattle.driver_machine.specs.declared.Phase.TheVariants.{Waiting, Positioning, Queued, Transferring, Due}
use Rattle.driver_machine.specs.World.{UnitView, Held, transfer_of, job_of}
use Rattle.driver_machine.specs.Acts.{Deed, Search, Do, Move, Pack, Dclr, Rtc, Ready, Repair, Forward, Continue, Try, End}

-- the place of a request's first block
abbrev pub target_of : UnitView → Held → Place
target_of v h = place_at v.drive.kind h.first

-- the blocks that are done, with so many more that moved
abbrev pub done_with : ℕ → UnitView → ℕ
done_with moved v = (transfer_of v).done + moved

-- AN ERROR says how many blocks were done, with so many that moved clean behind them.
abbrev pub failed : Cause → ℕ → UnitView → Deed
failed why moved v = End (Error why (done_with moved v))

-- COMMAND DUE. Before SEARCH, SEEK, RECAL, OFFSET, RCOM and WCOM the drive status is read: the unit is offline, or it is
-- locked and the command is WCOM, or PACK comes first; else the command is issued.
abbrev pub sensed : Bool → UnitView → Deed → Deed
sensed writes v command =
    if not v.drive.online then failed cause.Offline 0 v
    else if writes && v.drive.locked then failed cause.Locked 0 v
    else if v.drive.valid then command else Pack

-- UNIT START. The unit positions for a first try at the head's first block.
abbrev pub position_of : UnitView → Held → Position
position_of v h = position_for v.drive.kind v.drive.cc (v.drive.la / 64) (target_of v h) true

abbrev pub ready_for : UnitView → Held → Deed
ready_for v h = Ready (begun (job_of v.drive.kind h))

abbrev pub start_by : Position → UnitView → Held → Deed
start_by position.Ready v h = ready_for v h
start_by (position.Search cylinder sector) v h = sensed false v (Search (target_of v h) sector)
start_by (position.Seek cylinder) v h = ready_for v h

abbrev pub start_of : UnitView → Held → Deed
start_of v h = start_by (position_of v h) v h

-- RETRY SCHEDULE. The steps behind a failure at a sector of this cylinder: RECAL and SEEK, then OFFSET; without steps the
-- transfer command comes at once. A first try has none.
abbrev pub offset_steps : Option OffsetCode → List RetryStep
offset_steps None = []
offset_steps (Some code) = Offset code ∷ []

abbrev pub seek_steps : ℕ → List RetryStep → List RetryStep
seek_steps cylinder left = if cylinder == 0 then left else Seek cylinder ∷ left

abbrev pub steps_for : ℕ → Step → List RetryStep
steps_for cylinder retry.Again = []
steps_for cylinder (retry.Offset code) = offset_steps (Some code)
steps_for cylinder (retry.Recalibrate code) = Recalibrate ∷ seek_steps cylinder (offset_steps code)
steps_for cylinder retry.GiveUp = []

-- those of a transfer that was tried
abbrev pub steps_of : TransferState → List RetryStep
steps_of t =
    steps_for (place_at t.job.kind (segment_of t).block).cylinder (step_after t.failures (not t.job.write))

abbrev pub task_for : Step → ℕ → Task
task_for retry.Again done = Command
task_for (retry.Offset code) done = Steps 0
task_for (retry.Recalibrate code) done = Steps 0
task_for retry.GiveUp done = GiveUp done

-- behind so many sectors that moved clean, the next one failed: which one it is, how often it has failed, and what comes next
abbrev pub try_of : ℕ → TransferState → Deed
try_of moved t =
    Try moved ((segment_of t).block + moved) (failures_after moved t.failures) (task_for (step_for moved t) (t.done + moved))

-- FORWARDING. A marked sector that is the block's own and is listed is replaced; any other ends the request.
abbrev pub forward_by : Option ℕ → ℕ → UnitView → Deed
forward_by None moved v = failed cause.Unforwarded moved v
forward_by (Some index) moved v = Forward moved index

abbrev pub forward_of : ℕ → UnitView → Deed
forward_of moved v = forward_by (entry_for moved v.table (transfer_of v)) moved v

-- DATA INTERRUPT, behind DCLR and RTC: what the verdict asks for, where so many sectors moved clean.
abbrev pub finished : Held → AnswerKind
finished h = if h.write then WriteOk else ReadOk h.loan.count h.loan.last

abbrev pub judged : ℕ → Moved → UnitView → Held → Deed
judged moved verdict.Clean v h = if done_with moved v == h.loan.count then End (finished h) else Continue moved
judged moved (verdict.Burst at pattern) v h = Repair moved at pattern
judged moved verdict.Offline v h = failed cause.Offline moved v
judged moved verdict.Marked v h = forward_of moved v
judged moved (verdict.Faulted kind) v h = try_of moved (transfer_of v)
judged moved verdict.Hard v h = try_of moved (transfer_of v)

-- the next step of a retry, or the unit is ready
abbrev pub step_of : List RetryStep → ℕ → UnitView → Deed
step_of [] taken v = Ready (transfer_of v)
step_of (step ∷ left) taken v = sensed false v (Do step (taken + 1))

-- the transfer command, at once or where the adapter takes the unit
abbrev pub command_of : UnitView → Held → Deed
command_of v h = sensed h.write v (Move h.write (segment_of (transfer_of v)))

abbrev pub deed_for : Task → UnitView → Held → Deed
deed_for (Clear moved last) v h = Dclr moved last
deed_for (Judge moved last) v h = if offset_field v.drive.offset == 0 then judged moved last v h else Rtc
deed_for (Steps taken) v h = step_of (drop taken (steps_of (transfer_of v))) taken v
deed_for Command v h = command_of v h
deed_for (GiveUp done) v h = End (Error (cause.Fault 28) done)

-- WHAT COMES NEXT at a unit whose queue is not empty: it is started, or its task is done, or it waits for an event.
abbrev pub next_by : Phase → UnitView → Held → Option Deed
next_by Waiting v h = Some (start_of v h)
next_by (Due task) v h = Some (deed_for task v h)
next_by (Positioning taken) v h = None
next_by Queued v h = None
next_by Transferring v h = None

abbrev pub next_of : UnitView → Held → Option Deed
next_of v h = next_by v.phase v h
