use Rattle.std.specs.Prelude.{◌≡◌, ◌⊎◌, ℕ, ◌+◌, Bool, true, false, List, [], ◌∷◌, drop, Some, None, ◌&&◌, ◌==◌}
use Rattle.drive_registers.specs.Codes.{offset_field}
use Rattle.hardware_table.specs.declared.Moved.{Moved}
use Rattle.hardware_table.specs.declared.Moved.TheVariants as verdict
use Rattle.hardware_table.specs.Drive.{DriveState}
use Rattle.trace_replay.specs.declared.seek_engine.Position.TheVariants as position
use Rattle.driver_machine.specs.Passes.{TransferState, begun, segment_of, entry_for}
use Rattle.trace_replay.specs.declared.requests.answers.AnswerKind.{AnswerKind}
use Rattle.trace_replay.specs.declared.requests.answers.AnswerKind.TheVariants.{Error}
use Rattle.trace_replay.specs.declared.requests.answers.Cause.TheVariants as cause
use Rattle.driver_machine.specs.declared.RetryStep.{RetryStep}
use Rattle.driver_machine.specs.declared.Task.TheVariants.{Clear, Judge, Steps, Command, GiveUp}
use Rattle.driver_machine.specs.declared.Phase.{Phase}
use Rattle.driver_machine.specs.declared.Phase.TheVariants.{Waiting, Queued, Due}
use Rattle.driver_machine.specs.World.{UnitView, Held, transfer_of, job_of}
use Rattle.driver_machine.specs.Acts as deed
use Rattle.driver_machine.specs.Acts.{Deed}
use Rattle.driver_machine.specs.Due.{position_of, target_of, done_with, steps_of, finished, try_of}

-- What holds of a unit when a deed is due there.

-- a drive that may be given a command
pub record MayGo (writes : Bool) (d : DriveState) : Type 0 where
  pub online : d.online ≡ true
  pub valid : d.valid ≡ true
  pub unlocked : writes && d.locked ≡ false

-- the phases in which a command is due before which the status is read
pub data Calls : Phase → Type 0 where
  AtStart : Calls Waiting
  AtStep : (taken : ℕ) → Calls (Due (Steps taken))
  AtTransfer : Calls (Due Command)
  AtChoice : Calls Queued

-- the transfer command is due: at once, or where the adapter takes the unit
abbrev pub IsAtCommand : Phase → Type 0
IsAtCommand phase = (phase ≡ Due Command) ⊎ (phase ≡ Queued)

-- a retry's next step, behind those that are taken; or all are
pub record IsStep (v : UnitView) (step : RetryStep) (taken : ℕ) : Type 0 where
  pub before : ℕ
  pub phase : v.phase ≡ Due (Steps before)
  pub next : taken ≡ before + 1
  pub left : List RetryStep
  pub is : drop before (steps_of (transfer_of v)) ≡ step ∷ left

pub record AllTaken (v : UnitView) : Type 0 where
  pub taken : ℕ
  pub phase : v.phase ≡ Due (Steps taken)
  pub none : drop taken (steps_of (transfer_of v)) ≡ []

-- the unit is ready: at its start with a new transfer, and behind the steps of a retry with the one that it has
abbrev pub IsReady : UnitView → Held → TransferState → Type 0
IsReady v h t = ((v.phase ≡ Waiting) × (t ≡ begun (job_of v.drive.kind h))) ⊎ (AllTaken v × (t ≡ transfer_of v))

-- the verdict of this many sectors is to be judged, and no offset is set
pub record IsJudged (v : UnitView) (moved : ℕ) (last : Moved) : Type 0 where
  pub phase : v.phase ≡ Due (Judge moved last)
  pub centred : offset_field v.drive.offset == 0 ≡ true

-- why a request ends
pub data Ends (v : UnitView) (h : Held) : AnswerKind → Type 0 where
  Offline : v.drive.online ≡ false → Calls v.phase → Ends v h (Error cause.Offline (done_with 0 v))
  Locked : v.drive.online ≡ true → h.write && v.drive.locked ≡ true → IsAtCommand v.phase → Ends v h (Error cause.Locked (done_with 0 v))
  Left : (moved : ℕ) → IsJudged v moved verdict.Offline → Ends v h (Error cause.Offline (done_with moved v))
  Unforwarded : (moved : ℕ) → IsJudged v moved verdict.Marked → entry_for moved v.table (transfer_of v) ≡ None
      → Ends v h (Error cause.Unforwarded (done_with moved v))
  Tried : (done : ℕ) → v.phase ≡ Due (GiveUp done) → Ends v h (Error (cause.Fault 28) done)
  Finished : (moved : ℕ) → IsJudged v moved verdict.Clean → done_with moved v == h.loan.count ≡ true → Ends v h (finished h)

abbrev pub IsFailure : Moved → Type 0
IsFailure (verdict.Faulted kind) = Unit {0}
IsFailure verdict.Hard = Unit {0}
IsFailure last = ⊥

abbrev pub IsDue : UnitView → Held → Deed → Type 0
IsDue v h (deed.Search target sector) =
    (v.phase ≡ Waiting) × MayGo false v.drive × (target ≡ target_of v h) × (position_of v h ≡ position.Search target.cylinder sector)
IsDue v h (deed.Do step taken) = IsStep v step taken × MayGo false v.drive
IsDue v h (deed.Move write segment) =
    IsAtCommand v.phase × MayGo write v.drive × (write ≡ h.write) × (segment ≡ segment_of (transfer_of v))
IsDue v h deed.Pack = (v.drive.online ≡ true) × (v.drive.valid ≡ false) × Calls v.phase
IsDue v h (deed.Dclr moved last) = v.phase ≡ Due (Clear moved last)
IsDue v h deed.Rtc = (moved : ℕ) × (last : Moved) × (v.phase ≡ Due (Judge moved last)) × (offset_field v.drive.offset == 0 ≡ false)
IsDue v h (deed.Ready t) = IsReady v h t
IsDue v h (deed.Repair moved at pattern) = IsJudged v moved (verdict.Burst at pattern)
IsDue v h (deed.Forward moved index) = IsJudged v moved verdict.Marked × (entry_for moved v.table (transfer_of v) ≡ Some index)
IsDue v h (deed.Continue moved) = IsJudged v moved verdict.Clean × (done_with moved v == h.loan.count ≡ false)
IsDue v h (deed.Try moved block number next) = (last : Moved) × IsFailure last × IsJudged v moved last
    × (deed.Try moved block number next ≡ try_of moved (transfer_of v))
IsDue v h (deed.End kind) = Ends v h kind
IsDue v h other = ⊥
