-- The numbers that the program ends with.
use Rattle.std.specs.Prelude.{◌≡◌, ℕ}
use Rattle.hpview_run.specs.declared.load.ViewFault.{ViewFault}
use Rattle.hpview_run.specs.declared.load.ViewFault.TheVariants as faults
use Rattle.hpview_run.specs.declared.status.Status.{Status}
use Rattle.hpview_run.specs.declared.status.Status.TheVariants.{Done, Usage, Refused, SourceFailed, SinkFailed, OutOfMemory, NoEvent}

abbrev pub status_code : Status → ℕ
status_code Done = 0
status_code Usage = 2
status_code Refused = 3
status_code SourceFailed = 4
status_code SinkFailed = 5
status_code OutOfMemory = 9
status_code NoEvent = 10

-- a number is that of a status
abbrev pub IsViewCode : ℕ → Type 0
IsViewCode code = (status : Status) × (code ≡ status_code status)

-- the status of a fault
abbrev pub status_of : ViewFault → Status
status_of faults.Memory = OutOfMemory
status_of faults.Failed = SourceFailed
status_of (faults.Script line kind) = Refused
status_of (faults.Trace line kind) = Refused
status_of (faults.Window events) = NoEvent
