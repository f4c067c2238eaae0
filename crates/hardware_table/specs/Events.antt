-- What events do to a drive.
use Rattle.std.specs.Prelude.{ℕ, ◌+◌, ◌*◌, Bool, true, false, Option, None, Some}
use Rattle.hardware_table.specs.declared.Armed.{Armed}
use Rattle.hardware_table.specs.declared.FaultKind.{FaultKind}
use Rattle.hardware_table.specs.declared.FaultKind.TheVariants.{Seek, Opi, Dte, Hcrc, Late}
use Rattle.hardware_table.specs.declared.Work.{Work}
use Rattle.hardware_table.specs.declared.Work.TheVariants.{Ready, Positioning, Transfer}
use Rattle.hardware_table.specs.Drive.{DriveState}

-- the look-ahead register over a sector
abbrev pub look_ahead : ℕ → ℕ
look_ahead sector = sector * 64

-- the look-ahead register where a positioning ended: a search ends over its sector, any other leaves it as it was
abbrev pub look_ahead_after : Option ℕ → ℕ → ℕ
look_ahead_after None la = la
look_ahead_after (Some sector) la = look_ahead sector

abbrev pub arrived_from : Work → DriveState → DriveState
arrived_from Ready d = d
arrived_from (Transfer write) d = d
arrived_from (Positioning cylinder sector) d =
    record d { cc = cylinder; la = look_ahead_after sector d.la; work = Ready; attention = true }

-- the positioning that is under way ends and raises the attention; without one nothing happens
abbrev pub arrived : DriveState → DriveState
arrived d = arrived_from d.work d

abbrev pub attention_cleared : DriveState → DriveState
attention_cleared d = record d { attention = false }

abbrev pub transfer_ended : DriveState → DriveState
transfer_ended d = record d { work = Ready }

abbrev pub turned : ℕ → DriveState → DriveState
turned sector d = record d { la = look_ahead sector }

-- a drive that goes offline has no valid volume; what is under way stays so
abbrev pub online_set : Bool → DriveState → DriveState
online_set true d = record d { online = true }
online_set false d = record d { online = false; valid = false }

abbrev pub locked_set : Bool → DriveState → DriveState
locked_set on d = record d { locked = on }

-- how often a fault of a kind is still to strike
abbrev pub times_armed : FaultKind → Armed → ℕ
times_armed Seek a = a.seek
times_armed Opi a = a.opi
times_armed Dte a = a.dte
times_armed Hcrc a = a.hcrc
times_armed Late a = a.late

abbrev pub with_times : FaultKind → ℕ → Armed → Armed
with_times Seek n a = record a { seek = n }
with_times Opi n a = record a { opi = n }
with_times Dte n a = record a { dte = n }
with_times Hcrc n a = record a { hcrc = n }
with_times Late n a = record a { late = n }

-- a fault is armed for so many more times
abbrev pub fault_armed : FaultKind → ℕ → DriveState → DriveState
fault_armed kind times d = record d { armed = with_times kind (times_armed kind d.armed + times) d.armed }
