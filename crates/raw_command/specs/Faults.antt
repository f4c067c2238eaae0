-- What a transfer is answered.
use Rattle.std.specs.Prelude.{◌≡◌, ◌⊎◌, ℕ, Result, Ok, Err, Option, None, Some}
use Rattle.outside_traits.specs.declared.whole.ReadAllFault.{ReadAllFault}
use Rattle.outside_traits.specs.declared.whole.ReadAllFault.TheVariants as all
use Rattle.mba_autoconf.specs.declared.attaching.AttachFault.{AttachFault}
use Rattle.mba_autoconf.specs.declared.attaching.AttachFault.TheVariants as attach
use Rattle.raw_io.specs.declared.fault.RawFault.{RawFault}
use Rattle.raw_io.specs.declared.fault.RawFault.TheVariants as raw
use Rattle.driver_laws.specs.declared.answers.outcome.Stop.{Stop}
use Rattle.driver_laws.specs.declared.answers.outcome.Stop.TheVariants as stopped
use Rattle.raw_command.specs.declared.fault.TransferFault.{TransferFault}
use Rattle.raw_command.specs.declared.fault.TransferFault.TheVariants as fault
use Rattle.command_parts.specs.declared.words.Transfer.{Transfer}
use Rattle.command_parts.specs.declared.words.Transfer.TheVariants.{Read, Write}

abbrev pub from_read_all : ReadAllFault → TransferFault
from_read_all all.Memory = fault.Memory
from_read_all all.Failed = fault.Source

abbrev pub from_attach : AttachFault → TransferFault
from_attach (attach.TooLong n) = fault.TooLong n
from_attach attach.Store = fault.Store

abbrev pub from_raw : RawFault → TransferFault
from_raw raw.Outside = fault.Outside
from_raw (raw.Unusable done) = fault.Unusable done
from_raw raw.Store = fault.Store
from_raw raw.Sink = fault.Sink

-- the fault of a call of `raw_io`, if it has one
abbrev pub raw_fault : {A : Type 0} → Result A RawFault → Option TransferFault
raw_fault (Ok value) = None
raw_fault (Err why) = Some (from_raw why)

-- THE ANSWER: the status that it ends with,
abbrev pub Answer : Type 0
Answer = Result (Unit {0}) TransferFault

abbrev pub code_of : Answer → ℕ
code_of (Ok all) = 0
code_of (Err fault.Source) = 4
code_of (Err fault.Sink) = 5
code_of (Err fault.Store) = 6
code_of (Err (fault.TooLong n)) = 7
code_of (Err fault.Memory) = 9
code_of (Err fault.Outside) = 10
code_of (Err (fault.Unusable done)) = 10

-- the fault in it, if there is one,
abbrev pub fault_in : {A : Type 0} → Result A TransferFault → Option TransferFault
fault_in (Ok value) = None
fault_in (Err why) = Some why

-- what stopped it, if something did,
abbrev pub stop_of : Option TransferFault → Option Stop
stop_of (Some fault.Store) = Some stopped.Store
stop_of (Some fault.Sink) = Some stopped.Sink
stop_of answer = None

-- how many of so many bytes were transferred where nothing did,
abbrev pub done_by : (size : ℕ) → Option TransferFault → Option ℕ
done_by size None = Some size
done_by size (Some (fault.Unusable done)) = Some done
done_by size answer = None

-- and that nothing was transferred: there was no memory, or the image is too long.
abbrev pub IsBefore : Option TransferFault → Type 0
IsBefore (Some fault.Memory) = Unit {0}
IsBefore (Some (fault.TooLong n)) = Unit {0}
IsBefore answer = ⊥

-- Nothing is printed of what failed.
abbrev pub IsSilent : TransferFault → Type 0
IsSilent fault.Memory = Unit {0}
IsSilent fault.Source = Unit {0}
IsSilent fault.Store = Unit {0}
IsSilent fault.Sink = Unit {0}
IsSilent why = ⊥

-- A UNIT is answered so: its source and its range are not asked for.
abbrev pub IsOfUnit : Option TransferFault → Type 0
IsOfUnit (Some fault.Source) = ⊥
IsOfUnit (Some fault.Outside) = ⊥
IsOfUnit answer = Unit {0}

-- and as it is attached nothing is transferred yet.
abbrev pub IsOfAttaching : TransferFault → Type 0
IsOfAttaching fault.Store = Unit {0}
IsOfAttaching fault.Memory = Unit {0}
IsOfAttaching (fault.TooLong n) = Unit {0}
IsOfAttaching why = ⊥

-- THE STATUSES: only what is written is read from the source.
abbrev pub IsReadCode : ℕ → Type 0
IsReadCode code = (code ≡ 0) ⊎ (code ≡ 5) ⊎ (code ≡ 6) ⊎ (code ≡ 7) ⊎ (code ≡ 9) ⊎ (code ≡ 10)

abbrev pub IsTransferCode : Transfer → ℕ → Type 0
IsTransferCode (Read target size) code = IsReadCode code
IsTransferCode (Write writing) code = IsReadCode code ⊎ (code ≡ 4)
