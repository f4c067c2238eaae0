-- The statuses of each command.
use Rattle.std.specs.Prelude.{◌≡◌, ◌⊎◌, ℕ, Option, None, Some}
use Rattle.pack_geometry.specs.declared.DriveKind.{DriveKind}
use Rattle.bad144_tool.specs.declared.edit.AddWay.{AddWay}
use Rattle.command_parts.specs.Statuses.{status_code}
use Rattle.command_parts.specs.declared.status.Status.TheVariants.{Done, Usage, SinkFailed, PacksFailed, TooLong, ToolRefused, OutOfMemory}
use Rattle.raw_command.specs.Faults.{IsTransferCode}
use Rattle.command_parts.specs.declared.words.Transfer.{Transfer}
use Rattle.script_commands.specs.Scripts.{IsPlayCode}
use Rattle.pack_commands.specs.Formats.{IsFormatCode}
use Rattle.pack_commands.specs.declared.words.Command.{Command}
use Rattle.pack_commands.specs.declared.words.Command.TheVariants.{Play, ListTable, AddBlock, FreshTable, MarkBlocks, Exercise, Cached, FormatPack, TransferBytes}

-- the statuses of the commands of `bad144` without and with refusals of their own, and of `exercise`
abbrev pub IsToolCode : ℕ → Type 0
IsToolCode code = (code ≡ status_code Done) ⊎ (code ≡ status_code SinkFailed) ⊎ (code ≡ status_code PacksFailed) ⊎ (code ≡ status_code TooLong)

abbrev pub IsChangeCode : ℕ → Type 0
IsChangeCode code = (code ≡ status_code Done) ⊎ (code ≡ status_code SinkFailed) ⊎ (code ≡ status_code PacksFailed) ⊎ (code ≡ status_code TooLong) ⊎ (code ≡ status_code ToolRefused)

abbrev pub IsExerciseCode : ℕ → Type 0
IsExerciseCode code = (code ≡ status_code Done) ⊎ (code ≡ status_code SinkFailed) ⊎ (code ≡ status_code OutOfMemory)

-- EACH COMMAND has its statuses, and words that are none have the usage's.
pub record IsStatusOf (command : Option Command) (code : ℕ) : Type 0 where
  pub none : command ≡ None → code ≡ status_code Usage
  pub play : command ≡ Some Play → IsPlayCode code
  pub list : (unit : ℕ) (kind : DriveKind) → command ≡ Some (ListTable unit kind) → IsToolCode code
  pub add : (unit block : ℕ) (kind : DriveKind) (way : AddWay) → command ≡ Some (AddBlock unit kind block way) → IsChangeCode code
  pub fresh : (unit serial : ℕ) (kind : DriveKind) → command ≡ Some (FreshTable unit kind serial) → IsToolCode code
  pub mark : (unit : ℕ) (kind : DriveKind) → command ≡ Some (MarkBlocks unit kind) → IsChangeCode code
  pub exercise : (number : ℕ) → command ≡ Some (Exercise number) → IsExerciseCode code
  pub cached : (capacity : ℕ) → command ≡ Some (Cached capacity) → IsPlayCode code
  pub format : (unit serial : ℕ) (kind : DriveKind) → command ≡ Some (FormatPack unit kind serial) → IsFormatCode code
  pub transfer : (transfer : Transfer) → command ≡ Some (TransferBytes transfer) → IsTransferCode transfer code
