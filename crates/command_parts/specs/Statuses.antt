-- The numbers that the program ends with.
use Rattle.std.specs.Prelude.{ℕ}
use Rattle.command_parts.specs.declared.status.Status.{Status}
use Rattle.command_parts.specs.declared.status.Status.TheVariants.{Done, Usage, Refused, SourceFailed, SinkFailed, PacksFailed, TooLong, ToolRefused, OutOfMemory, TransferRefused, FormatRefused}

abbrev pub status_code : Status → ℕ
status_code Done = 0
status_code Usage = 2
status_code Refused = 3
status_code SourceFailed = 4
status_code SinkFailed = 5
status_code PacksFailed = 6
status_code TooLong = 7
status_code ToolRefused = 8
status_code OutOfMemory = 9
status_code TransferRefused = 10
status_code FormatRefused = 11
