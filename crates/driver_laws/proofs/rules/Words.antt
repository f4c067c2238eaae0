-- The lines that count as commands are told as `cmd`, and the event lines by their four words.
use Rattle.std.proofs.Common.{rules}
use Rattle.driver_laws.specs.rules.Commands.{AreToldAsCommands}

pub told_as_commands : AreToldAsCommands
told_as_commands other = search rules
