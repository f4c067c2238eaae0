-- The words of the command line, and the text for those that are no command.
use Rattle.std.specs.Prelude.{ℕ, List, [], ◌∷◌, ◌++◌, Option, map, codes, String}
use Rattle.std.specs.declared.alloc.Global.{Global}
use Rattle.std.specs.String.{string_bytes}
use Rattle.pack_commands.specs.declared.words.Command.{Command}
use Rattle.pack_commands.specs.Commands.{command_named}

-- the command that the words name
abbrev pub command_of : List (String Global) → Option Command
command_of words = command_named (map string_bytes words)

unfoldable pub usage_text : List ℕ
usage_text = codes "usage: hpsim play or bad144 list/add/fresh or exercise N" ++ 10 ∷ []
