use Rattle.std.proofs.Common.{◌∙◌, arith}
use Rattle.std.specs.String.{string_bytes}
use Rattle.pack_commands.proofs.WordLaws.{formats, formats_none}
use Rattle.pack_commands.proofs.words.pack_command.Goals as goal

pub returns-in-empty : goal.returns-in-empty
returns-in-empty c = record {
  named = c.format_command.ensures.named ∙ formats string_bytes c.args.unit.now c.args.kind.now c.args.serial.now c.args.rest.now (omega arith);
  valid = c.format_command.ensures.valid;
}

pub returns-in-len1-up : goal.returns-in-len1-up
returns-in-len1-up c = record {
  named = formats_none string_bytes c.args.unit.now c.args.kind.now c.args.serial.now c.args.rest.now (omega arith);
  valid = tt;
}
