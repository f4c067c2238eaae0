use Rattle.std.proofs.Common.{◌∙◌, arith}
use Rattle.std.specs.String.{string_bytes}
use Rattle.pack_commands.proofs.WordLaws.{bare, behind, worded}
use Rattle.pack_commands.proofs.words.tool_command.Goals as goal

pub returns-in-len1-up : goal.returns-in-len1-up
returns-in-len1-up c = record {
  named = c.worded_command.ensures.named
      ∙ worded string_bytes c.args.verb.now c.args.unit.now c.args.kind.now _ c.args.rest.now _ c.word-item.result
      (omega (arith, c.in-len1-up.len_at_least)) c.word-item.is (behind 1 c.args.rest.now) c.as_str.ensures.value;
  valid = c.worded_command.ensures.valid;
}

pub returns-in-empty : goal.returns-in-empty
returns-in-empty c = record {
  named = c.bare_command.ensures.named ∙ bare string_bytes c.args.verb.now c.args.unit.now c.args.kind.now c.args.rest.now (omega arith);
  valid = c.bare_command.ensures.valid;
}
