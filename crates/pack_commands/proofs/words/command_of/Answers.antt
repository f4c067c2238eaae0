use Rattle.std.proofs.Common.{◌∙◌, arith}
use Rattle.std.specs.String.{string_bytes}
use Rattle.pack_commands.proofs.WordLaws.{behind, four, lone, three, two}
use Rattle.pack_commands.proofs.words.command_of.Goals as goal

pub returns-in-len1 : goal.returns-in-len1
returns-in-len1 c = record {
  named = c.lone_command.ensures.named
      ∙ lone string_bytes _ c.args.words.now c.word-item.result (omega (arith, c.in-len1.len_at_least)) (omega (arith, c.in-len1.len_below)) c.word-item.is c.as_str.ensures.value;
  valid = c.lone_command.ensures.valid;
}

pub returns-in-len2 : goal.returns-in-len2
returns-in-len2 c = record {
  named = c.numbered_command.ensures.named
      ∙ two string_bytes _ _ c.args.words.now c.word-item-then-words-lt3.result c.number-item.result (omega (arith, c.in-len2.len_at_least)) (omega (arith, c.in-len2.len_below))
      c.word-item-then-words-lt3.is c.number-item.is c.as_str-in-len2.ensures.value c.as_str-in-len2-2.ensures.value;
  valid = c.numbered_command.ensures.valid;
}

pub returns-in-len3 : goal.returns-in-len3
returns-in-len3 c = record {
  named = c.dump_command.ensures.named
      ∙ three string_bytes _ _ _ c.args.words.now c.word-item-then-words-lt4.result c.unit-item.result c.kind-item.result
      (omega (arith, c.in-len3.len_at_least)) (omega (arith, c.in-len3.len_below))
      c.word-item-then-words-lt4.is c.unit-item.is c.kind-item.is c.as_str-in-len3.ensures.value c.as_str-in-len3-2.ensures.value c.as_str-in-len3-3.ensures.value;
  valid = c.dump_command.ensures.valid;
}

pub returns-in-len4-up : goal.returns-in-len4-up
returns-in-len4-up c = record {
  named = c.long_command.ensures.named
      ∙ four string_bytes _ _ _ _ c.args.words.now _ c.tool-item.result c.verb-item.result c.unit-item-2.result c.kind-item-2.result (omega (arith, c.in-len4-up.len_at_least))
      c.tool-item.is c.verb-item.is c.unit-item-2.is c.kind-item-2.is (behind 4 c.args.words.now)
      c.as_str-in-len4-up.ensures.value c.as_str-in-len4-up-2.ensures.value c.as_str-in-len4-up-3.ensures.value c.as_str-in-len4-up-4.ensures.value;
  valid = c.long_command.ensures.valid;
}
