use Rattle.std.proofs.Common.{arith, ◌∙◌}
use Rattle.std.specs.String.{string_bytes}
use Rattle.command_parts.proofs.WordLaws.{many_words, one_word, three_words, two_words}
use Rattle.command_parts.proofs.words.raw_in.Goals as goal

pub returns-in-len1-clause-named : goal.returns-in-len1-clause-named
returns-in-len1-clause-named c =
    one_word string_bytes c.args.verb.now c.args.unit.now c.args.kind.now c.args.rest.now (omega (arith, c.in-len1.len_at_least)) (omega (arith, c.in-len1.len_below))

pub returns-in-len4-up-clause-named : goal.returns-in-len4-up-clause-named
returns-in-len4-up-clause-named c = many_words string_bytes c.args.verb.now c.args.unit.now c.args.kind.now c.args.rest.now (omega (arith, c.in-len4-up.len_at_least))

pub returns-in-len2 : goal.returns-in-len2
returns-in-len2 c = record {
  named = c.written_in.ensures.named
      ∙ two_words string_bytes c.args.verb.now c.args.unit.now c.args.kind.now _ _ c.args.rest.now c.part-item.result c.at-item.result
      (omega (arith, c.in-len2.len_at_least)) (omega (arith, c.in-len2.len_below)) c.part-item.is c.at-item.is c.as_str.ensures.value c.as_str-in-len2.ensures.value;
  valid = c.written_in.ensures.valid;
}

pub returns-in-len3 : goal.returns-in-len3
returns-in-len3 c = record {
  named = c.sized_in.ensures.named
      ∙ three_words string_bytes c.args.verb.now c.args.unit.now c.args.kind.now _ _ _ c.args.rest.now c.part-item-then-rest-lt4.result c.at-item-then-rest-lt4.result c.size-item.result
      (omega (arith, c.in-len3.len_at_least)) (omega (arith, c.in-len3.len_below)) c.part-item-then-rest-lt4.is c.at-item-then-rest-lt4.is c.size-item.is c.as_str-in-len3.ensures.value c.as_str-in-len3-2.ensures.value c.as_str-in-len3-3.ensures.value;
  valid = c.sized_in.ensures.valid;
}
