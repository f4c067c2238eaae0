use Rattle.std.proofs.Common.{map, sym, ◌∙◌, arith}
use Rattle.std.specs.String.{string_bytes}
use Rattle.pack_commands.proofs.WordLaws.{added, fresh, fresh_more, not_added}
use Rattle.pack_commands.proofs.words.worded_command.Goals as goal

pub returns-then-eq : goal.returns-then-eq
returns-then-eq c = record {
  named = c.add_command.ensures.named ∙ added c.args.verb.now c.args.unit.now c.args.kind.now c.args.word.now (map string_bytes c.args.more.now) (sym c.eq.ensures ∙ c.if-eq.true);
  valid = c.add_command.ensures.valid;
}

pub returns-in-len1-up : goal.returns-in-len1-up
returns-in-len1-up c = record {
  named = fresh_more string_bytes c.args.verb.now c.args.unit.now c.args.kind.now c.args.word.now c.args.more.now (omega (arith, c.in-len1-up.len_at_least))
      ∙ not_added c.args.verb.now c.args.unit.now c.args.kind.now c.args.word.now (map string_bytes c.args.more.now) (sym c.eq.ensures ∙ c.if-eq.false);
  valid = tt;
}

pub returns-in-empty : goal.returns-in-empty
returns-in-empty c = record {
  named = c.serial_command.ensures.named
      ∙ fresh string_bytes c.args.verb.now c.args.unit.now c.args.kind.now c.args.word.now c.args.more.now (omega arith)
      ∙ not_added c.args.verb.now c.args.unit.now c.args.kind.now c.args.word.now (map string_bytes c.args.more.now) (sym c.eq.ensures ∙ c.if-eq.false);
  valid = c.serial_command.ensures.valid;
}
