use Rattle.std.proofs.Common.{◌∙◌, arith}
use Rattle.script_lines.proofs.WordLaws.{part_or}
use Rattle.script_lines.proofs.words.part_field.Goals as goal

pub returns : goal.returns
returns c = c.ok_or.ensures.value ∙ part_or c.args.word.now c.part_of.result (omega (arith, c.if-word-ne1.false)) c.part_of.ensures.named
