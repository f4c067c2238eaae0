use Rattle.std.proofs.Common.{sym, ◌∙◌}
use Rattle.trace_reader.proofs.WordLaws.{words_at, words_none}
use Rattle.trace_reader.proofs.words.cut.Goals as goal

pub returns-in-Some : goal.returns-in-Some
returns-in-Some c = words_at c.args.text.now c.in-Some.at (sym c.first_blank.ensures ∙ c.in-Some.is)

pub returns-in-None : goal.returns-in-None
returns-in-None c = words_none c.args.text.now (sym c.first_blank.ensures ∙ c.in-None.is)
