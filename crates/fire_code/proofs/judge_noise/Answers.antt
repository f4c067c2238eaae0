-- A right word with these places flipped has the places' remainder.
use Rattle.std.proofs.Common.{sym, ap, ◌∙◌, subst}
use Rattle.fire_code.specs.Remainder.{remainder as the_remainder}
use Rattle.fire_code.specs.Verdict.{Judges}
use Rattle.fire_code.proofs.Laws.{right_flipped}
use Rattle.fire_code.proofs.judge_noise.Goals as goal

pub returns-clause-word : goal.returns-clause-word
returns-clause-word c old new check after right flips =
    subst (Judges c.verdict_of.result)
    (c.remainder_of.ensures ∙ ap the_remainder c.places.ensures.value
    ∙ sym (right_flipped c.args.noise.now old check new after c.places.ensures.noise.set right flips))
    c.verdict_of.ensures
