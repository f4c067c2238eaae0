use Rattle.std.proofs.Common.{◌≡◌}
use Rattle.picture_svg.proofs.tips.put_sentences.Given as goal

abbrev pub invariant-loop-sentence : goal.invariant-loop-sentence
invariant-loop-sentence l = l.out ≡ l.initial.out
