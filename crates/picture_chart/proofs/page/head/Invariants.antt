use Rattle.std.proofs.Common.{◌≡◌, take}
use Rattle.picture_chart.specs.Pages.{head_of}
use Rattle.picture_chart.proofs.page.head.Given as goal

abbrev pub invariant-loop-sentence : goal.invariant-loop-sentence
invariant-loop-sentence l = l.page.items ≡ head_of l.sheet (take l.sentence-index l.sentences)
