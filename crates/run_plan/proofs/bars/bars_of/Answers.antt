use Rattle.std.proofs.Common.{ap, ◌∙◌}
use Rattle.run_plan.specs.Bars.{columns_of}
use Rattle.run_plan.proofs.BarLaws.{bar_more}
use Rattle.run_plan.proofs.bars.bars_of.Goals as goal

pub columns-preserved : goal.columns-preserved
columns-preserved c = record {
  inside = c.end_of_bar-to.ensures.inside;
  so_far = ap columns_of c.in_ok-push.ensures.items
      ∙ bar_more c.args.letters.now c.columns.bars.items c.columns.from c.end_of_bar-to.result c.letter_in-letter.result c.end_of_bar-to.ensures.some
      c.end_of_bar-to.ensures.inside c.end_of_bar-to.ensures.same c.letter_in-letter.ensures c.columns.invariant.so_far;
}
