use Rattle.std.proofs.lemmas.Result.{on_ok_weaker}
use Rattle.picture_chart.specs.Pages.{legend}
use Rattle.picture_chart.proofs.Growing.{four_more}
use Rattle.picture_chart.proofs.page.put_letters.Goals as goal

pub returns : goal.returns
unfolding legend
returns c =
    on_ok_weaker c.put_line-4.result
    (four_more c.args.page.now.items c.put_line.new.page.items c.put_line-2.new.page.items c.put_line-3.new.page.items
    c.put_line-4.new.page.items c.new.result _ c.legend_line.result _ c.legend_line-2.result _ c.legend_line-3.result _
    c.new.ensures c.legend_line.ensures c.legend_line-2.ensures c.legend_line-3.ensures
    c.in_ok-put_line.ensures c.in_ok-put_line-2.ensures c.in_ok-put_line-3.ensures)
    c.put_line-4.ensures
