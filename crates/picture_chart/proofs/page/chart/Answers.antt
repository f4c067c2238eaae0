use Rattle.picture_chart.proofs.Growing.{both_ok, chart_of}
use Rattle.picture_chart.proofs.page.chart.Goals as goal

pub returns : goal.returns
returns c =
    both_ok c.text_of.result _ _ _ (λ text is chart.
    chart_of c.args.sheet.now c.sentences.result c.as_slice.result.now c.in_ok-shown.shown.listed.items c.in_ok-page.page.items
    c.put_panels.new.page.items c.put_names.new.page.items c.put_requests.new.page.items c.put_left_out.new.page.items
    c.put_letters.new.page.items c.put_texts.new.page.items c.as_slice-2.result.now c.in_ok-shown.shown.count c.left_out.result text.items
    c.sentences.ensures c.in_ok-page.ensures c.in_ok-put_panels.ensures c.in_ok-put_names.ensures c.as_slice.ensures.value
    c.in_ok-shown.ensures.listed c.in_ok-put_requests.ensures c.in_ok-shown.ensures.count c.left_out.ensures c.in_ok-put_left_out.ensures
    c.in_ok-put_letters.ensures c.in_ok-put_texts.ensures c.as_slice-2.ensures.value is chart)
    c.text_of.ensures.text c.text_of.ensures.chart
