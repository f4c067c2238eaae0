use Rattle.picture_chart.proofs.Growing.{rows_more}
use Rattle.picture_chart.proofs.table.put_requests.Goals as goal

pub loop-request-preserved : goal.loop-request-preserved
loop-request-preserved c =
    rows_more c.args.requests.now c.loop-request.request-index _ c.args.page.now.items c.loop-request.page.items c.put_line.new.page.items
    c.request_line-line.result c.loop-request-test.true c.loop-request.invariant c.request_line-line.ensures c.in_ok-put_line.ensures
