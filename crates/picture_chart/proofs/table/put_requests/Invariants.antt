use Rattle.std.proofs.Common.{take}
use Rattle.picture_chart.specs.Pages.{HasRows}
use Rattle.picture_chart.proofs.table.put_requests.Given as goal

abbrev pub invariant-loop-request : goal.invariant-loop-request
invariant-loop-request l = HasRows (take l.request-index l.requests) l.initial.page.items l.page.items
