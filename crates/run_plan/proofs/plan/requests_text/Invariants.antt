use Rattle.std.proofs.Common.{◌≡◌, fold, take}
use Rattle.run_plan.specs.Rows.{names, with_row}
use Rattle.run_plan.proofs.plan.requests_text.Given as goal

abbrev pub invariant-loop-request : goal.invariant-loop-request
invariant-loop-request l = l.out.items ≡ fold with_row names (take l.request-index l.plan.rows.items)
