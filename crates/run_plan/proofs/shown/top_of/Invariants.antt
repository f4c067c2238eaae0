use Rattle.std.proofs.Common.{◌≡◌, take, fold}
use Rattle.run_plan.specs.Requests.{with_column, with_request}
use Rattle.run_plan.specs.Window.{arm_before}
use Rattle.run_plan.proofs.shown.top_of.Given as goal

abbrev pub invariant-loop-column : goal.invariant-loop-column
invariant-loop-column l = l.top ≡ fold (with_column l.unit) (arm_before l.sheet l.unit) (take l.column-index l.sheet.run.now.columns)

abbrev pub invariant-loop-request : goal.invariant-loop-request
invariant-loop-request l = l.top ≡ fold (with_request l.sheet l.unit) (fold (with_column l.unit) (arm_before l.sheet l.unit) l.sheet.run.now.columns) (take l.request-index l.sheet.run.now.requests)
