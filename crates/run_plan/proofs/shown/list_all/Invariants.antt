use Rattle.std.proofs.Common.{◌≡◌, take, fold}
use Rattle.run_plan.specs.Requests.{listed_with}
use Rattle.run_plan.proofs.shown.list_all.Given as goal

abbrev pub invariant-loop-request : goal.invariant-loop-request
invariant-loop-request l = l.listed.items ≡ fold (listed_with l.sheet l.few l.first) l.initial.listed.items (take l.request-index l.sheet.run.now.requests)
