use Rattle.std.proofs.Common.{◌≡◌, take, fold}
use Rattle.run_view.specs.Views.{declared_line}
use Rattle.run_view.proofs.view.declare_all.Given as goal

abbrev pub invariant-lines : goal.invariant-lines
invariant-lines l = l.watch ≡ record l.fn.watch { known = fold declared_line l.fn.watch.known (take l.line-index l.lines) }
