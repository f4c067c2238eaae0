use Rattle.std.proofs.Common.{List, ap, sym}
use Rattle.std.specs.Prelude.{slice_get}
use Rattle.disksort.specs.declared.Waiter.{Waiter}
use Rattle.disksort.specs.Runs.{seen}
use Rattle.disksort.proofs.Kept.{empty-queue, leaving}
use Rattle.disksort.proofs.SortQueue.head.Goals as goal

pub returns-in_err-cylinder : goal.returns-in_err-cylinder
returns-in_err-cylinder c =
    let q = c.self.inside in
    rw (← c.self.view_is, c.from_residual.ensures)
    (sym (ap (λ (l : List Waiter). slice_get l 0) (empty-queue (seen q.first) (seen q.second) q.behind.items q.count q.capacity q.cylinders c.self.invariant c.in_err-cylinder.ensures.none)))

pub returns : goal.returns
returns c =
    let q = c.self.inside in
    rw (← c.self.view_is, c.first-number.ensures)
    (sym (ap (λ (l : List Waiter). slice_get l 0) (leaving (seen q.first) (seen q.second) q.behind.items q.count q.capacity q.cylinders c.in_ok-cylinder.cylinder c.self.invariant c.in_ok-cylinder.ensures.lowest).queue))
