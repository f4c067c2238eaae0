use Rattle.std.proofs.Common.{◌+◌, ◌<◌, ◌∙◌, ap, arith}
use Rattle.disksort.specs.declared.Waiter.{Waiter}
use Rattle.disksort.specs.SortQueue.{cylinder_of}
use Rattle.trace_replay.proofs.requests.ServiceOrderLaws.{length-queue_with, All-queue_with}
use Rattle.drive_rows.proofs.queue.queue_with_all.Goals as goal

pub loop-number-preserved : goal.loop-number-preserved
loop-number-preserved c = rw c.insert.ensures (record {
  count = length-queue_with cylinder_of _ c.loop-number.queue.waiting ∙ ap (λ n. n + 1) c.loop-number.invariant.count;
  capacity = c.loop-number.invariant.capacity;
  cylinders = c.loop-number.invariant.cylinders;
  numbers =
      All-queue_with (λ (w : Waiter). w.number < c.loop-number.number + 1) cylinder_of _ c.loop-number.queue.waiting (omega arith)
      (λ k d lt. omega (arith, c.loop-number.invariant.numbers k d lt));
})
