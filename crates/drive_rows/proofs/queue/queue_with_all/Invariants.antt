use Rattle.std.proofs.Common.{◌≡◌, ◌<◌, All, length}
use Rattle.drive_rows.proofs.queue.queue_with_all.Given as goal

-- as many wait as have joined, with the numbers so far
abbrev pub invariant-loop-number : goal.invariant-loop-number
invariant-loop-number l = record {
  count : length l.queue.waiting ≡ l.number;
  capacity : l.queue.capacity ≡ 8;
  cylinders : l.queue.cylinders ≡ 815;
  numbers : All (λ w. w.number < l.number) l.queue.waiting;
}
