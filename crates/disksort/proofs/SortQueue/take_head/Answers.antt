use Rattle.std.proofs.Common.{◌≡◌, List, length, drop, ◌∙◌, ap, sym, refl, arith}
use Rattle.std.specs.Prelude.{slice_get}
use Rattle.disksort.specs.declared.Waiter.{Waiter}
use Rattle.disksort.specs.Buckets.{without_first}
use Rattle.disksort.specs.Runs.{seen}
use Rattle.disksort.proofs.Kept.{empty-queue, leaving, first-inside, left-kept, left-queue, swapped-kept, swapped-queue}
use Rattle.disksort.proofs.SortQueue.take_head.Goals as goal

pub returns-in_err-cylinder-clause-head : goal.returns-in_err-cylinder-clause-head
returns-in_err-cylinder-clause-head c =
    let q = c.self.inside in
    rw (← c.self.view_is, c.from_residual.ensures)
    (sym (ap (λ (l : List Waiter). slice_get l 0) (empty-queue (seen q.first) (seen q.second) q.behind.items q.count q.capacity q.cylinders c.self.invariant c.in_err-cylinder.ensures.none)))

pub returns-in_err-cylinder-clause-rest : goal.returns-in_err-cylinder-clause-rest
returns-in_err-cylinder-clause-rest c =
    let q = c.self.inside in
    let none = empty-queue (seen q.first) (seen q.second) q.behind.items q.count q.capacity q.cylinders c.self.invariant c.in_err-cylinder.ensures.none in
    rw (← c.self.view_is) (ap (λ (l : List Waiter). record { waiting = l; capacity = q.capacity; cylinders = q.cylinders }) (none ∙ sym (ap (drop 1) none)))

pub take_first-number-requires-clause-inside : goal.take_first-number-requires-clause-inside
take_first-number-requires-clause-inside c =
    let q = c.self.inside in
    rw c.as_slice.ensures.value
    (first-inside (seen q.first) (seen q.second) q.behind.items q.count q.capacity q.cylinders c.in_ok-cylinder.cylinder c.self.invariant c.in_ok-cylinder.ensures.lowest)

pub overflow_sub-self : goal.overflow_sub-self
overflow_sub-self c =
    let q = c.self.inside in
    let l = leaving (seen q.first) (seen q.second) q.behind.items q.count q.capacity q.cylinders c.in_ok-cylinder.cylinder c.self.invariant c.in_ok-cylinder.ensures.lowest in
    omega (arith, c.self.invariant.counted, ap (λ (l : List Waiter). length l) l.queue)

pub invariant_of-self : goal.invariant_of-self
invariant_of-self c =
    let q = c.self.inside in
    let left : seen c.take_first-number.new.self ≡ without_first (seen q.first) q.behind.items c.in_ok-cylinder.cylinder =
    c.take_first-number.ensures.run ∙ ap (λ b. without_first (seen q.first) b c.in_ok-cylinder.cylinder) c.as_slice.ensures.value in
    swapped-kept (seen q.first) (seen q.second) (seen c.take_first-number.new.self) (seen c.swap.new.self) (seen c.swap.new.other) q.behind.items q.count q.capacity q.cylinders
    c.in_ok-cylinder.cylinder c.self.invariant c.in_ok-cylinder.ensures.lowest left (c.if-is_empty.ensures.none refl) c.swap.ensures.here c.swap.ensures.there

pub invariant_of-self-else-is_empty : goal.invariant_of-self-else-is_empty
invariant_of-self-else-is_empty c =
    let q = c.self.inside in
    let left : seen c.take_first-number.new.self ≡ without_first (seen q.first) q.behind.items c.in_ok-cylinder.cylinder =
    c.take_first-number.ensures.run ∙ ap (λ b. without_first (seen q.first) b c.in_ok-cylinder.cylinder) c.as_slice.ensures.value in
    let some = c.if-is_empty.ensures.some refl in
    left-kept (seen q.first) (seen q.second) (seen c.take_first-number.new.self) q.behind.items q.count q.capacity q.cylinders c.in_ok-cylinder.cylinder some.0 c.self.invariant
    c.in_ok-cylinder.ensures.lowest left some.1

pub returns-then-is_empty-clause-head : goal.returns-then-is_empty-clause-head
returns-then-is_empty-clause-head c =
    let q = c.self.inside in
    rw (← c.self.view_is, c.take_first-number.ensures.number)
    (sym (ap (λ (l : List Waiter). slice_get l 0)
    (leaving (seen q.first) (seen q.second) q.behind.items q.count q.capacity q.cylinders c.in_ok-cylinder.cylinder c.self.invariant c.in_ok-cylinder.ensures.lowest).queue))

pub returns-else-is_empty-clause-head : goal.returns-else-is_empty-clause-head
returns-else-is_empty-clause-head c =
    let q = c.self.inside in
    rw (← c.self.view_is, c.take_first-number.ensures.number)
    (sym (ap (λ (l : List Waiter). slice_get l 0)
    (leaving (seen q.first) (seen q.second) q.behind.items q.count q.capacity q.cylinders c.in_ok-cylinder.cylinder c.self.invariant c.in_ok-cylinder.ensures.lowest).queue))

pub returns-then-is_empty-clause-rest : goal.returns-then-is_empty-clause-rest
returns-then-is_empty-clause-rest c =
    let q = c.self.inside in
    let left : seen c.take_first-number.new.self ≡ without_first (seen q.first) q.behind.items c.in_ok-cylinder.cylinder =
    c.take_first-number.ensures.run ∙ ap (λ b. without_first (seen q.first) b c.in_ok-cylinder.cylinder) c.as_slice.ensures.value in
    rw (← c.self.view_is)
    (ap (λ (l : List Waiter). record { waiting = l; capacity = q.capacity; cylinders = q.cylinders })
    (swapped-queue (seen q.first) (seen q.second) (seen c.take_first-number.new.self) (seen c.swap.new.self) (seen c.swap.new.other) q.behind.items q.count q.capacity q.cylinders
    c.in_ok-cylinder.cylinder c.self.invariant c.in_ok-cylinder.ensures.lowest left (c.if-is_empty.ensures.none refl) c.swap.ensures.here c.swap.ensures.there))

pub returns-else-is_empty-clause-rest : goal.returns-else-is_empty-clause-rest
returns-else-is_empty-clause-rest c =
    let q = c.self.inside in
    let left : seen c.take_first-number.new.self ≡ without_first (seen q.first) q.behind.items c.in_ok-cylinder.cylinder =
    c.take_first-number.ensures.run ∙ ap (λ b. without_first (seen q.first) b c.in_ok-cylinder.cylinder) c.as_slice.ensures.value in
    rw (← c.self.view_is)
    (ap (λ (l : List Waiter). record { waiting = l; capacity = q.capacity; cylinders = q.cylinders })
    (left-queue (seen q.first) (seen q.second) (seen c.take_first-number.new.self) q.behind.items q.count q.capacity q.cylinders c.in_ok-cylinder.cylinder c.self.invariant
    c.in_ok-cylinder.ensures.lowest left))
