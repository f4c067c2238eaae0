use Rattle.std.proofs.Common.{◌<◌, ◌≢◌, List, ap, refl, arith}
use Rattle.disksort.specs.declared.Waiter.{Waiter}
use Rattle.disksort.specs.Runs.{seen}
use Rattle.disksort.proofs.Kept.{from_all}
use Rattle.disksort.proofs.KeptJoins.{last-ready, ready-second, ready-first, joined-second, joined-first}
use Rattle.disksort.proofs.SortQueue.insert.Goals as goal

pub append-requires-clause-inside : goal.append-requires-clause-inside
append-requires-clause-inside c =
    let q = c.self.inside in
    let room : q.count < q.capacity = omega (arith, c.self.invariant.counted, rw (← c.self.view_is) at c.requires.room) in
    λ on. last-ready q.capacity (seen q.second) (seen q.first) q.behind.items c.args.cylinder q.cylinders c.args.number
    (ready-second (seen q.first) (seen q.second) q.behind.items q.count q.capacity q.cylinders c.args.number c.args.cylinder c.self.invariant
    (rw (← c.self.view_is) at c.requires.cylinder) room (from_all (λ w. w.number ≢ c.args.number) _ (rw (← c.self.view_is) at c.requires.absent))) on

pub append-requires-2-clause-inside : goal.append-requires-2-clause-inside
append-requires-2-clause-inside c =
    let q = c.self.inside in
    let room : q.count < q.capacity = omega (arith, c.self.invariant.counted, rw (← c.self.view_is) at c.requires.room) in
    λ on. last-ready q.capacity (seen q.first) (seen q.second) q.behind.items c.args.cylinder q.cylinders c.args.number
    (ready-first (seen q.first) (seen q.second) q.behind.items q.count q.capacity q.cylinders c.args.number c.args.cylinder c.self.invariant
    (rw (← c.self.view_is) at c.requires.cylinder) room (from_all (λ w. w.number ≢ c.args.number) _ (rw (← c.self.view_is) at c.requires.absent))) on

pub invariant_of-self : goal.invariant_of-self
invariant_of-self c =
    let q = c.self.inside in
    let h = c.if-joins_second.ensures.second refl in
    let room : q.count < q.capacity = omega (arith, c.self.invariant.counted, rw (← c.self.view_is) at c.requires.room) in
    (joined-second (seen q.first) (seen q.second) (seen c.append.new.self) q.behind.items c.append.new.behind.items q.count q.capacity q.cylinders c.args.number c.args.cylinder
    h.0 c.self.invariant h.1 h.2 (rw (← c.self.view_is) at c.requires.cylinder) (rw (← c.self.view_is) at c.requires.number) room
    (from_all (λ w. w.number ≢ c.args.number) _ (rw (← c.self.view_is) at c.requires.absent)) c.append.ensures.run c.append.ensures.behind).kept

pub returns-then-joins_second : goal.returns-then-joins_second
returns-then-joins_second c =
    let q = c.self.inside in
    let h = c.if-joins_second.ensures.second refl in
    let room : q.count < q.capacity = omega (arith, c.self.invariant.counted, rw (← c.self.view_is) at c.requires.room) in
    rw (← c.self.view_is)
    (ap (λ (l : List Waiter). record { waiting = l; capacity = q.capacity; cylinders = q.cylinders })
    (joined-second (seen q.first) (seen q.second) (seen c.append.new.self) q.behind.items c.append.new.behind.items q.count q.capacity q.cylinders c.args.number c.args.cylinder
    h.0 c.self.invariant h.1 h.2 (rw (← c.self.view_is) at c.requires.cylinder) (rw (← c.self.view_is) at c.requires.number) room
    (from_all (λ w. w.number ≢ c.args.number) _ (rw (← c.self.view_is) at c.requires.absent)) c.append.ensures.run c.append.ensures.behind).queue)

pub invariant_of-self-2 : goal.invariant_of-self-2
invariant_of-self-2 c =
    let q = c.self.inside in
    let room : q.count < q.capacity = omega (arith, c.self.invariant.counted, rw (← c.self.view_is) at c.requires.room) in
    (joined-first (seen q.first) (seen q.second) (seen c.append-2.new.self) q.behind.items c.append-2.new.behind.items q.count q.capacity q.cylinders c.args.number c.args.cylinder
    c.self.invariant (c.if-joins_second.ensures.first refl) (rw (← c.self.view_is) at c.requires.cylinder) (rw (← c.self.view_is) at c.requires.number) room
    (from_all (λ w. w.number ≢ c.args.number) _ (rw (← c.self.view_is) at c.requires.absent)) c.append-2.ensures.run c.append-2.ensures.behind).kept

pub returns : goal.returns
returns c =
    let q = c.self.inside in
    let room : q.count < q.capacity = omega (arith, c.self.invariant.counted, rw (← c.self.view_is) at c.requires.room) in
    rw (← c.self.view_is)
    (ap (λ (l : List Waiter). record { waiting = l; capacity = q.capacity; cylinders = q.cylinders })
    (joined-first (seen q.first) (seen q.second) (seen c.append-2.new.self) q.behind.items c.append-2.new.behind.items q.count q.capacity q.cylinders c.args.number c.args.cylinder
    c.self.invariant (c.if-joins_second.ensures.first refl) (rw (← c.self.view_is) at c.requires.cylinder) (rw (← c.self.view_is) at c.requires.number) room
    (from_all (λ w. w.number ≢ c.args.number) _ (rw (← c.self.view_is) at c.requires.absent)) c.append-2.ensures.run c.append-2.ensures.behind).queue)
