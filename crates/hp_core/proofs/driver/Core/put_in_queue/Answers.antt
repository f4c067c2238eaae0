use Rattle.std.proofs.Common.{ℕ, ◌≡◌, ◌≢◌, ◌<◌, ◌≤◌, length, true, ap, subst, arith}
use Rattle.driver_machine.specs.Acts.{joined}
use Rattle.driver_machine.specs.Events.{can_arrive}
use Rattle.driver_machine.specs.World.{UnitView, no_held}
use Rattle.hp_core.proofs.Units.{of_unit, row_still, unit_inside}
use Rattle.hp_core.specs.State.{State}
use Rattle.pack_geometry.specs.Geometry.{block_count}
use Rattle.std.specs.Prelude.{All}
use Rattle.hp_core.proofs.driver.Core.put_in_queue.Goals as goal

below : (x n m : ℕ) → x < n → n ≤ m → x < m
below x n m lt le = omega (arith, lt, le)

pub join-requires-clause-declared : goal.join-requires-clause-declared
join-requires-clause-declared c = of_unit _ _ _ _ _ _ c.self.view_is c.from.ensures c.requires.unit c.index_mut.ensures.value (λ (v : UnitView). v.declared ≡ true) c.requires.declared

pub join-requires-clause-room : goal.join-requires-clause-room
join-requires-clause-room c = of_unit _ _ _ _ _ _ c.self.view_is c.from.ensures c.requires.unit c.index_mut.ensures.value (λ (v : UnitView). length v.queue < 16384) (below _ _ _ c.requires.waits (subst (λ (s : State). length s.world.slots ≤ 16384) c.self.view_is c.self.invariant.room.few))

pub join-requires-clause-slot : goal.join-requires-clause-slot
join-requires-clause-slot c = below _ _ _ c.requires.slot (subst (λ (s : State). length s.world.slots ≤ 16384) c.self.view_is c.self.invariant.room.few)

pub join-requires-clause-absent : goal.join-requires-clause-absent
join-requires-clause-absent c = of_unit _ _ _ _ _ _ c.self.view_is c.from.ensures c.requires.unit c.index_mut.ensures.value (λ (v : UnitView). All (λ w. w.number ≢ c.args.slot) v.queue) c.requires.absent

pub join-requires-clause-inside : goal.join-requires-clause-inside
join-requires-clause-inside c = of_unit _ _ _ _ _ _ c.self.view_is c.from.ensures c.requires.unit c.index_mut.ensures.value (λ (v : UnitView). c.args.first < block_count v.drive.kind) c.requires.below

pub invariant_of-self : goal.invariant_of-self
invariant_of-self c = record { positions = row_still _ _ _ _ _ _ c.self.view_is c.from.ensures c.requires.unit c.index_mut.ensures.value _ _ c.self.invariant.positions (ap can_arrive c.join.ensures); room = c.self.invariant.room }

pub returns : goal.returns
returns c = unit_inside _ _ _ _ _ _ c.self.view_is c.from.ensures c.requires.unit c.index_mut.ensures.value _ (joined c.args.slot (record no_held { first = c.args.first })) c.join.ensures
