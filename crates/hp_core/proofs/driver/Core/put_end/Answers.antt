use Rattle.std.proofs.Common.{refl, sym, ap, subst}
use Rattle.request_slots.specs.Queues.{AnswerQueue}
use Rattle.driver_machine.specs.Events.{can_arrive}
use Rattle.hp_core.specs.State.{HasRoom}
use Rattle.hp_core.proofs.Rooms.{room_end}
use Rattle.hp_core.proofs.Units.{row_still}
use Rattle.hp_core.proofs.driver.Core.put_end.Goals as goal

pub invariant_of-self : goal.invariant_of-self
invariant_of-self c = record {
  positions = row_still _ _ _ _ _ _ c.self.view_is c.from.ensures c.requires.hand.unit c.index_mut.ensures.value _ _ c.self.invariant.positions (ap can_arrive c.end.ensures);
  room = subst (λ (q : AnswerQueue). HasRoom c.end-2.new.self q.made q.most) (sym c.push.ensures) (room_end _ _ _ _ _ _ _ c.self.invariant.room c.end-2.ensures refl);
}
