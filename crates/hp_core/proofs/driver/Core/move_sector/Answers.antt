use Rattle.std.proofs.Common.{◌≡◌, ◌<◌, ◌^◌, ℕ, IsSome, sym, ap, ◌∙◌, subst}
use Rattle.hardware_table.specs.Adapter.{AdapterState, next_block}
use Rattle.driver_machine.specs.World.{unit_at, adapter_at, adapter_of, slot_at}
use Rattle.request_slots.specs.Steps.{MayStep}
use Rattle.hp_core.proofs.Deeds.{there, adapter_there, has_unit}
use Rattle.hp_core.proofs.Places.{adapter_state}
use Rattle.hp_core.proofs.Serving.{can_move_is, served_its}
use Rattle.hp_core.proofs.Tries.{hand_in, way, moves_none, moves_told, moves_stopped, named_in}
use Rattle.hp_core.proofs.driver.Core.move_sector.Given.{Over}
use Rattle.hp_core.proofs.driver.Core.move_sector.Goals as goal

pub returns-then-not-moves : goal.returns-then-not-moves
returns-then-not-moves g c = moves_none _ _ _ _ _ _ _ _ _ _ _ _ _ _ (sym c.if-not-moves.ensures) c.nothing.ensures

pub transferring-u-requires : goal.transferring-u-requires
transferring-u-requires g c = record {
  sound = c.requires.sound;
  adapter = c.requires.adapter;
  busy = (can_move_is c.args.self.now.world c.args.a (sym c.if-not-moves.ensures)).0;
}

pub hand-slot-requires-clause-unit : goal.hand-slot-requires-clause-unit
hand-slot-requires-clause-unit g c = there _ c.args.line _ _ c.requires.sound (hand_in c.args.self.now.world c.args.a c.transferring-u.result c.requires.sound (sym c.if-not-moves.ensures) c.transferring-u.ensures.unit)

pub hand-slot-requires-clause-some : goal.hand-slot-requires-clause-some
hand-slot-requires-clause-some g c = (hand_in c.args.self.now.world c.args.a c.transferring-u.result c.requires.sound (sym c.if-not-moves.ensures) c.transferring-u.ensures.unit).some

pub asked-id-requires : goal.asked-id-requires
asked-id-requires g c = subst (λ (p : ℕ). IsSome (slot_at c.args.self.now.world p)) (sym c.hand-slot.ensures) (way c.args.self.now.world c.args.a c.transferring-u.result c.requires.sound (sym c.if-not-moves.ensures) c.transferring-u.ensures.unit c.args.line).may.there

-- the adapter that is looked at is that of the unit
adapter_is : (g : Over) (c : goal.After-behind-self g) → c.behind-self.inside.adapter ≡ (adapter_at c.args.self.now.world (adapter_of c.transferring-u.result)).state
adapter_is g c =
    let can = can_move_is c.args.self.now.world c.args.a (sym c.if-not-moves.ensures) in
    adapter_state _ _ _ (adapter_of c.transferring-u.result) _ _ c.self.view_is
    (c.from.ensures ∙ sym (served_its c.args.self.now.world c.args.a c.transferring-u.result c.requires.sound can.0 c.transferring-u.ensures.unit))
    (adapter_there _ c.args.line _ _ c.requires.sound (hand_in c.args.self.now.world c.args.a c.transferring-u.result c.requires.sound (sym c.if-not-moves.ensures) c.transferring-u.ensures.unit)) c.index.ensures c.behind-self.view_is

pub next_block-block-requires : goal.next_block-block-requires
next_block-block-requires g c = subst (λ (s : AdapterState). next_block s < 2 ^ 32) (sym (adapter_is g c)) (way c.args.self.now.world c.args.a c.transferring-u.result c.requires.sound (sym c.if-not-moves.ensures) c.transferring-u.ensures.unit c.args.line).small

pub try_next-requires-clause-there : goal.try_next-requires-clause-there
try_next-requires-clause-there g c = has_unit _ c.args.line _ _ c.requires.sound (hand_in c.args.self.now.world c.args.a c.transferring-u.result c.requires.sound (sym c.if-not-moves.ensures) c.transferring-u.ensures.unit)

pub try_next-requires-clause-may : goal.try_next-requires-clause-may
try_next-requires-clause-may g c =
    subst (λ (p : ℕ). MayStep c.args.self.now.world.slots p (adapter_at c.args.self.now.world (adapter_of c.transferring-u.result)).state (unit_at c.args.self.now.world c.transferring-u.result).drive) (sym c.hand-slot.ensures)
    (way c.args.self.now.world c.args.a c.transferring-u.result c.requires.sound (sym c.if-not-moves.ensures) c.transferring-u.ensures.unit c.args.line).may

pub returns : goal.returns
returns g c =
    let can = can_move_is c.args.self.now.world c.args.a (sym c.if-not-moves.ensures) in
    let at = adapter_state _ _ _ (adapter_of c.transferring-u.result) _ _ c.self.view_is
    (c.from.ensures ∙ sym (served_its c.args.self.now.world c.args.a c.transferring-u.result c.requires.sound can.0 c.transferring-u.ensures.unit))
    (adapter_there _ c.args.line _ _ c.requires.sound (hand_in c.args.self.now.world c.args.a c.transferring-u.result c.requires.sound (sym c.if-not-moves.ensures) c.transferring-u.ensures.unit)) c.index.ensures c.behind-self.view_is in
    moves_told _ _ _ _ _ _ _ _ _ _ _ _ _ _ c.requires.sound (sym c.if-not-moves.ensures) c.transferring-u.ensures.unit c.try_next.new.self _ _ _ _ c.in-Ok.verdict
    (named_in c.args.self.now.world _ _ _ c.asked-id.ensures c.hand-slot.ensures) (c.next_block-block.ensures ∙ ap (λ (s : AdapterState). next_block s) at) c.in-Ok.ensures c.tell_sector.ensures

pub returns-in_default : goal.returns-in_default
returns-in_default g c =
    moves_stopped _ _ _ _ _ _ _ c.args.trace.now c.args.trace.now _ _ _ _ _ c.requires.sound (sym c.if-not-moves.ensures) c.transferring-u.ensures.unit _ _ c.in_default.ensures
