use Rattle.std.proofs.Common.{◌≡◌, ℕ, true, false, sym, ap, ◌∙◌, subst}
use Rattle.std.specs.Prelude.{IsSome}
use Rattle.hardware_table.specs.Adapter.{AdapterState, completed}
use Rattle.request_slots.specs.Ended.{Ended}
use Rattle.request_slots.specs.Loaded.{loaded_buffer}
use Rattle.hp_interrupts.specs.Verdicts.{shows_late}
use Rattle.driver_machine.specs.declared.Phase.TheVariants as phase
use Rattle.driver_machine.specs.World.{World, UnitView, Held, unit_at, adapter_at, slot_at, held_in, slot_in_hand, adapter_of}
use Rattle.driver_machine.specs.Acts.{in_phase, interrupted, with_state}
use Rattle.driver_machine.specs.Events.{can_arrive}
use Rattle.hp_core.proofs.Places.{adapter_state}
use Rattle.hp_core.proofs.Parts.{in_slot, left_by, room_set, state_changed, unit_channel_slot}
use Rattle.hp_core.proofs.Units.{row_still, unit_here}
use Rattle.hp_core.proofs.Deeds.{has_hand, ended}
use Rattle.hp_core.proofs.driver.Core.put_interrupt.Goals as goal

-- what the registers show is judged by the adapter's verdict
judged : (c : goal.After-self-2-1) → c.interrupt.new.self ≡ in_phase (phase.Due (interrupted (adapter_at c.args.self.now.world (adapter_of c.args.u)).state.moved (adapter_at c.args.self.now.world (adapter_of c.args.u)).state.verdict)) c.index_mut-unit.result.now
judged c =
    let own = adapter_state _ _ _ _ _ _ c.self.view_is c.from.ensures (has_hand _ c.args.line _ _ c.requires.sound c.requires.may.0).adapter c.index_mut-channel.ensures.value c.channel.view_is in
    let left = left_by _ _ _ _ (ended _ c.args.line _ _ c.requires.sound _ _ c.requires.may).shown (ap (λ (v : UnitView). v.drive) (unit_here _ _ _ _ _ _ c.self.view_is c.from-2.ensures (has_hand _ c.args.line _ _ c.requires.sound c.requires.may.0).unit c.index_mut-unit.ensures.value))
    (c.shows_late.ensures ∙ ap (λ (e : Ended). shows_late e.last) c.complete-ended.ensures.ended ∙ ap (λ (a : AdapterState). shows_late a.verdict) (adapter_state _ _ _ _ _ _ c.self.view_is c.from.ensures (has_hand _ c.args.line _ _ c.requires.sound c.requires.may.0).adapter c.index_mut-channel.ensures.value c.channel.view_is)) in
    c.interrupt.ensures (adapter_at c.args.self.now.world (adapter_of c.args.u)).state.verdict (c.cause-cause.ensures _ _ _ left)
    ∙ ap (λ (m : ℕ). in_phase (phase.Due (interrupted m (adapter_at c.args.self.now.world (adapter_of c.args.u)).state.verdict)) c.index_mut-unit.result.now)
    (ap (λ (e : Ended). e.moved) c.complete-ended.ensures.ended ∙ ap (λ (a : AdapterState). a.moved) own)

pub complete-ended-requires-clause-there : goal.complete-ended-requires-clause-there
complete-ended-requires-clause-there c = in_slot _ _ _ _ (λ (w : World) (p : ℕ). IsSome (slot_at w p)) c.self.view_is c.hand-slot.ensures (has_hand _ c.args.line _ _ c.requires.sound c.requires.may.0).there

pub complete-ended-requires-clause-bus : goal.complete-ended-requires-clause-bus
complete-ended-requires-clause-bus c = in_slot _ _ _ _ (λ (w : World) (p : ℕ). (held_in w p).on_bus ≡ true) c.self.view_is c.hand-slot.ensures (ended _ c.args.line _ _ c.requires.sound _ _ c.requires.may).bus

pub complete-ended-requires-clause-completion : goal.complete-ended-requires-clause-completion
complete-ended-requires-clause-completion c = subst (λ (a : AdapterState). a.completion ≡ true) (sym (adapter_state _ _ _ _ _ _ c.self.view_is c.from.ensures (has_hand _ c.args.line _ _ c.requires.sound c.requires.may.0).adapter c.index_mut-channel.ensures.value c.channel.view_is)) (ended _ c.args.line _ _ c.requires.sound _ _ c.requires.may).completion

pub complete-ended-requires-clause-loaded : goal.complete-ended-requires-clause-loaded
complete-ended-requires-clause-loaded c =
    in_slot _ _ _ _ (λ (w : World) (p : ℕ). (held_in w p).loan ≡ loaded_buffer c.channel.inside.adapter) c.self.view_is c.hand-slot.ensures
    (subst (λ (a : AdapterState). (held_in c.args.self.now.world (slot_in_hand (unit_at c.args.self.now.world c.args.u))).loan ≡ loaded_buffer a) (sym (adapter_state _ _ _ _ _ _ c.self.view_is c.from.ensures (has_hand _ c.args.line _ _ c.requires.sound c.requires.may.0).adapter c.index_mut-channel.ensures.value c.channel.view_is)) (ended _ c.args.line _ _ c.requires.sound _ _ c.requires.may).loaded)

pub cause-cause-requires : goal.cause-cause-requires
cause-cause-requires c =
    let left = left_by _ _ _ _ (ended _ c.args.line _ _ c.requires.sound _ _ c.requires.may).shown (ap (λ (v : UnitView). v.drive) (unit_here _ _ _ _ _ _ c.self.view_is c.from-2.ensures (has_hand _ c.args.line _ _ c.requires.sound c.requires.may.0).unit c.index_mut-unit.ensures.value))
    (c.shows_late.ensures ∙ ap (λ (e : Ended). shows_late e.last) c.complete-ended.ensures.ended ∙ ap (λ (a : AdapterState). shows_late a.verdict) (adapter_state _ _ _ _ _ _ c.self.view_is c.from.ensures (has_hand _ c.args.line _ _ c.requires.sound c.requires.may.0).adapter c.index_mut-channel.ensures.value c.channel.view_is)) in
    record { left = ((adapter_at c.args.self.now.world (adapter_of c.args.u)).state.verdict, ((ended _ c.args.line _ _ c.requires.sound _ _ c.requires.may).shown.before, ((ended _ c.args.line _ _ c.requires.sound _ _ c.requires.may).shown.block, left))) }

pub invariant_of-self : goal.invariant_of-self
invariant_of-self c = record {
  positions = row_still _ _ _ _ _ _ c.self.view_is c.from-2.ensures (has_hand _ c.args.line _ _ c.requires.sound c.requires.may.0).unit c.index_mut-unit.ensures.value _ _ c.self.invariant.positions (ap can_arrive (judged c));
  room = room_set _ _ _ _ _ _ c.self.invariant.room c.complete-ended.ensures.slots;
}

pub returns : goal.returns
returns c =
    unit_channel_slot _ _ _ _ _ _ _ (in_phase (phase.Due (interrupted (adapter_at c.args.self.now.world (adapter_of c.args.u)).state.moved (adapter_at c.args.self.now.world (adapter_of c.args.u)).state.verdict)))
    _ _ _ _ _ (λ (h : Held). with_state completed) _ _ (λ (h : Held). record h { on_bus = false }) c.self.view_is c.from-2.ensures (has_hand _ c.args.line _ _ c.requires.sound c.requires.may.0).unit c.index_mut-unit.ensures.value (judged c)
    c.from.ensures c.hand-slot.ensures (has_hand _ c.args.line _ _ c.requires.sound c.requires.may.0).adapter c.index_mut-channel.ensures.value
    (state_changed _ _ _ _ completed c.channel.view_is c.complete-ended.ensures.adapter) c.complete-ended.ensures.slots
