-- What is known of a unit that speaks, of its request in hand, and of its adapter.
use Rattle.std.proofs.Common.{◌≡◌, ℕ, ◌+◌, ◌<◌, ◌≤◌, Bool, true, false, List, [], length, Some, sym, ap, subst, arith, ◌∙◌, rules}
use Rattle.std.proofs.lemmas.List.Elements.{Contains-get_or}
use Rattle.std.specs.Prelude.{slice_index_or}
use Rattle.pack_geometry.specs.Geometry.{limit_of}
use Rattle.disksort.specs.declared.Waiter.{Waiter}
use Rattle.trace_replay.specs.Service.{ServiceMay}
use Rattle.trace_replay.specs.Replay.{Replay, at_unit}
use Rattle.driver_machine.specs.World.{World, Held, adapter_of, unit_at, adapter_at, slot_at, held_in, slot_in_hand}
use Rattle.driver_machine.specs.Guards.{InHand}
use Rattle.driver_machine.specs.Sound.{Sound, UnitOk, AdapterOk, SlotOk, IsOutstanding}
use Rattle.driver_laws.specs.shown.Shows.{IsUnitSeen, IsAdapterSeen}
use Rattle.driver_laws.proofs.shown.Core.{Core, IsHead, core_of, head_is}
use Rattle.driver_laws.proofs.invariant.Frame.{held_is, adapter_of-small}
use Rattle.driver_laws.proofs.shown.Showing.{Shows}

pub record At (u id : ℕ) (w : World) (s : Replay) : Type 0 where
  pub small : adapter_of u < 4
  pub ok : UnitOk w u (unit_at w u)
  pub adapter_ok : AdapterOk w (adapter_of u) (adapter_at w (adapter_of u))
  pub seen : IsUnitSeen (held_in w) (unit_at w u) (adapter_at w (adapter_of u)).state (s.units u)
  pub core : Core (held_in w (slot_in_hand (unit_at w u))) (unit_at w u) (adapter_at w (adapter_of u)).state (s.units u)
  pub head : IsHead (held_in w (slot_in_hand (unit_at w u))) (unit_at w u).drive.kind (s.units u)
  pub adapter : IsAdapterSeen (adapter_at w (adapter_of u)).state (at_unit s u).state
  pub there : slot_at w (slot_in_hand (unit_at w u)) ≡ Some (held_in w (slot_in_hand (unit_at w u)))
  pub slot : SlotOk w (slot_in_hand (unit_at w u)) (held_in w (slot_in_hand (unit_at w u)))
  pub unit : (held_in w (slot_in_hand (unit_at w u))).unit ≡ u
  pub going : (held_in w (slot_in_hand (unit_at w u))).ended ≡ false
  pub service : ServiceMay (s.units u).service id

pub some_one : {g h : Held} → Some g ≡ Some h → g ≡ h
some_one e = grind (arith, e)

pub set_up : (b : Bool) (queue : List Waiter) → (b ≡ false → queue ≡ []) → 0 < length queue → b ≡ true
set_up b queue none some = search rules

pub at_facts : (u id : ℕ) (w : World) (s : Replay) → Sound w → Shows u w s → InHand w u id → At u id w s
at_facts u id w s sound shows hand =
    let small : adapter_of u < 4 = adapter_of-small u hand.unit in
    let ok : UnitOk w u (unit_at w u) = sound.each_unit u hand.unit in
    let is : held_in w (slot_in_hand (unit_at w u)) ≡ hand.held = held_is w (slot_in_hand (unit_at w u)) hand.held hand.slot in
    let there : slot_at w (slot_in_hand (unit_at w u)) ≡ Some (held_in w (slot_in_hand (unit_at w u))) = hand.slot ∙ ap Some (sym is) in
    let out : IsOutstanding w u (slice_index_or (unit_at w u).queue 0 (record { number = 0; cylinder = 0 })) =
    ok.queue _ (Contains-get_or (unit_at w u).queue 0 (record { number = 0; cylinder = 0 }) hand.some) in
    let one : out.held ≡ held_in w (slot_in_hand (unit_at w u)) = some_one (sym out.slot ∙ there) in
    let seen : IsUnitSeen (held_in w) (unit_at w u) (adapter_at w (adapter_of u)).state (s.units u) =
    shows.units u (record { unit = hand.unit; declared = set_up (unit_at w u).declared (unit_at w u).queue ok.undeclared hand.some }) in
    let head : IsHead (held_in w (slot_in_hand (unit_at w u))) (unit_at w u).drive.kind (s.units u) =
    head_is (held_in w) (unit_at w u) (adapter_at w (adapter_of u)).state (s.units u) seen hand.some in
    record {
      small = small;
      ok = ok;
      adapter_ok = sound.each_adapter (adapter_of u) small;
      seen = seen;
      core = core_of (held_in w) (unit_at w u) (adapter_at w (adapter_of u)).state (s.units u) seen;
      head = head;
      adapter = shows.adapters (adapter_of u) small;
      there = there;
      slot = sound.each_slot (slot_in_hand (unit_at w u)) (held_in w (slot_in_hand (unit_at w u))) there;
      unit = ap (λ (h : Held). h.unit) (sym one) ∙ out.unit;
      going = ap (λ (h : Held). h.ended) (sym one) ∙ out.going_on;
      service = rw head.head (ap Some (sym head.is.id ∙ ap (λ (h : Held). h.id) is ∙ hand.named));
    }

-- the blocks that it asks for lie on the pack
pub inside_limit : (u id : ℕ) (w : World) (s : Replay) → At u id w s
    → (held_in w (slot_in_hand (unit_at w u))).first < limit_of (unit_at w u).drive.kind
inside_limit u id w s at =
    let inside : (held_in w (slot_in_hand (unit_at w u))).first + (held_in w (slot_in_hand (unit_at w u))).loan.count ≤ limit_of (unit_at w u).drive.kind =
    subst (λ x. (held_in w (slot_in_hand (unit_at w u))).first + (held_in w (slot_in_hand (unit_at w u))).loan.count ≤ limit_of (unit_at w x).drive.kind)
    at.unit at.slot.inside in
    below_sum inside at.slot.loan.shape.some
  where
    below_sum : {m n k : ℕ} → m + n ≤ k → 1 ≤ n → m < k
    below_sum less some = omega (arith, less, some)
