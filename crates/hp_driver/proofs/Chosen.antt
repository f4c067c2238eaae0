-- The first unit of an adapter that is free gets what is due for its transfer command.
use Rattle.std.proofs.Common.{◌≡◌, inr, ℕ, ◌<◌, true, false, ◌∷◌, length, drop, refl, sym, ap, ◌∙◌, subst}
use Rattle.driver_machine.specs.declared.Task.{Task}
use Rattle.driver_machine.specs.declared.Phase.{Phase}
use Rattle.driver_machine.specs.declared.Phase.TheVariants.{Queued, Due}
use Rattle.driver_machine.specs.World.{World, UnitView, unit_at, adapter_at, adapter_of, slot_in_hand}
use Rattle.driver_machine.specs.Acts as deed
use Rattle.driver_machine.specs.Acts.{Of, Deed, Scene, effect, scene_of, after}
use Rattle.driver_machine.specs.Due.{command_of}
use Rattle.driver_machine.specs.Guards.{May, IsChosen, Allowed}
use Rattle.driver_machine.specs.Sound.{Sound, is_waiting}
use Rattle.driver_machine.proofs.DueFacts.{chosen_facts, false_true}
use Rattle.driver_machine.proofs.Until.{own_unit}
use Rattle.driver_laws.proofs.invariant.Deeds.{in_hand_is}
use Rattle.driver_machine.specs.Free.{needs_free}
use Rattle.hp_driver.specs.Free.{IsFree}
use Rattle.hp_driver.specs.Hand.{hand_at}
use Rattle.driver_machine.proofs.Dues.{IsDue}

not_queued : (phase : Phase) (task : Task) → phase ≡ Due task → phase ≡ Queued → ⊥
not_queued phase task due queued = absurd (cc)

may_by : (u : ℕ) (d : Deed) (s : Scene) → IsDue s.unit s.held d → IsChosen u d s → May u d s
may_by u deed.Arrive s due chosen = absurd due
may_by u (deed.Sector block tried) s due chosen = absurd due
may_by u (deed.Intr moved last) s due chosen = absurd due
may_by u (deed.Attn taken) s due chosen = absurd due
may_by u (deed.Move write segment) s due chosen = (inr chosen, chosen.free)
may_by u other s due chosen = inr chosen

-- behind it no transfer command comes without a choice
free_by : (line u p : ℕ) (d : Deed) (s : Scene) → IsDue s.unit s.held d → s.unit.phase ≡ Queued → needs_free (effect line u p d s).unit.phase ≡ true → ⊥
free_by line u p deed.Pack s due queued needs = false_true (sym (ap needs_free queued) ∙ needs)
free_by line u p (deed.Dclr moved last) s due queued needs = not_queued s.unit.phase _ due queued
free_by line u p deed.Rtc s due queued needs = false_true (sym (ap needs_free queued) ∙ needs)
free_by line u p (deed.Repair moved at pattern) s due queued needs = not_queued s.unit.phase _ due.phase queued
free_by line u p (deed.Forward moved index) s due queued needs = not_queued s.unit.phase _ due.0.phase queued
free_by line u p (deed.Continue moved) s due queued needs = not_queued s.unit.phase _ due.0.phase queued
free_by line u p (deed.Try moved block number next) s due queued needs = not_queued s.unit.phase _ due.2.phase queued
free_by line u p deed.Arrive s due queued needs = absurd due
free_by line u p (deed.Sector block tried) s due queued needs = absurd due
free_by line u p (deed.Intr moved last) s due queued needs = absurd due
free_by line u p (deed.Attn taken) s due queued needs = absurd due
free_by line u p other s due queued needs = false_true needs

module _ (w : World) (line u id : ℕ) (named : id ≡ (hand_at w u).id) (sound : Sound w) (lt : u < 32) (queued : (unit_at w u).phase ≡ Queued) where
  pub asked_some : 0 < length (unit_at w u).queue
  asked_some = (sound.each_unit u lt).head (ap is_waiting queued)

  pub may_chosen : (adapter_at w (adapter_of u)).queue ≡ u ∷ drop 1 (adapter_at w (adapter_of u)).queue → (adapter_at w (adapter_of u)).state.busy ≡ false
      → Allowed w (Of line u id (command_of (unit_at w u) (hand_at w u)))
  may_chosen first idle =
      let chosen : IsChosen u (command_of (unit_at w u) (hand_at w u)) (scene_of w u) = record { phase = queued; first = first; free = idle; due = refl } in
      subst (λ (i : ℕ). Allowed w (Of line u i (command_of (unit_at w u) (hand_at w u)))) (sym named)
      (in_hand_is w u sound lt asked_some, may_by u (command_of (unit_at w u) (hand_at w u)) (scene_of w u) (chosen_facts (unit_at w u) (hand_at w u) queued) chosen)

  pub chosen_free : IsFree (after w (Of line u id (command_of (unit_at w u) (hand_at w u)))) u
  chosen_free = λ needs. absurd (free_by line u (slot_in_hand (unit_at w u)) (command_of (unit_at w u) (hand_at w u)) (scene_of w u)
      (chosen_facts (unit_at w u) (hand_at w u) queued) queued
      (sym (ap (λ (v : UnitView). needs_free v.phase) (own_unit w u (slot_in_hand (unit_at w u))
      (effect line u (slot_in_hand (unit_at w u)) (command_of (unit_at w u) (hand_at w u)) (scene_of w u)) (subst (λ (n : ℕ). u < n) (sym sound.units) lt))) ∙ needs))
