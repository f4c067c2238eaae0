-- Where an event begins, what is due behind its first act finds the adapter free.
use Rattle.std.proofs.Common.{ℕ, ◌<◌, sym, ap, ◌∙◌, subst}
use Rattle.hardware_table.specs.declared.Moved.{Moved}
use Rattle.driver_machine.specs.World.{World, UnitView, AdapterView, unit_at, slot_in_hand}
use Rattle.driver_machine.specs.Acts.{Of, Intr, Attn, effect, scene_of, after}
use Rattle.driver_machine.specs.Sound.{Sound}
use Rattle.driver_machine.proofs.DueFacts.{false_true}
use Rattle.driver_machine.proofs.Until.{own_unit}
use Rattle.driver_laws.proofs.invariant.Deeds.{own_adapter}
use Rattle.driver_machine.specs.Free.{needs_free}
use Rattle.hp_driver.specs.Free.{IsFree}

module _ (w : World) (line u id : ℕ) (sound : Sound w) (lt : u < 32) where
  -- the data interrupt frees it
  pub interrupt_free : (moved : ℕ) (last : Moved) → IsFree (after w (Of line u id (Intr moved last))) u
  interrupt_free moved last = λ needs. ap (λ (a : AdapterView). a.state.busy)
      (own_adapter w u (slot_in_hand (unit_at w u)) (effect line u (slot_in_hand (unit_at w u)) (Intr moved last) (scene_of w u)) sound.adapters lt)

  -- behind an attention the steps of a retry come
  pub attention_free : (taken : ℕ) → IsFree (after w (Of line u id (Attn taken))) u
  attention_free taken = λ needs. absurd (false_true (sym (ap (λ (v : UnitView). needs_free v.phase)
      (own_unit w u (slot_in_hand (unit_at w u)) (effect line u (slot_in_hand (unit_at w u)) (Attn taken) (scene_of w u))
      (subst (λ (n : ℕ). u < n) (sym sound.units) lt))) ∙ needs))
