-- What the readers of the request in hand need.
use Rattle.std.proofs.Common.{◌≡◌, ◌⊎◌, inl, inr, ℕ, ◌+◌, ◌<◌, ◌≤◌, length, refl, sym, subst, arith}
use Rattle.std.specs.Prelude.{IsSome}
use Rattle.pack_geometry.specs.Geometry.{block_count}
use Rattle.hardware_table.specs.declared.FaultKind.{FaultKind}
use Rattle.hardware_table.specs.declared.Moved.{Moved}
use Rattle.hardware_table.specs.declared.Moved.TheVariants as verdict
use Rattle.hp_core.specs.Asked.{Asked}
use Rattle.hp_core.specs.Requests.{asked_of}
use Rattle.driver_machine.specs.declared.Phase.{Phase}
use Rattle.driver_machine.specs.declared.Phase.TheVariants.{Due}
use Rattle.driver_machine.specs.declared.Task.{Task}
use Rattle.driver_machine.specs.declared.Task.TheVariants.{Judge, Steps}
use Rattle.driver_machine.specs.World.{World, UnitView, unit_at, adapter_at, slot_at, slot_in_hand, adapter_of}
use Rattle.driver_machine.specs.Acts.{scene_of}
use Rattle.driver_machine.specs.Guards.{InHand}
use Rattle.driver_machine.specs.Sound.{Sound, IsPhase, IsTask, IsEndedAt}
use Rattle.driver_laws.proofs.invariant.Drives.{below_limit}
use Rattle.driver_laws.proofs.invariant.Deeds.{in_hand_is}
use Rattle.driver_laws.proofs.invariant.Frame.{scene_ok}
use Rattle.driver_laws.proofs.invariant.Scene.{SceneOk}
use Rattle.hp_driver.specs.Hand.{IsAskedAt, hand_at}

pub unit_there : (w : World) (u : ℕ) → Sound w → u < 32 → u < length w.units
unit_there w u sound lt = subst (λ (n : ℕ). u < n) (sym sound.units) lt

-- THE TASK that is due at a unit where a request is in hand
module _ (v : UnitView) (asked : Asked) where
  task_in : (task : Task) (is : IsAskedAt v asked) → v.phase ≡ Due task → IsTask v is.held task
  task_in task is due = subst (λ (p : Phase). IsPhase is.unit v is.adapter is.held p) due is.phase

  pub steps_in : (taken : ℕ) (is : IsAskedAt v asked) → v.phase ≡ Due (Steps taken) → IsTask v is.held (Steps taken)
  steps_in taken is due = task_in (Steps taken) is due

  pub judged_in : (moved : ℕ) (last : Moved) (is : IsAskedAt v asked) → v.phase ≡ Due (Judge moved last) → IsTask v is.held (Judge moved last)
  judged_in moved last is due = task_in (Judge moved last) is due

-- a sector failed, and it is one of the segment
pub failed_in : (last : Moved) (moved count : ℕ) → ((kind : FaultKind) × (last ≡ verdict.Faulted kind)) ⊎ (last ≡ verdict.Hard) → IsEndedAt last moved count → moved < count
failed_in last moved count (inl faulted) ends = subst (λ (m : Moved). IsEndedAt m moved count) faulted.1 ends
failed_in last moved count (inr hard) ends = subst (λ (m : Moved). IsEndedAt m moved count) hard ends

module _ (w : World) (u id : ℕ) (sound : Sound w) (hand : InHand w u id) where
  ok : SceneOk u (scene_of w u)
  ok = scene_ok w u id sound hand

  pub hand_there : IsSome (slot_at w (slot_in_hand (unit_at w u)))
  hand_there = subst (λ o. IsSome o) (sym hand.slot) refl

  pub first_below : (hand_at w u).first < block_count (unit_at w u).drive.kind
  first_below = below_limit (unit_at w u).drive.kind (hand_at w u).first (less _ _ _ ok.loan.shape.some ok.inside)
    where
      less : (first count limit : ℕ) → 1 ≤ count → first + count ≤ limit → first < limit
      less first count limit some inside = omega (arith, some, inside)

-- WHAT IS KNOWN of a unit with a request in hand
pub asked_here : (w : World) (u : ℕ) (asked : Asked) (v : UnitView) → Sound w → u < 32 → 0 < length (unit_at w u).queue → asked ≡ asked_of (hand_at w u) → v ≡ unit_at w u
    → IsAskedAt v asked
asked_here w u asked v sound lt some is here =
    subst (λ (x : UnitView). IsAskedAt x asked) (sym here) (record {
      unit = u;
      adapter = adapter_at w (adapter_of u);
      held = hand_at w u;
      is = is;
      drive = (sound.each_unit u lt).drive;
      below = first_below w u _ sound (in_hand_is w u sound lt some);
      phase = (sound.each_unit u lt).phase;
    })
