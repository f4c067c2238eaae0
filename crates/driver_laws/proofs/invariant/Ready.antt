-- READY: the unit waits behind all others, and phase and adapter hold.
use Rattle.std.proofs.Common.{◌≡◌, inl, inr, ℕ, false, [], ◌∷◌, ◌++◌, Some, refl, sym, ap, ◌∙◌, arith, rules}
use Rattle.transfer_engine.specs.State.{TransferState}
use Rattle.driver_machine.specs.declared.Phase.TheVariants.{Waiting, Queued, Due}
use Rattle.driver_machine.specs.declared.Task.TheVariants.{Steps}
use Rattle.driver_machine.specs.Acts.{Scene, effect}
use Rattle.driver_machine.specs.Acts as deed
use Rattle.driver_machine.specs.Sound.{IsBegun, IsPhase, IsTask, IsStill}
use Rattle.driver_machine.specs.World.{UnitView, Held}
use Rattle.driver_machine.specs.Guards.{May}
use Rattle.driver_laws.proofs.invariant.Scene.{SceneOk, phase_is, same_ask, begun_as, due_of}
use Rattle.driver_laws.proofs.invariant.DeedFacts.{new_begun}
use Rattle.driver_laws.proofs.invariant.AdapterLeft.{is_transferring, is_queued, SceneAdapter, AdapterLeft, queue_left, not_transferring, not_queued}
use Rattle.driver_laws.proofs.invariant.Lists.{among_push, once_push}
use Rattle.driver_laws.proofs.invariant.SlotsLists.{Among-last}
use Rattle.driver_machine.proofs.Dues.{IsDue, IsReady}

-- READY: the unit waits behind all others
ready_still : (u : ℕ) (t : TransferState) (s : Scene) → SceneOk u s → IsReady s.unit s.held t → IsStill s.unit.drive
ready_still u t s ok ready = elim ready [
  | inl start ↦ (phase_is u s Waiting ok start.0).0
  | inr over ↦ (phase_is u s (Due (Steps over.0.taken)) ok over.0.phase).1
]

ready_begun : (line u p : ℕ) (t : TransferState) (s : Scene) → SceneOk u s → IsReady s.unit s.held t
    → IsBegun (effect line u p (deed.Ready t) s).unit s.held
ready_begun line u p t s ok ready = elim ready [
  | inl start ↦ new_begun u s (effect line u p (deed.Ready t) s).unit ok (ap Some start.1) refl refl
  | inr over ↦
      let is : IsTask s.unit s.held (Steps over.0.taken) = phase_is u s (Due (Steps over.0.taken)) ok over.0.phase in
      begun_as s.unit (effect line u p (deed.Ready t) s).unit s.held s.held is.0 (ap Some over.1 ∙ sym is.0.some) refl refl (same_ask s.held)
]

pub ready_phase : (line u p : ℕ) (t : TransferState) (s : Scene) → SceneOk u s → IsDue s.unit s.held (deed.Ready t)
    → IsPhase u (effect line u p (deed.Ready t) s).unit (effect line u p (deed.Ready t) s).adapter s.held Queued
ready_phase line u p t s ok due = (ready_begun line u p t s ok due, ready_still u t s ok due, Among-last u s.adapter.queue)

ready_rest : (v : UnitView) (h : Held) (t : TransferState) → IsReady v h t → (is_transferring v.phase ≡ false) × (is_queued v.phase ≡ false)
ready_rest v h t ready = first_of (search rules, grind arith)

pub ready_left : (line u p : ℕ) (t : TransferState) (s : Scene) → SceneOk u s → SceneAdapter u s → May u (deed.Ready t) s
    → AdapterLeft u s.adapter (effect line u p (deed.Ready t) s).unit (effect line u p (deed.Ready t) s).adapter (effect line u p (deed.Ready t) s).held
ready_left line u p t s ok at may =
    let rests = ready_rest s.unit s.held t (due_of u (deed.Ready t) s may) in
    queue_left u s ok at (effect line u p (deed.Ready t) s).unit s.held (s.adapter.queue ++ u ∷ []) (not_transferring s.unit.phase rests.0)
    (λ x m other. elim (among_push x s.adapter.queue u m) [ inl before ↦ before | inr same ↦ absurd (other same) ])
    (λ m. refl) (once_push s.adapter.queue u at.once (λ m. not_queued s.unit.phase rests.1 (at.mine m))) refl
