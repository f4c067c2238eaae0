-- READY, at a start or behind the steps of a retry: no line is told, and the same replay shows the world behind it.
use Rattle.std.proofs.Common.{◌≡◌, inl, inr, ℕ, [], ◌∷◌, ◌++◌, Some, true, refl, sym, ap, subst, arith, ◌∙◌, rules}
use Rattle.hardware_table.specs.Adapter.{AdapterState}
use Rattle.transfer_engine.specs.State.{TransferState, begun}
use Rattle.trace_replay.specs.Replay.{UnitSeen, Replay, at_unit}
use Rattle.driver_machine.specs.declared.Phase.TheVariants.{Waiting, Queued}
use Rattle.driver_machine.specs.declared.Phase.TheVariants as phases
use Rattle.driver_machine.specs.World.{World, UnitView, AdapterView, Held, slot_in_hand, transfer_of, job_of, adapter_of, unit_at, adapter_at, held_in}
use Rattle.driver_machine.specs.Guards.{InHand, IsNext}
use Rattle.driver_machine.specs.Due.{next_by, start_of}
use Rattle.driver_machine.specs.Acts as deed
use Rattle.driver_machine.specs.Acts.{Deed, Of, scene_of, after}
use Rattle.driver_machine.specs.Sound.{Sound}
use Rattle.driver_laws.proofs.shown.Core.{Core, IsHead}
use Rattle.driver_laws.proofs.shown.Facts.{At}
use Rattle.driver_laws.proofs.shown.Silent.{silent_shows}
use Rattle.driver_laws.proofs.shown.Showing.{Shows, is_coming}
use Rattle.driver_machine.proofs.Dues.{AllTaken, IsReady}

pub ready_core : (h : Held) (v : UnitView) (a : AdapterState) (seen : UnitSeen) → Core h v a seen → IsHead h v.drive.kind seen → v.phase ≡ Waiting
    → start_of v h ≡ deed.Ready (begun (job_of v.drive.kind h))
    → Core h (record v { phase = Queued; transfer = Some (begun (job_of v.drive.kind h)) }) a seen
ready_core h v a seen is head phase starts = search rules

pub taken_core : (h : Held) (v : UnitView) (a : AdapterState) (seen : UnitSeen) → Core h v a seen → AllTaken v
    → Core h (record v { phase = Queued; transfer = Some (transfer_of v) }) a seen
taken_core h v a seen is due = search rules

-- The unit was coming, and joins its adapter's queue.
ready_joins : (u : ℕ) (w : World) (s : Replay) → Shows u w s → is_coming (unit_at w u).phase (s.units u).stage ≡ true
    → (at_unit s u).ready ≡ (adapter_at w (adapter_of u)).queue ++ u ∷ []
ready_joins u w s shows coming = shows.own_ready ∙ rw coming refl

start_shows : (line u id : ℕ) (w : World) (s : Replay) → Sound w → Shows u w s → InHand w u id → At u id w s
    → (unit_at w u).phase ≡ phases.Waiting
    → start_of (unit_at w u) (held_in w (slot_in_hand (unit_at w u))) ≡ deed.Ready (begun (job_of (unit_at w u).drive.kind (held_in w (slot_in_hand (unit_at w u)))))
    → Shows u (after w (Of line u id (deed.Ready (begun (job_of (unit_at w u).drive.kind (held_in w (slot_in_hand (unit_at w u)))))))) s
start_shows line u id w s sound shows hand at phase starts =
    let h : Held = held_in w (slot_in_hand (unit_at w u)) in
    let v : UnitView = unit_at w u in
    let a : AdapterView = adapter_at w (adapter_of u) in
    let core : Core h (record v { phase = phases.Queued; transfer = Some (begun (job_of v.drive.kind h)) }) a.state (s.units u) =
    ready_core h v a.state (s.units u) at.core at.head phase starts in
    let coming : is_coming v.phase (s.units u).stage ≡ true = rw (phase, core.stage) refl in
    silent_shows u id w s (record v { phase = phases.Queued; transfer = Some (begun (job_of v.drive.kind h)) }) h (a.queue ++ u ∷ []) sound shows hand at
    (record {
      core = core;
      queue = refl;
      declared = refl;
      kind = refl;
      kept = λ kind q held. held;
      ended = refl;
      ready = ready_joins u w s shows coming;
    })

taken_shows : (line u id : ℕ) (w : World) (s : Replay) → Sound w → Shows u w s → InHand w u id → At u id w s → AllTaken (unit_at w u)
    → Shows u (after w (Of line u id (deed.Ready (transfer_of (unit_at w u))))) s
taken_shows line u id w s sound shows hand at due =
    let h : Held = held_in w (slot_in_hand (unit_at w u)) in
    let v : UnitView = unit_at w u in
    let a : AdapterView = adapter_at w (adapter_of u) in
    let core : Core h (record v { phase = phases.Queued; transfer = Some (transfer_of v) }) a.state (s.units u) =
    taken_core h v a.state (s.units u) at.core due in
    let coming : is_coming v.phase (s.units u).stage ≡ true = rw (due.phase, core.stage) refl in
    silent_shows u id w s (record v { phase = phases.Queued; transfer = Some (transfer_of v) }) h (a.queue ++ u ∷ []) sound shows hand at
    (record {
      core = core;
      queue = refl;
      declared = refl;
      kind = refl;
      kept = λ kind q held. held;
      ended = refl;
      ready = ready_joins u w s shows coming;
    })

-- at a start or behind the steps of a retry
pub ready_next : (t : TransferState) (line u id : ℕ) (w : World) (s : Replay) → Sound w → Shows u w s → InHand w u id → At u id w s
    → IsNext u (deed.Ready t) (scene_of w u) → IsReady (unit_at w u) (held_in w (slot_in_hand (unit_at w u))) t
    → Shows u (after w (Of line u id (deed.Ready t))) s
ready_next t line u id w s sound shows hand at (inl next) (inl start) =
    let starts : start_of (unit_at w u) (held_in w (slot_in_hand (unit_at w u))) ≡ deed.Ready t = started (subst (λ ph. next_by ph (unit_at w u) (held_in w (slot_in_hand (unit_at w u))) ≡ Some (deed.Ready t)) start.0 next) in
    subst (λ x. Shows u (after w (Of line u id (deed.Ready x))) s) (sym start.1)
    (start_shows line u id w s sound shows hand at start.0 (starts ∙ ap deed.Ready start.1))
  where
    started : {x y : Deed} → Some x ≡ Some y → x ≡ y
    started e = grind arith
ready_next t line u id w s sound shows hand at (inr chosen) (inl start) = absurd (apart (sym start.0 ∙ chosen.phase))
  where
    apart : phases.Waiting ≡ phases.Queued → ⊥
    apart e = grind (arith, e)
ready_next t line u id w s sound shows hand at next (inr taken) =
    subst (λ x. Shows u (after w (Of line u id (deed.Ready x))) s) (sym taken.1) (taken_shows line u id w s sound shows hand at taken.0)
