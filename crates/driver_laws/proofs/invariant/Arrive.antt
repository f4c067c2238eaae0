-- A POSITIONING ENDS: where it may come the unit positions, and it leaves a phase, a drive and an adapter that hold.
use Rattle.std.proofs.Common.{◌≡◌, inr, ℕ, ◌^◌, Bool, true, false, refl, sym, ap, ◌∙◌, subst, bit_or, arith, rules}
use Rattle.std.specs.Prelude.{if◌then◌else◌}
use Rattle.std.proofs.lemmas.Bool.{false≢true}
use Rattle.hardware_table.specs.declared.Work.{Work}
use Rattle.hardware_table.specs.declared.Work.TheVariants as work
use Rattle.hardware_table.specs.Drive.{DriveState, is_positioning}
use Rattle.hardware_table.specs.Events.{arrived_from}
use Rattle.driver_machine.specs.declared.Phase.{Phase}
use Rattle.driver_machine.specs.declared.Phase.TheVariants.{Waiting, Positioning, Queued, Transferring, Due}
use Rattle.driver_machine.specs.declared.Task.TheVariants.{Clear, Judge, Steps, Command, GiveUp}
use Rattle.driver_machine.specs.Acts.{Scene, effect}
use Rattle.driver_machine.specs.Acts as deed
use Rattle.driver_machine.specs.Sound.{IsDrive, IsGoal, IsPhase, IsClear, IsMoving}
use Rattle.driver_machine.specs.World.{UnitView, AdapterView, Held, drive_of}
use Rattle.driver_machine.specs.Guards.{May}
use Rattle.driver_machine.proofs.KindStays.{arrived_kind}
use Rattle.driver_laws.proofs.invariant.Drives.{drive_arrived}
use Rattle.driver_laws.proofs.invariant.Scene.{SceneOk, phase_is, same_ask, begun_as}
use Rattle.driver_laws.proofs.invariant.AdapterLeft.{SceneAdapter, AdapterLeft, state_left, is_transferring, not_transferring}
use Rattle.driver_laws.proofs.invariant.Lists.{raised_same, raised_other, raised_small}

-- ARRIVE. A unit positions where its drive does.
not_ready : (k : Work) → k ≡ work.Ready → is_positioning k ≡ true → ⊥
not_ready k is on = false≢true (sym (ap is_positioning is) ∙ on)

not_moving : (k : Work) (b write : Bool) → k ≡ (if b then work.Ready else work.Transfer write) → is_positioning k ≡ true → ⊥
not_moving k true write is on = not_ready k is on
not_moving k false write is on = false≢true (sym (ap is_positioning is) ∙ on)

positions : (u : ℕ) (v : UnitView) (a : AdapterView) (h : Held) (phase : Phase) → IsPhase u v a h phase → is_positioning v.drive.work ≡ true
    → (taken : ℕ) × (phase ≡ Positioning taken)
positions u v a h Waiting is on = absurd (not_ready v.drive.work is.0.work on)
positions u v a h (Positioning taken) is on = (taken, refl)
positions u v a h Queued is on = absurd (not_ready v.drive.work is.1.work on)
positions u v a h Transferring is on = absurd (not_moving v.drive.work a.state.completion a.state.write is.1.work on)
positions u v a h (Due (Clear moved last)) is on = absurd (not_ready v.drive.work is.1.work on)
positions u v a h (Due (Judge moved last)) is on = absurd (not_ready v.drive.work is.1.work on)
positions u v a h (Due (Steps taken)) is on = absurd (not_ready v.drive.work is.1.work on)
positions u v a h (Due Command) is on = absurd (not_ready v.drive.work is.1.work on)
positions u v a h (Due (GiveUp done)) is on = absurd (not_ready v.drive.work is.1.work on)

arriving : (u : ℕ) (s : Scene) → SceneOk u s → is_positioning s.unit.drive.work ≡ true → (taken : ℕ) × (s.unit.phase ≡ Positioning taken)
arriving u s ok on = positions u s.unit s.adapter s.held s.unit.phase ok.phase on

goal_of : (d : DriveState) → IsMoving d → is_positioning d.work ≡ true → IsGoal d.kind d.work × (d.attention ≡ false)
goal_of d moving on = first_of (search rules, grind arith)

arriving_goal : (u : ℕ) (s : Scene) → SceneOk u s → is_positioning s.unit.drive.work ≡ true
    → IsGoal s.unit.drive.kind s.unit.drive.work × (s.unit.drive.attention ≡ false)
arriving_goal u s ok on =
    let at = arriving u s ok on in
    goal_of s.unit.drive (phase_is u s (Positioning at.0) ok at.1).1 on

moving_arrived : (k : Work) (d : DriveState) → IsGoal d.kind k → IsClear d → IsMoving (arrived_from k d)
moving_arrived (work.Positioning cylinder sector) d goal c = record { either = inr (refl, refl); clear = record { er1 = c.er1; er2 = c.er2 } }
moving_arrived other d goal c = absurd goal

attention_arrived : (k : Work) (d : DriveState) → IsGoal d.kind k → (arrived_from k d).attention ≡ true
attention_arrived (work.Positioning cylinder sector) d goal = refl
attention_arrived other d goal = absurd goal

pub arrive_phase : (line u p : ℕ) (s : Scene) → SceneOk u s → is_positioning s.unit.drive.work ≡ true
    → IsPhase u (effect line u p deed.Arrive s).unit (effect line u p deed.Arrive s).adapter s.held s.unit.phase
arrive_phase line u p s ok on =
    let at = arriving u s ok on in
    let x = (effect line u p deed.Arrive s).unit in
    let a = (effect line u p deed.Arrive s).adapter in
    let is : IsPhase u s.unit s.adapter s.held (Positioning at.0) = phase_is u s (Positioning at.0) ok at.1 in
    let goal = arriving_goal u s ok on in
    subst (IsPhase u x a s.held) (sym at.1) (
      begun_as s.unit x s.held s.held is.0 refl refl (arrived_kind s.unit.drive) (same_ask s.held),
      moving_arrived s.unit.drive.work s.unit.drive goal.0 is.1.clear,
      is.2,
    )

pub arrive_drive : (line u p : ℕ) (s : Scene) → SceneOk u s → May u deed.Arrive s → IsDrive (effect line u p deed.Arrive s).unit.drive
arrive_drive line u p s ok may = drive_arrived s.unit.drive.work s.unit.drive (arriving_goal u s ok may).0 ok.drive

pub arrive_left : (line u p : ℕ) (s : Scene) → SceneOk u s → SceneAdapter u s → May u deed.Arrive s
    → AdapterLeft u s.adapter (effect line u p deed.Arrive s).unit (effect line u p deed.Arrive s).adapter (effect line u p deed.Arrive s).held
arrive_left line u p s ok at may =
    let positions = arriving u s ok may in
    let goal = arriving_goal u s ok may in
    state_left u s ok at (effect line u p deed.Arrive s).unit s.held (bit_or s.adapter.state.attentions (2 ^ drive_of u)) s.adapter.queue
    (not_transferring s.unit.phase (ap is_transferring positions.1)) (λ x m other. m) at.mine at.once
    (raised_small s.adapter.state.attentions (drive_of u) at.unit at.small)
    (λ k lt other. raised_other s.adapter.state.attentions (drive_of u) k at.unit other)
    (raised_same s.adapter.state.attentions (drive_of u) at.unit
    ∙ ap (λ b. if b then 1 else 0) (sym (attention_arrived s.unit.drive.work s.unit.drive goal.0)))
