-- Each act keeps what holds of the drive, the table and the phase of each unit.
use Rattle.std.proofs.Common.{◌≡◌, inl, inr, ℕ, ◌<◌, Bool, true, false, List, get_or-set_same, refl, sym, ap, ◌∙◌, subst, arith, rules}
use Rattle.std.proofs.lemmas.Bool.{cases_eq, false≢true}
use Rattle.hardware_table.specs.Drive.{DriveState}
use Rattle.hardware_table.specs.Events.{turned, fault_armed, online_set, locked_set}
use Rattle.hardware_table.specs.Adapter.{AdapterState}
use Rattle.hardware_table.specs.declared.FaultKind.{FaultKind}
use Rattle.disksort.specs.declared.Waiter.{Waiter}
use Rattle.driver_machine.specs.declared.Task.{Task}
use Rattle.driver_machine.specs.declared.Task.TheVariants.{Clear, Judge, Steps, Command, GiveUp}
use Rattle.driver_machine.specs.declared.Phase.{Phase}
use Rattle.driver_machine.specs.declared.Phase.TheVariants.{Waiting, Positioning, Queued, Transferring, Due}
use Rattle.driver_machine.specs.World.{World, UnitView, AdapterView, Held, no_unit, adapter_of, unit_at, adapter_at, slot_at, held_in, slot_in_hand}
use Rattle.driver_machine.specs.Acts as deed
use Rattle.driver_machine.specs.Acts.{Of, Deed, Scene, scene_of, with_scene, with_drive, with_unit_drive, after}
use Rattle.driver_machine.specs.Guards.{InHand, May}
use Rattle.driver_machine.specs.Sound.{IsDrive, IsBegun, IsPhase, IsTask, IsClear, IsStill, IsMoving, IsUnderWay, IsTableFor, Sound, is_waiting}
use Rattle.driver_machine.proofs.Frame.{effect_same}
use Rattle.driver_laws.proofs.invariant.Scene.{SceneOk, same_ask, begun_as}
use Rattle.driver_laws.proofs.invariant.EachDeed.{own_phase, own_drive}
use Rattle.driver_laws.proofs.invariant.Frame.{Changed, HasTable, held_is, phase_for, phase_stays, drive_stays, table_stays, scene_ok, adapter_here, unit_here, slot_here}

-- WHAT IS KEPT of a unit
abbrev pub UnitKept : World → ℕ → Type 0
UnitKept w u =
    IsDrive (unit_at w u).drive × HasTable (unit_at w u)
    × IsPhase u (unit_at w u) (adapter_at w (adapter_of u)) (held_in w (slot_in_hand (unit_at w u))) (unit_at w u).phase

pub each_kept : (w now : World) (u x : ℕ) → Sound w → Changed w now u → (u < 32 → UnitKept now u) → x < 32 → UnitKept now x
each_kept w now u x s c own lt = elim (cases_eq x u) [
  | inl same ↦ subst (UnitKept now) (sym same) (own (subst (λ n. n < 32) same lt))
  | inr other ↦ (drive_stays w now u x s c lt other, table_stays w now u x s c lt other, phase_stays w now u x s c lt other)
]

-- A DEED keeps the table and the kind of its unit, and the slot in hand unless the unit waits then.
pub deed_kind : (line u p : ℕ) (d : Deed) (s : Scene) → (deed.effect line u p d s).unit.drive.kind ≡ s.unit.drive.kind
deed_kind line u p d s = (effect_same line u p d s).kind

deed_table : (line u p : ℕ) (d : Deed) (s : Scene) → (deed.effect line u p d s).unit.table ≡ s.unit.table
deed_table line u p d s = (effect_same line u p d s).table

pub deed_hand : (line u p : ℕ) (d : Deed) (s : Scene) → is_waiting (deed.effect line u p d s).unit.phase ≡ false
    → slot_in_hand (deed.effect line u p d s).unit ≡ slot_in_hand s.unit
deed_hand line u p (deed.End kind) s goes = absurd (false≢true (sym goes))
deed_hand line u p other s goes = refl

pub has_table : (v x : UnitView) → x.table ≡ v.table → x.drive.kind ≡ v.drive.kind → HasTable v → HasTable x
has_table v x table kind has t is = subst (λ k. IsTableFor k t) (sym kind) (has t (sym table ∙ is))

pub deed_kept : (w : World) (line u id : ℕ) (d : Deed) → Sound w → InHand w u id → May u d (scene_of w u) → UnitKept (after w (Of line u id d)) u
deed_kept w line u id d s i may =
    let p : ℕ = slot_in_hand (unit_at w u) in
    let old : Scene = scene_of w u in
    let e : Scene = deed.effect line u p d old in
    let now : World = with_scene w u p e in
    let ok : SceneOk u old = scene_ok w u id s i in
    let unit : unit_at now u ≡ e.unit = unit_here w u p e s i.unit in
    let adapter : adapter_at now (adapter_of u) ≡ e.adapter = adapter_here w u p e s i.unit in
    let held : held_in now p ≡ e.held = held_is now p e.held (slot_here w u p i.held e i.slot) in
    let phase : IsPhase u e.unit e.adapter (held_in now (slot_in_hand e.unit)) e.unit.phase =
    phase_for u e.unit e.adapter e.held (held_in now (slot_in_hand e.unit)) e.unit.phase
    (λ goes. ap (held_in now) (deed_hand line u p d old goes) ∙ held) (own_phase line u p d old ok may) in (
      subst (λ (v : UnitView). IsDrive v.drive) (sym unit) (own_drive line u p d old ok may),
      subst HasTable (sym unit) (has_table old.unit e.unit (deed_table line u p d old) (deed_kind line u p d old) ok.table),
      subst (λ (v : UnitView). IsPhase u v (adapter_at now (adapter_of u)) (held_in now (slot_in_hand v)) v.phase) (sym unit)
          (subst (λ (a : AdapterView). IsPhase u e.unit a (held_in now (slot_in_hand e.unit)) e.unit.phase) (sym adapter) phase),
    )

-- A PHASE HOLDS ON where the drive does what it did, and shows what it showed.
pub record IsSameDrive (d e : DriveState) : Type 0 where
  pub kind : e.kind ≡ d.kind
  pub work : e.work ≡ d.work
  pub attention : e.attention ≡ d.attention
  pub er1 : e.er1 ≡ d.er1
  pub er2 : e.er2 ≡ d.er2
  pub ec1 : e.ec1 ≡ d.ec1
  pub ec2 : e.ec2 ≡ d.ec2

clear_as : (d e : DriveState) → IsSameDrive d e → IsClear d → IsClear e
clear_as d e same is = record { er1 = same.er1 ∙ is.er1; er2 = same.er2 ∙ is.er2 }

still_as : (d e : DriveState) → IsSameDrive d e → IsStill d → IsStill e
still_as d e same is = record { work = same.work ∙ is.work; attention = same.attention ∙ is.attention; clear = clear_as d e same is.clear }

moving_as : (d e : DriveState) → IsSameDrive d e → IsMoving d → IsMoving e
moving_as d e same is = first_of (search rules, grind arith)

way_as : (d e : DriveState) (a : AdapterState) → IsSameDrive d e → IsUnderWay d a → IsUnderWay e a
way_as d e a same is = first_of (search rules, grind arith)

module _ (u : ℕ) (v : UnitView) (queue : List Waiter) (d : DriveState) (a : AdapterView) (h : Held) (same : IsSameDrive v.drive d) where
  abbrev now_unit : UnitView
  now_unit = record v { queue = queue; drive = d }

  begun_now : IsBegun v h → IsBegun now_unit h
  begun_now is = begun_as v now_unit h h is refl refl same.kind (same_ask h)

  still_now : IsStill v.drive → IsStill d
  still_now is = still_as v.drive d same is

  task_now : (task : Task) → IsTask v h task → IsTask now_unit h task
  task_now (Clear moved last) is =
      (begun_now is.0, record { work = same.work ∙ is.1.work; attention = same.attention ∙ is.1.attention }, is.2, is.3, is.4)
  task_now (Judge moved last) is = (begun_now is.0, still_now is.1, is.2, is.3)
  task_now (Steps taken) is = (begun_now is.0, still_now is.1, is.2)
  task_now Command is = (begun_now is.0, still_now is.1)
  task_now (GiveUp done) is = (is.0, still_now is.1, is.2)

  pub phase_now : (phase : Phase) → IsPhase u v a h phase → IsPhase u now_unit a h phase
  phase_now Waiting is = (still_now is.0, is.1)
  phase_now (Positioning taken) is = (begun_now is.0, moving_as v.drive d same is.1, is.2)
  phase_now Queued is = (begun_now is.0, still_now is.1, is.2)
  phase_now Transferring is = (begun_now is.0, way_as v.drive d a.state same is.1, is.2, is.3)
  phase_now (Due task) is = task_now task is

-- CONDITIONS keep what a drive does and shows.
pub turned_same : (sector : ℕ) (d : DriveState) → IsSameDrive d (turned sector d)
turned_same sector d = record { kind = refl; work = refl; attention = refl; er1 = refl; er2 = refl; ec1 = refl; ec2 = refl }

pub armed_same : (kind : FaultKind) (times : ℕ) (d : DriveState) → IsSameDrive d (fault_armed kind times d)
armed_same kind times d = record { kind = refl; work = refl; attention = refl; er1 = refl; er2 = refl; ec1 = refl; ec2 = refl }

pub online_same : (on : Bool) (d : DriveState) → IsSameDrive d (online_set on d)
online_same true d = record { kind = refl; work = refl; attention = refl; er1 = refl; er2 = refl; ec1 = refl; ec2 = refl }
online_same false d = record { kind = refl; work = refl; attention = refl; er1 = refl; er2 = refl; ec1 = refl; ec2 = refl }

pub locked_same : (on : Bool) (d : DriveState) → IsSameDrive d (locked_set on d)
locked_same on d = record { kind = refl; work = refl; attention = refl; er1 = refl; er2 = refl; ec1 = refl; ec2 = refl }

pub drive_changed : (w : World) (u : ℕ) (f : DriveState → DriveState) → Changed w (with_unit_drive u f w) u
drive_changed w u f = first_of (search rules, grind arith)

pub changed_unit : (w : World) (u : ℕ) (f : DriveState → DriveState) → Sound w → u < 32
    → unit_at (with_unit_drive u f w) u ≡ with_drive f (unit_at w u)
changed_unit w u f s lt = get_or-set_same w.units u (with_drive f (unit_at w u)) no_unit (subst (λ n. u < n) (sym s.units) lt)

pub change_kept : (w : World) (u : ℕ) (f : DriveState → DriveState) → Sound w → IsSameDrive (unit_at w u).drive (f (unit_at w u).drive)
    → IsDrive (f (unit_at w u).drive) → u < 32 → UnitKept (with_unit_drive u f w) u
change_kept w u f s same drive lt =
    let v : UnitView = unit_at w u in
    let x : UnitView = with_drive f v in
    let ok = s.each_unit u lt in
    let phase : IsPhase u x (adapter_at w (adapter_of u)) (held_in w (slot_in_hand v)) v.phase =
    phase_now u v v.queue (f v.drive) (adapter_at w (adapter_of u)) (held_in w (slot_in_hand v)) same v.phase ok.phase in
    let kept : IsDrive x.drive × HasTable x × IsPhase u x (adapter_at w (adapter_of u)) (held_in w (slot_in_hand x)) x.phase =
    (drive, has_table v x refl same.kind ok.table, phase) in
    subst (λ (y : UnitView). IsDrive y.drive × HasTable y × IsPhase u y (adapter_at w (adapter_of u)) (held_in w (slot_in_hand y)) y.phase)
    (sym (changed_unit w u f s lt)) kept

-- NOTHING changes of units and adapters: no unit has the number 32.
pub unchanged : (w now : World) → now.units ≡ w.units → now.adapters ≡ w.adapters
    → ((x : ℕ) → x < 32 → is_waiting (unit_at w x).phase ≡ false → slot_at now (slot_in_hand (unit_at w x)) ≡ slot_at w (slot_in_hand (unit_at w x)))
    → Changed w now 32
unchanged w now units adapters held = first_of (search rules, grind arith)

pub no_such : {A : Type 0} → 32 < 32 → A
no_such lt = absurd (omega (arith, lt))
