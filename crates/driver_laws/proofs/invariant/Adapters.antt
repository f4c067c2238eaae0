-- A change at one unit keeps what holds of its adapter.
use Rattle.std.proofs.Common.{◌≡◌, ◌≢◌, inl, inr, ℕ, ◌<◌, true, Some, refl, sym, ap, ◌∙◌, subst, arith, rules}
use Rattle.std.specs.Prelude.{if◌then◌else◌}
use Rattle.std.specs.Int.{bit_at}
use Rattle.std.proofs.lemmas.Bool.{cases_eq}
use Rattle.hardware_table.specs.Adapter.{AdapterState}
use Rattle.driver_machine.specs.declared.Phase.TheVariants.{Queued, Transferring}
use Rattle.driver_machine.specs.World.{World, UnitView, AdapterView, Held, adapter_of, drive_of, unit_on, unit_at, adapter_at, slot_at, held_in, slot_in_hand}
use Rattle.driver_machine.specs.Acts as deed
use Rattle.driver_machine.specs.Acts.{Of, Deed, Scene, scene_of, with_scene, after}
use Rattle.driver_machine.specs.Guards.{InHand, May}
use Rattle.driver_machine.specs.Sound.{Among, Transfers, AdapterOk, Sound, is_waiting}
use Rattle.driver_laws.proofs.invariant.Frame.{Changed, drive_of-unit_on, unit_on-own, unit_on-small, adapter_of-small, transfers_on, waits_on, raised_on, scene_ok, adapter_here, unit_here, slot_here, deed_changed}
use Rattle.driver_laws.proofs.invariant.Units.{deed_hand}
use Rattle.driver_laws.proofs.invariant.AdapterLeft.{SceneAdapter, AdapterLeft}
use Rattle.driver_laws.proofs.invariant.EachDeed.{deed_left}

-- a transfer goes on, whatever attentions come
attentions_on : (w : World) (x n : ℕ) (h : Held) (a : AdapterState) → Transfers w x h a → Transfers w x h (record a { attentions = n })
attentions_on w x n h a is = first_of (search rules, grind arith)

module _ (w now : World) (u : ℕ) (s : Sound w) (c : Changed w now u) (lt : u < 32) (v : UnitView) (z : AdapterView) (h : Held)
    (here : unit_at now u ≡ v) (slot : v.phase ≡ Transferring → slot_at now (slot_in_hand v) ≡ Some h)
    (is : AdapterLeft u (adapter_at w (adapter_of u)) v z h) where
  abbrev old : AdapterView
  old = adapter_at w (adapter_of u)

  was : AdapterOk w (adapter_of u) old
  was = s.each_adapter (adapter_of u) (adapter_of-small u lt)

  busy_own : z.state.busy ≡ true → z.state.drive ≡ drive_of u → (h : Held) × Transfers now (unit_on (adapter_of u) z.state.drive) h z.state
  busy_own busy mine = first_of (search rules, grind arith)

  not_own : z.state.busy ≡ true → z.state.drive ≢ drive_of u → unit_on (adapter_of u) z.state.drive ≢ u
  not_own busy other same = other (sym (drive_of-unit_on (adapter_of u) z.state.drive is.drive) ∙ ap drive_of same)

  busy_other : z.state.busy ≡ true → z.state.drive ≢ drive_of u → (h : Held) × Transfers now (unit_on (adapter_of u) z.state.drive) h z.state
  busy_other busy other =
      let same : z.state ≡ record old.state { attentions = z.state.attentions } = is.elsewhere busy other in
      let busy_then : old.state.busy ≡ true = ap (λ (a : AdapterState). a.busy) (sym same) ∙ busy in
      let drive : z.state.drive ≡ old.state.drive = ap (λ (a : AdapterState). a.drive) same in
      let transfer = was.busy busy_then in
      let before : Transfers w (unit_on (adapter_of u) z.state.drive) transfer.0 old.state =
      subst (λ k. Transfers w (unit_on (adapter_of u) k) transfer.0 old.state) (sym drive) transfer.1 in
      let x : ℕ = unit_on (adapter_of u) z.state.drive in
      let after_it : Transfers now x transfer.0 old.state =
      transfers_on w now u x transfer.0 old.state c (unit_on-small (adapter_of u) z.state.drive (adapter_of-small u lt) is.drive) (not_own busy other) before in
      (transfer.0, subst (Transfers now x transfer.0) (sym same) (attentions_on now x z.state.attentions transfer.0 old.state after_it))

  waits_now : (x : ℕ) → Among x z.queue → (x < 32) × (adapter_of x ≡ adapter_of u) × ((unit_at now x).phase ≡ Queued)
  waits_now x m = elim (cases_eq x u) [
    | inl same ↦
        subst (λ y. (y < 32) × (adapter_of y ≡ adapter_of u) × ((unit_at now y).phase ≡ Queued)) (sym same)
        (lt, refl, ap (λ (y : UnitView). y.phase) here ∙ is.mine (subst (λ y. Among y z.queue) same m))
    | inr other ↦ waits_on w now u x (adapter_of u) c other (was.waits x (is.waits x m other))
  ]

  raised_now : (k : ℕ) → k < 8 → bit_at z.state.attentions k ≡ (if (unit_at now (unit_on (adapter_of u) k)).drive.attention then 1 else 0)
  raised_now k small = elim (cases_eq k (drive_of u)) [
    | inl same ↦
        let x : unit_on (adapter_of u) k ≡ u = ap (unit_on (adapter_of u)) same ∙ unit_on-own u in
        ap (bit_at z.state.attentions) same ∙ (is.bit
        ∙ (ap (λ (y : UnitView). if y.drive.attention then 1 else 0) (sym here)
        ∙ ap (λ y. if (unit_at now y).drive.attention then 1 else 0) (sym x)))
    | inr other ↦
        let x : unit_on (adapter_of u) k ≢ u = λ same. other (sym (drive_of-unit_on (adapter_of u) k small) ∙ ap drive_of same) in
        raised_on w now u (unit_on (adapter_of u) k) (bit_at z.state.attentions k) c x (is.bits k small other ∙ was.raised k small)
  ]

  pub adapter_now : AdapterOk now (adapter_of u) z
  adapter_now = record {
    state = is.state;
    drive = is.drive;
    busy = λ busy. elim (cases_eq z.state.drive (drive_of u)) [ inl mine ↦ busy_own busy mine | inr other ↦ busy_other busy other ];
    rest = is.rest;
    waits = waits_now;
    once = is.once;
    small = is.small;
    raised = raised_now;
  }

-- what holds of the adapter in the scene of a unit
pub scene_adapter : (w : World) (u : ℕ) → Sound w → u < 32 → SceneAdapter u (scene_of w u)
scene_adapter w u s lt = first_of (search rules, grind arith)

-- A DEED
pub deed_adapter : (w : World) (line u id : ℕ) (d : Deed) → Sound w → InHand w u id → May u d (scene_of w u)
    → AdapterOk (after w (Of line u id d)) (adapter_of u) (adapter_at (after w (Of line u id d)) (adapter_of u))
deed_adapter w line u id d s i may =
    let p : ℕ = slot_in_hand (unit_at w u) in
    let old : Scene = scene_of w u in
    let e : Scene = deed.effect line u p d old in
    let now : World = with_scene w u p e in
    let left = deed_left line u p d old (scene_ok w u id s i) (scene_adapter w u s i.unit) may in
    let there : slot_at now p ≡ Some e.held = slot_here w u p i.held e i.slot in
    subst (AdapterOk now (adapter_of u)) (sym (adapter_here w u p e s i.unit))
    (adapter_now w now u s (deed_changed w line u id d s i may) i.unit e.unit e.adapter e.held (unit_here w u p e s i.unit)
    (λ transfers. ap (slot_at now) (deed_hand line u p d old (ap is_waiting transfers)) ∙ there) left)

-- A UNIT whose phase, transfer and attention are as before leaves its adapter as it is.
pub same_left : (w : World) (u : ℕ) → Sound w → u < 32 → (v : UnitView) → v.phase ≡ (unit_at w u).phase → v.transfer ≡ (unit_at w u).transfer
    → v.drive.attention ≡ (unit_at w u).drive.attention
    → AdapterLeft u (adapter_at w (adapter_of u)) v (adapter_at w (adapter_of u)) (held_in w (slot_in_hand (unit_at w u)))
same_left w u s lt v phase transfer attention = first_of (search rules, grind arith)

-- the slot in hand of a unit that transfers has its request
pub transferring_slot : (w : World) (u : ℕ) → Sound w → u < 32 → (unit_at w u).phase ≡ Transferring
    → slot_at w (slot_in_hand (unit_at w u)) ≡ Some (held_in w (slot_in_hand (unit_at w u)))
transferring_slot w u s lt is = first_of (search rules, grind arith)
