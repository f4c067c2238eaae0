-- A change at one unit: the other units and adapters hold on.
use Rattle.std.proofs.Common.{◌≡◌, ◌≢◌, inl, inr, ℕ, zero, suc, ◌+◌, ◌<◌, ◌≤◌, false, List, [], ◌∷◌, length, get_or-set_same, get_or-set_other, Option, Some, None, sym, ap, ◌∙◌, subst, arith, rules}
use Rattle.std.specs.Prelude.{if◌then◌else◌, unwrap_or, slice_index_or}
use Rattle.std.specs.Int.{bit_at}
use Rattle.std.proofs.lemmas.Bool.{cases_eq}
use Rattle.std.proofs.lemmas.Option.{none-some, same_Some}
use Rattle.std.proofs.lemmas.List.Elements.{Contains-get_or}
use Rattle.pack_geometry.specs.TableSpelling.{Table}
use Rattle.hardware_table.specs.Adapter.{AdapterState}
use Rattle.main_memory.specs.Blocks.{IsLoan}
use Rattle.pack_geometry.specs.Geometry.{limit_of}
use Rattle.driver_machine.specs.declared.Phase.{Phase}
use Rattle.driver_machine.specs.declared.Phase.TheVariants.{Queued}
use Rattle.driver_machine.specs.World.{World, UnitView, AdapterView, Held, no_held, no_unit, new_adapter_view, adapter_of, drive_of, unit_on, unit_at, adapter_at, slot_at, held_in, slot_in_hand}
use Rattle.driver_machine.specs.Acts.{Deed, Scene, effect, scene_of, with_scene}
use Rattle.driver_machine.specs.Guards.{InHand, May}
use Rattle.driver_machine.specs.Sound.{IsDrive, IsPhase, IsTableFor, IsOutstanding, UnitOk, Transfers, AdapterOk, SlotOk, Sound, is_waiting}
use Rattle.driver_laws.proofs.invariant.Scene.{HasTransferFor, SceneOk}
use Rattle.driver_laws.proofs.invariant.Others.{LeavesOthers, leaves_others, other_phase}

-- NUMBERS of units
pub adapter_of-unit_on : (a k : ℕ) → k < 8 → adapter_of (unit_on a k) ≡ a
adapter_of-unit_on a k lt = omega arith

pub drive_of-unit_on : (a k : ℕ) → k < 8 → drive_of (unit_on a k) ≡ k
drive_of-unit_on a k lt = omega arith

pub unit_on-own : (u : ℕ) → unit_on (adapter_of u) (drive_of u) ≡ u
unit_on-own u = omega arith

pub unit_on-small : (a k : ℕ) → a < 4 → k < 8 → unit_on a k < 32
unit_on-small a k al kl = omega arith

pub adapter_of-small : (u : ℕ) → u < 32 → adapter_of u < 4
adapter_of-small u lt = omega arith

-- THE REQUEST IN HAND of a unit is outstanding there.
pub head_out : (w : World) (x : ℕ) → UnitOk w x (unit_at w x) → 0 < length (unit_at w x).queue
    → IsOutstanding w x (slice_index_or (unit_at w x).queue 0 (record { number = 0; cylinder = 0 }))
head_out w x ok some = ok.queue _ (Contains-get_or (unit_at w x).queue 0 (record { number = 0; cylinder = 0 }) some)

pub held_is : (w : World) (p : ℕ) (h : Held) → slot_at w p ≡ Some h → held_in w p ≡ h
held_is w p h e = ap (λ (o : Option Held). unwrap_or o no_held) e

-- A CHANGE AT ONE UNIT: others are as before, and so are the requests that they have in hand.
pub record Changed (w now : World) (u : ℕ) : Type 0 where
  pub units : (x : ℕ) → x ≢ u → unit_at now x ≡ unit_at w x
  pub adapters : (a : ℕ) → a ≢ adapter_of u → adapter_at now a ≡ adapter_at w a
  pub held : (x : ℕ) → x < 32 → x ≢ u → is_waiting (unit_at w x).phase ≡ false
      → slot_at now (slot_in_hand (unit_at w x)) ≡ slot_at w (slot_in_hand (unit_at w x))
  pub leaves : LeavesOthers u (adapter_at w (adapter_of u)) (adapter_at now (adapter_of u))

pub phase_for : (x : ℕ) (v : UnitView) (a : AdapterView) (g h : Held) (phase : Phase) → (is_waiting phase ≡ false → h ≡ g) → IsPhase x v a g phase
    → IsPhase x v a h phase
phase_for x v a g h phase same is = first_of (search rules, grind arith)

-- THE OTHER UNITS
other_adapter_phase : (w now : World) (u x : ℕ) (h : Held) → Changed w now u → x ≢ u
    → IsPhase x (unit_at w x) (adapter_at w (adapter_of x)) h (unit_at w x).phase
    → IsPhase x (unit_at w x) (adapter_at now (adapter_of x)) h (unit_at w x).phase
other_adapter_phase w now u x h c other is = elim (cases_eq (adapter_of x) (adapter_of u)) [
  | inl same ↦
      subst (λ a. IsPhase x (unit_at w x) (adapter_at now a) h (unit_at w x).phase) (sym same)
      (other_phase u x (unit_at w x) (adapter_at w (adapter_of u)) (adapter_at now (adapter_of u)) h (unit_at w x).phase other same c.leaves
      (subst (λ a. IsPhase x (unit_at w x) (adapter_at w a) h (unit_at w x).phase) same is))
  | inr apart ↦ subst (λ (a : AdapterView). IsPhase x (unit_at w x) a h (unit_at w x).phase) (sym (c.adapters (adapter_of x) apart)) is
]

pub phase_stays : (w now : World) (u x : ℕ) → Sound w → Changed w now u → x < 32 → x ≢ u
    → IsPhase x (unit_at now x) (adapter_at now (adapter_of x)) (held_in now (slot_in_hand (unit_at now x))) (unit_at now x).phase
phase_stays w now u x s c lt other =
    let v : UnitView = unit_at w x in
    let p : ℕ = slot_in_hand v in
    let moved = other_adapter_phase w now u x (held_in w p) c other (s.each_unit x lt).phase in
    let kept = phase_for x v (adapter_at now (adapter_of x)) (held_in w p) (held_in now p) v.phase
    (λ goes. ap (λ (o : Option Held). unwrap_or o no_held) (c.held x lt other goes)) moved in
    subst (λ (y : UnitView). IsPhase x y (adapter_at now (adapter_of x)) (held_in now (slot_in_hand y)) y.phase) (sym (c.units x other)) kept

pub drive_stays : (w now : World) (u x : ℕ) → Sound w → Changed w now u → x < 32 → x ≢ u → IsDrive (unit_at now x).drive
drive_stays w now u x s c lt other = subst (λ (y : UnitView). IsDrive y.drive) (sym (c.units x other)) (s.each_unit x lt).drive

abbrev pub HasTable : UnitView → Type 0
HasTable v = (table : Table) → v.table ≡ Some table → IsTableFor v.drive.kind table

pub table_stays : (w now : World) (u x : ℕ) → Sound w → Changed w now u → x < 32 → x ≢ u → HasTable (unit_at now x)
table_stays w now u x s c lt other = subst HasTable (sym (c.units x other)) (s.each_unit x lt).table

-- WHAT ADAPTERS SAY of other units
pub transfers_on : (w now : World) (u x : ℕ) (h : Held) (a : AdapterState) → Changed w now u → x < 32 → x ≢ u → Transfers w x h a → Transfers now x h a
transfers_on w now u x h a c lt other is = first_of (search rules, grind arith)

pub waits_on : (w now : World) (u x a : ℕ) → Changed w now u → x ≢ u → (x < 32) × (adapter_of x ≡ a) × ((unit_at w x).phase ≡ Queued)
    → (x < 32) × (adapter_of x ≡ a) × ((unit_at now x).phase ≡ Queued)
waits_on w now u x a c other is = (is.0, is.1, ap (λ (y : UnitView). y.phase) (c.units x other) ∙ is.2)

pub raised_on : (w now : World) (u x n : ℕ) → Changed w now u → x ≢ u → n ≡ (if (unit_at w x).drive.attention then 1 else 0)
    → n ≡ (if (unit_at now x).drive.attention then 1 else 0)
raised_on w now u x n c other is = is ∙ ap (λ (y : UnitView). if y.drive.attention then 1 else 0) (sym (c.units x other))

elsewhere : (a k u : ℕ) → k < 8 → a ≢ adapter_of u → unit_on a k ≢ u
elsewhere a k u lt other same = other (sym (adapter_of-unit_on a k lt) ∙ ap adapter_of same)

waits_elsewhere : (a u x : ℕ) → adapter_of x ≡ a → a ≢ adapter_of u → x ≢ u
waits_elsewhere a u x is other same = other (sym is ∙ ap adapter_of same)

-- THE OTHER ADAPTERS
pub adapter_stays : (w now : World) (u a : ℕ) → Sound w → Changed w now u → a < 4 → a ≢ adapter_of u → AdapterOk now a (adapter_at now a)
adapter_stays w now u a s c lt other =
    let v : AdapterView = adapter_at w a in
    let ok : AdapterOk w a v = s.each_adapter a lt in
    subst (AdapterOk now a) (sym (c.adapters a other)) (record {
      state = ok.state;
      drive = ok.drive;
      busy = λ e.
          let was = ok.busy e in
          let small = ok.drive in
          let x : ℕ = unit_on a v.state.drive in
          (was.0, transfers_on w now u x was.0 v.state c (unit_on-small a v.state.drive lt small) (elsewhere a v.state.drive u small other) was.1);
      rest = ok.rest;
      waits = λ x m. let is = ok.waits x m in waits_on w now u x a c (waits_elsewhere a u x is.1 other) is;
      once = ok.once;
      small = ok.small;
      raised = λ k small. raised_on w now u (unit_on a k) (bit_at v.state.attentions k) c (elsewhere a k u small other) (ok.raised k small);
    })

-- THE SCENE of a request in hand
held_at : (w : World) (u id : ℕ) (i : InHand w u id) → held_in w (slot_in_hand (unit_at w u)) ≡ i.held
held_at w u id i = held_is w (slot_in_hand (unit_at w u)) i.held i.slot

pub own_held : (w : World) (u id : ℕ) → Sound w → (i : InHand w u id) → (i.held.unit ≡ u) × (i.held.ended ≡ false)
own_held w u id s i =
    let out = head_out w u (s.each_unit u i.unit) i.some in
    let same : out.held ≡ i.held = same_Some out.held i.held (sym out.slot ∙ i.slot) in
    (ap (λ (h : Held). h.unit) (sym same) ∙ out.unit, ap (λ (h : Held). h.ended) (sym same) ∙ out.going_on)

own_slot : (w : World) (u id : ℕ) → Sound w → (i : InHand w u id) → SlotOk w (slot_in_hand (unit_at w u)) i.held
own_slot w u id s i = s.each_slot (slot_in_hand (unit_at w u)) i.held i.slot

pub has_transfer : (w : World) (u : ℕ) (h g : Held) (a : AdapterState) → slot_at w (slot_in_hand (unit_at w u)) ≡ Some g → Transfers w u h a
    → HasTransferFor (unit_at w u) (held_in w (slot_in_hand (unit_at w u))) a
has_transfer w u h g a slot is = first_of (search rules, grind arith)

pub scene_ok : (w : World) (u id : ℕ) → Sound w → InHand w u id → SceneOk u (scene_of w u)
scene_ok w u id s i =
    let ok = s.each_unit u i.unit in
    let slot = own_slot w u id s i in
    let unit : i.held.unit ≡ u = (own_held w u id s i).0 in
    let here : i.held ≡ held_in w (slot_in_hand (unit_at w u)) = sym (held_at w u id i) in
    let adapter = s.each_adapter (adapter_of u) (adapter_of-small u i.unit) in
    record {
      drive = ok.drive;
      phase = ok.phase;
      table = ok.table;
      loan = subst (λ (h : Held). IsLoan h.loan) here slot.loan;
      inside = subst (λ (h : Held). h.first + h.loan.count ≤ limit_of (unit_at w u).drive.kind) here
          (subst (λ (x : ℕ). i.held.first + i.held.loan.count ≤ limit_of (unit_at w x).drive.kind) unit slot.inside);
      adapter = adapter.state;
      transfer = λ busy drive.
          let was = adapter.busy busy in
          let mine : Transfers w u was.0 (adapter_at w (adapter_of u)).state =
          subst (λ x. Transfers w x was.0 (adapter_at w (adapter_of u)).state) (ap (unit_on (adapter_of u)) drive ∙ unit_on-own u) was.1 in
          has_transfer w u was.0 i.held (adapter_at w (adapter_of u)).state i.slot mine;
    }

-- A DEED is a change at its unit.
pub other_slot : (w : World) (u id x : ℕ) → Sound w → InHand w u id → x < 32 → x ≢ u → is_waiting (unit_at w x).phase ≡ false
    → slot_in_hand (unit_at w x) ≢ slot_in_hand (unit_at w u)
other_slot w u id x s i lt other goes same =
    let ok = s.each_unit x lt in
    let out = head_out w x ok (ok.head goes) in
    let one : out.held ≡ i.held = same_Some out.held i.held (sym out.slot ∙ (ap (slot_at w) same ∙ i.slot)) in
    other (sym out.unit ∙ (ap (λ (h : Held). h.unit) one ∙ (own_held w u id s i).0))

pub adapter_here : (w : World) (u p : ℕ) (e : Scene) → Sound w → u < 32 → adapter_at (with_scene w u p e) (adapter_of u) ≡ e.adapter
adapter_here w u p e s lt = first_of (search rules, grind arith)

pub unit_here : (w : World) (u p : ℕ) (e : Scene) → Sound w → u < 32 → unit_at (with_scene w u p e) u ≡ e.unit
unit_here w u p e s lt = get_or-set_same w.units u e.unit no_unit (subst (λ n. u < n) (sym s.units) lt)

pub slot_there : (slots : List (Option Held)) (p : ℕ) (h : Held) → slice_index_or slots p None ≡ Some h → p < length slots
slot_there [] p h e = absurd (none-some h e)
slot_there (x ∷ slots) zero h e = omega arith
slot_there (x ∷ slots) (suc p) h e = let later = slot_there slots p h e in omega (arith, later)

pub slot_here : (w : World) (u p : ℕ) (h : Held) (e : Scene) → slot_at w p ≡ Some h → slot_at (with_scene w u p e) p ≡ Some e.held
slot_here w u p h e there = get_or-set_same w.slots p (Some e.held) None (slot_there w.slots p h there)

pub deed_changed : (w : World) (line u id : ℕ) (d : Deed) → Sound w → InHand w u id → May u d (scene_of w u)
    → Changed w (with_scene w u (slot_in_hand (unit_at w u)) (effect line u (slot_in_hand (unit_at w u)) d (scene_of w u))) u
deed_changed w line u id d s i may =
    let p : ℕ = slot_in_hand (unit_at w u) in
    let e : Scene = effect line u p d (scene_of w u) in
    record {
      units = λ x other. get_or-set_other w.units u x e.unit no_unit other;
      adapters = λ a other. get_or-set_other w.adapters (adapter_of u) a e.adapter new_adapter_view other;
      held = λ x lt other goes. get_or-set_other w.slots p (slot_in_hand (unit_at w x)) (Some e.held) None (other_slot w u id x s i lt other goes);
      leaves = subst (LeavesOthers u (adapter_at w (adapter_of u))) (sym (adapter_here w u p e s i.unit)) (leaves_others line u p d (scene_of w u) may);
    }
