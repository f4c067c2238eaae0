-- Where a unit stands as it did: its request in hand too, whatever else changes.
use Rattle.std.proofs.Common.{◌≡◌, ◌≢◌, inl, inr, ℕ, ◌<◌, Bool, true, false, Option, None, refl, sym, ap, ◌∙◌, subst, rules}
use Rattle.std.specs.Prelude.{unwrap_or}
use Rattle.std.proofs.lemmas.Bool.{cases_eq, false≢true}
use Rattle.pack_geometry.specs.declared.DriveKind.{DriveKind}
use Rattle.pack_geometry.specs.Pack.{Pack}
use Rattle.pack_geometry.specs.TableSpelling.{Table}
use Rattle.pack_geometry.specs.PackTable.{IsTableOf}
use Rattle.hardware_table.specs.declared.Moved.TheVariants as verdict
use Rattle.hardware_table.specs.Adapter.{AdapterState}
use Rattle.transfer_engine.specs.State.{TransferState}
use Rattle.driver_laws.specs.rules.Machine.{Blocks}
use Rattle.driver_machine.specs.declared.Phase.{Phase}
use Rattle.driver_machine.specs.declared.Phase.TheVariants.{Waiting, Transferring}
use Rattle.driver_machine.specs.World.{World, UnitView, AdapterView, Held, no_held, no_transfer, adapter_of, drive_of, unit_at, adapter_at, held_in, slot_in_hand}
use Rattle.driver_machine.specs.Acts.{Deed, Scene, effect}
use Rattle.driver_machine.specs.Guards.{May}
use Rattle.driver_machine.specs.Sound.{IsPhase, Sound, is_waiting}
use Rattle.driver_laws.proofs.invariant.Frame.{Changed}
use Rattle.driver_laws.proofs.invariant.Others.{IsSameTransfer, one_unit}
use Rattle.driver_laws.specs.shown.Bytes.{HandBears, UnitBears}
use Rattle.driver_laws.proofs.shown.Hand.{hand_waits, hand_holds}
use Rattle.driver_laws.proofs.shown.Deeds.{At}

-- the transfer of an adapter goes on as it was
pub record IsSameMove (old new : AdapterState) : Type 0 where
  pub completion : new.completion ≡ old.completion
  pub verdict : new.verdict ≡ old.verdict
  pub moved : new.moved ≡ old.moved

pub same_move : (a : AdapterState) → IsSameMove a a
same_move a = record { completion = refl; verdict = refl; moved = refl }

waits_is : (phase : Phase) → is_waiting phase ≡ true → phase ≡ Waiting
waits_is Waiting is = refl
waits_is other is = absurd (false≢true is)

module _ (sure : ℕ → Type 0) (pack : Pack) (blocks : Blocks) where
  at_adapter : (kind : DriveKind) (table : Option Table) (h : Held) (t : Option TransferState) (phase : Phase) (a c : AdapterState) → (phase ≡ Transferring → IsSameMove a c)
      → At sure kind table pack blocks h t phase a → At sure kind table pack blocks h t phase c
  at_adapter kind table h t phase a c same b = search rules

  -- a unit that waits has nothing done of any request
  at_held : (kind : DriveKind) (table : Option Table) (h g : Held) (t : Option TransferState) (phase : Phase) (a : AdapterState) → (is_waiting phase ≡ false → g ≡ h)
      → (phase ≡ Waiting → t ≡ None) → At sure kind table pack blocks h t phase a → At sure kind table pack blocks g t phase a
  at_held kind table h g t phase a same none b = by (is_waiting phase) refl
    where
      waiting : phase ≡ Waiting → At sure kind table pack blocks g t phase a
      waiting is =
          let was : HandBears sure kind table pack blocks h (unwrap_or t no_transfer) 0 verdict.Clean = subst (λ p. At sure kind table pack blocks h t p a) is b in
          let now : HandBears sure kind table pack blocks g (unwrap_or t no_transfer) 0 verdict.Clean =
          hand_waits sure kind table pack blocks g (unwrap_or t no_transfer) (ap (λ (o : Option TransferState). (unwrap_or o no_transfer).index) (none is))
          (hand_holds sure kind table pack blocks h (unwrap_or t no_transfer) 0 verdict.Clean was refl) in
          subst (λ p. At sure kind table pack blocks g t p a) (sym is) now

      by : (w : Bool) → is_waiting phase ≡ w → At sure kind table pack blocks g t phase a
      by true is = waiting (waits_is phase is)
      by false is = subst (λ x. At sure kind table pack blocks x t phase a) (sym (same is)) b

  abbrev Unit : Held → AdapterState → DriveKind → Option Table → Option TransferState → Phase → Type 0
  Unit h a kind table t phase = IsTableOf kind pack table × At sure kind table pack blocks h t phase a

  -- A UNIT AS IT WAS, with an adapter and a request in hand that are as far as they were
  pub unit_as : (v x : UnitView) (a c : AdapterState) (h g : Held) → x.phase ≡ v.phase → x.transfer ≡ v.transfer → x.table ≡ v.table → x.drive.kind ≡ v.drive.kind
      → (v.phase ≡ Transferring → IsSameMove a c) → (is_waiting v.phase ≡ false → g ≡ h) → (v.phase ≡ Waiting → v.transfer ≡ None)
      → UnitBears sure pack blocks v a h → UnitBears sure pack blocks x c g
  unit_as v x a c h g phase transfer table kind adapter held none b =
      let moved : At sure v.drive.kind v.table pack blocks h v.transfer v.phase c = at_adapter v.drive.kind v.table h v.transfer v.phase a c adapter b.hand in
      let kept : Unit g c v.drive.kind v.table v.transfer v.phase = (b.table, at_held v.drive.kind v.table h g v.transfer v.phase c held none moved) in
      let now : Unit g c x.drive.kind x.table x.transfer x.phase =
      subst (λ k. Unit g c k x.table x.transfer x.phase) (sym kind)
      (subst (λ k. Unit g c v.drive.kind k x.transfer x.phase) (sym table)
      (subst (λ k. Unit g c v.drive.kind v.table k x.phase) (sym transfer)
      (subst (λ k. Unit g c v.drive.kind v.table v.transfer k) (sym phase) kept))) in
      record { table = now.0; hand = now.1 }

-- THE OTHER UNITS: their adapters move for them as they did,
abbrev pub LeavesMoves : (u : ℕ) (old new : AdapterView) → Type 0
LeavesMoves u old new = old.state.busy ≡ true → old.state.drive ≢ drive_of u → new.state.moved ≡ old.state.moved

pub leaves_moves : (line u p : ℕ) (d : Deed) (s : Scene) → May u d s → LeavesMoves u s.adapter (effect line u p d s).adapter
leaves_moves line u p d s may busy other = search rules

waiting_none : (x : ℕ) (v : UnitView) (a : AdapterView) (h : Held) → IsPhase x v a h v.phase → v.phase ≡ Waiting → v.transfer ≡ None
waiting_none x v a h is phase = let at : IsPhase x v a h Waiting = subst (IsPhase x v a h) phase is in at.1

pub waits_none : (w : World) (x : ℕ) → Sound w → x < 32 → (unit_at w x).phase ≡ Waiting → (unit_at w x).transfer ≡ None
waits_none w x s lt phase = waiting_none x (unit_at w x) (adapter_at w (adapter_of x)) (held_in w (slot_in_hand (unit_at w x))) (s.each_unit x lt).phase phase

-- and so they stand.
pub other_bears : (sure : ℕ → Type 0) (pack : Pack) (blocks : Blocks) (w now : World) (u x : ℕ) → Sound w → Changed w now u
    → LeavesMoves u (adapter_at w (adapter_of u)) (adapter_at now (adapter_of u)) → x < 32 → x ≢ u
    → UnitBears sure pack blocks (unit_at w x) (adapter_at w (adapter_of x)).state (held_in w (slot_in_hand (unit_at w x)))
    → UnitBears sure pack blocks (unit_at now x) (adapter_at now (adapter_of x)).state (held_in now (slot_in_hand (unit_at now x)))
other_bears sure pack blocks w now u x s c moves lt other b =
    let v : UnitView = unit_at w x in
    let same : unit_at now x ≡ v = c.units x other in
    unit_as sure pack blocks v (unit_at now x) (adapter_at w (adapter_of x)).state (adapter_at now (adapter_of x)).state (held_in w (slot_in_hand v)) (held_in now (slot_in_hand (unit_at now x)))
    (ap (λ (y : UnitView). y.phase) same) (ap (λ (y : UnitView). y.transfer) same) (ap (λ (y : UnitView). y.table) same) (ap (λ (y : UnitView). y.drive.kind) same)
    (λ phase. goes_on phase) (λ goes. ap (λ (y : UnitView). held_in now (slot_in_hand y)) same ∙ ap (λ (o : Option Held). unwrap_or o no_held) (c.held x lt other goes))
    (waits_none w x s lt) b
  where
    goes_on : (unit_at w x).phase ≡ Transferring → IsSameMove (adapter_at w (adapter_of x)).state (adapter_at now (adapter_of x)).state
    goes_on phase = elim (cases_eq (adapter_of x) (adapter_of u)) [
      | inr apart ↦ subst (λ (a : AdapterView). IsSameMove (adapter_at w (adapter_of x)).state a.state) (sym (c.adapters (adapter_of x) apart)) (same_move (adapter_at w (adapter_of x)).state)
      | inl one ↦ subst (λ n. IsSameMove (adapter_at w n).state (adapter_at now n).state) (sym one) (here one)
    ]
      where
        here : adapter_of x ≡ adapter_of u → IsSameMove (adapter_at w (adapter_of u)).state (adapter_at now (adapter_of u)).state
        here one =
            let is : IsPhase x (unit_at w x) (adapter_at w (adapter_of x)) (held_in w (slot_in_hand (unit_at w x))) Transferring =
            subst (IsPhase x (unit_at w x) (adapter_at w (adapter_of x)) (held_in w (slot_in_hand (unit_at w x)))) phase (s.each_unit x lt).phase in
            let busy : (adapter_at w (adapter_of u)).state.busy ≡ true = subst (λ n. (adapter_at w n).state.busy ≡ true) one is.2 in
            let drive : (adapter_at w (adapter_of u)).state.drive ≡ drive_of x = subst (λ n. (adapter_at w n).state.drive ≡ drive_of x) one is.3 in
            let apart : (adapter_at w (adapter_of u)).state.drive ≢ drive_of u = λ (e : (adapter_at w (adapter_of u)).state.drive ≡ drive_of u). other (one_unit x u one (sym drive ∙ e)) in
            let t : IsSameTransfer (adapter_at w (adapter_of u)).state (adapter_at now (adapter_of u)).state = c.leaves.transfers busy apart in
            record { completion = t.completion; verdict = t.verdict; moved = moves busy apart }
