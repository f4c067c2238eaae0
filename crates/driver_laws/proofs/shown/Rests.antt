-- With nothing outstanding the driver stands for what its packs hold.
use Rattle.std.proofs.Common.{◌≡◌, ◌⊎◌, inl, inr, ℕ, zero, suc, ◌<◌, false, List, [], ◌∷◌, replicate, All, Option, None, refl, sym, ap, ◌∙◌, subst, rules}
use Rattle.std.specs.Prelude.{Contains, slice_index_or, unwrap_or}
use Rattle.std.proofs.lemmas.Bool.{false≢true}
use Rattle.std.proofs.lemmas.Option.{none-some}
use Rattle.std.proofs.lemmas.List.Elements.{All-nil}
use Rattle.pack_geometry.specs.Pack.{Pack}
use Rattle.pack_geometry.specs.PackTable.{IsTableOf}
use Rattle.hardware_table.specs.declared.Moved.TheVariants as verdict
use Rattle.hardware_table.specs.Noise.{LiveNoise}
use Rattle.transfer_engine.specs.State.{TransferState}
use Rattle.disksort.specs.declared.Waiter.{Waiter}
use Rattle.driver_laws.specs.rules.Stands.{is_sure_among, IsLive}
use Rattle.driver_machine.specs.declared.Made.{Made}
use Rattle.driver_machine.specs.declared.Phase.{Phase}
use Rattle.driver_machine.specs.declared.Phase.TheVariants.{Waiting}
use Rattle.driver_machine.specs.World.{World, UnitView, Held, Setup, new_unit, new_world, no_transfer, adapter_of, unit_at, adapter_at, held_in, slot_in_hand, transfer_of}
use Rattle.driver_machine.specs.Guards.{IsSetUp}
use Rattle.driver_machine.specs.Sound.{Among, Sound, AtWork, WorkOf, is_waiting}
use Rattle.driver_laws.specs.invariant.Setups.{units_of}
use Rattle.driver_laws.proofs.invariant.SlotsLists.{Contains-first, Contains-later}
use Rattle.driver_laws.proofs.invariant.Starts.{stands_new, others_new}
use Rattle.driver_laws.proofs.invariant.Frame.{head_out}
use Rattle.driver_laws.specs.shown.Bytes.{HandBears, UnitBears, AreSteps}
use Rattle.driver_laws.specs.shown.QuietLaws.{contents_in, Rests, RestBears, NewRests}
use Rattle.driver_laws.proofs.shown.Hand.{hand_waits}
use Rattle.driver_laws.proofs.shown.Deeds.{At}
use Rattle.driver_laws.proofs.shown.Others.{waits_none}

-- a unit without an outstanding request waits
waits_only : (p : Phase) (queue : List Waiter) → WorkOf p queue → (is_waiting p ≡ false → ⊥) → p ≡ Waiting
waits_only p queue works never = search rules

unit_waits : (w : World) (held : ℕ → Pack) (u : ℕ) → Sound w → AtWork w → Rests w held → u < 32 → (unit_at w u).phase ≡ Waiting
unit_waits w held u s work rests lt =
    let ok = s.each_unit u lt in
    waits_only (unit_at w u).phase (unit_at w u).queue (work.units u lt) (λ goes.
    let out = head_out w u ok (ok.head goes) in
    false≢true (sym out.going_on ∙ rests.none _ out.held out.slot))

unit_rests : (w : World) (held : ℕ → Pack) (u : ℕ) → Sound w → AtWork w → Rests w held → IsSetUp w u
    → UnitBears (is_sure_among [] u) (held u) (contents_in w held u) (unit_at w u) (adapter_at w (adapter_of u)).state (held_in w (slot_in_hand (unit_at w u)))
unit_rests w held u s work rests set =
    let v : UnitView = unit_at w u in
    let phase : v.phase ≡ Waiting = unit_waits w held u s work rests set.unit in
    let begun : v.transfer ≡ None = waits_none w u s set.unit phase in
    let at : HandBears (is_sure_among [] u) v.drive.kind v.table (held u) (contents_in w held u) (held_in w (slot_in_hand v)) (transfer_of v) 0 verdict.Clean =
    hand_waits (is_sure_among [] u) v.drive.kind v.table (held u) (contents_in w held u) (held_in w (slot_in_hand v)) (transfer_of v)
    (ap (λ (o : Option TransferState). (unwrap_or o no_transfer).index) begun) (λ b. refl) in
    record {
      table = rests.tables u set;
      hand = subst (λ p. At (is_sure_among [] u) v.drive.kind v.table (held u) (contents_in w held u) (held_in w (slot_in_hand v)) v.transfer p (adapter_at w (adapter_of u)).state) (sym phase) at;
    }

pub rest_bears : RestBears
rest_bears w held s work rests = record {
  now = contents_in w held;
  answers = subst (λ (l : List Made). AreSteps [] w held l (contents_in w held) (contents_in w held)) (sym rests.taken) refl;
  units = λ u set. unit_rests w held u s work rests set;
  noise = subst (λ (l : List LiveNoise). All (IsLive []) l) (sym rests.live) (All-nil (IsLive []));
}

-- A NEW DRIVER: each unit that is set up is one of the setups'
among_or : (u : ℕ) (xs : List ℕ) → Among u xs ⊎ (Among u xs → ⊥)
among_or u [] = inr (λ is. is)
among_or u (x ∷ xs) = search (rules, among_or u xs)

found : (u : ℕ) (setups : List Setup) → Among u (units_of setups) → (s : Setup) × Contains setups s × (s.unit ≡ u)
found u [] is = absurd is
found u (s ∷ rest) (inl same) = (s, Contains-first s rest, sym same)
found u (s ∷ rest) (inr later) = let f = found u rest later in (f.0, Contains-later f.0 s rest f.1, f.2)

abbrev none : Option Held
none = None

none_held : (n p : ℕ) → slice_index_or (replicate n none) p none ≡ none
none_held zero p = refl
none_held (suc n) zero = refl
none_held (suc n) (suc p) = none_held n p

pub new_rests : NewRests
new_rests setups outstanding noises held are tables = record {
  none = λ p h e. absurd (none-some h (sym (none_held outstanding p) ∙ e));
  taken = refl;
  live = refl;
  tables = λ u set. elim (among_or u (units_of setups)) [
    | inr apart ↦ absurd (false≢true (ap (λ (y : UnitView). y.declared) (sym (others_new setups outstanding noises are u apart)) ∙ set.declared))
    | inl among ↦ there u (found u setups among)
  ];
}
  where
    there : (u : ℕ) → (s : Setup) × Contains setups s × (s.unit ≡ u)
        → IsTableOf (unit_at (new_world setups outstanding noises) u).drive.kind (held u) (unit_at (new_world setups outstanding noises) u).table
    there u f =
        let at : unit_at (new_world setups outstanding noises) f.0.unit ≡ new_unit f.0 = stands_new setups outstanding noises are f.0 f.1 in
        subst (λ x. IsTableOf (unit_at (new_world setups outstanding noises) x).drive.kind (held x) (unit_at (new_world setups outstanding noises) x).table) f.2
        (subst (λ (y : UnitView). IsTableOf y.drive.kind (held f.0.unit) y.table) (sym at) (tables f.0 f.1))
