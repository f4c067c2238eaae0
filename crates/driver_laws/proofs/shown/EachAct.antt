-- Each act keeps what the driver stands for.
use Rattle.std.proofs.Common.{◌≡◌, inl, inr, ℕ, ◌<◌, true, false, List, [], ◌∷◌, ◌++◌, drop, length, get_or-set_other, Option, Some, None, refl, sym, ap, ◌∙◌, subst, arith, rules}
use Rattle.std.specs.Prelude.{Contains, unwrap_or, slice_index_or, slice_set}
use Rattle.std.specs.Option.{option_map_or}
use Rattle.std.proofs.lemmas.Bool.{cases_eq}
use Rattle.std.proofs.lemmas.List.Elements.{All-weaker}
use Rattle.pack_geometry.specs.Pack.{Pack}
use Rattle.hardware_table.specs.Adapter.{AdapterState}
use Rattle.hardware_table.specs.Drive.{DriveState}
use Rattle.hardware_table.specs.Events.{turned, fault_armed, online_set, locked_set}
use Rattle.hardware_table.specs.Noise.{LiveNoise}
use Rattle.trace_replay.specs.Script as script
use Rattle.trace_replay.specs.Script.{Input}
use Rattle.driver_laws.specs.rules.Machine.{Blocks}
use Rattle.driver_laws.specs.rules.Stands.{is_sure_among, IsLive}
use Rattle.driver_laws.proofs.rules.Noises.{armed_live}
use Rattle.driver_machine.specs.declared.Made.{Made}
use Rattle.driver_machine.specs.World.{World, UnitView, AdapterView, Held, no_held, new_adapter_view, adapter_of, unit_at, adapter_at, held_in, slot_in_hand}
use Rattle.driver_machine.specs.Acts.{Refuse, Submit, Of, Change, Nothing, Taken, joined, with_drive, with_unit_drive, answer_at, freed, after}
use Rattle.driver_machine.specs.Guards.{IsSetUp, IsNew, MayChange}
use Rattle.driver_machine.specs.Sound.{Sound, Among, Once, slot_made, slots_made, is_waiting}
use Rattle.driver_laws.proofs.invariant.Frame.{Changed}
use Rattle.driver_laws.proofs.invariant.EachAct.{goes_slot, submit_changed, unit_new, same_hand, taken_changed}
use Rattle.driver_laws.proofs.invariant.Units.{IsSameDrive, turned_same, armed_same, online_same, locked_same, drive_changed, changed_unit}
use Rattle.driver_laws.proofs.invariant.Quiet.{among_made}
use Rattle.driver_laws.specs.shown.Bytes.{UnitBears, StepsFrom, maps_behind, AreSteps, Bears}
use Rattle.driver_laws.specs.shown.QuietLaws.{armed_with, maps_taken, ActsBear}
use Rattle.driver_laws.proofs.shown.Hand.{hand_less}
use Rattle.driver_laws.proofs.shown.Others.{same_move, unit_as, waits_none, other_bears}
use Rattle.driver_laws.proofs.shown.Answers.{Stays, StaySlots, steps_stay, steps_more}
use Rattle.driver_laws.proofs.shown.QuietEachDeed.{deed_kept}

-- FEWER SECTORS ARE SURE where more noise was armed.
module _ (armed more : List LiveNoise) (fewer : (x sector : ℕ) → is_sure_among more x sector → is_sure_among armed x sector) where
  pub less_sure : (pack : Pack) (blocks : Blocks) (u : ℕ) (v : UnitView) (a : AdapterState) (h : Held) → UnitBears (is_sure_among armed u) pack blocks v a h
      → UnitBears (is_sure_among more u) pack blocks v a h
  less_sure pack blocks u v a h b = record { table = b.table; hand = hand_less (is_sure_among armed u) (is_sure_among more u) v.drive.kind v.table pack blocks h _ _ _ (fewer u) b.hand }

  pub bears_less : (w : World) (held : ℕ → Pack) (first : ℕ → Blocks) → Bears armed w held first → Bears more w held first
  bears_less w held first b = record {
    now = b.now;
    answers = steps_stay armed more w w held held w.answers first b.now
        (record { kinds = λ x. refl; tables = λ x. refl; marks = λ x. refl; fewer = fewer }) (λ made q c is. refl) b.answers;
    units = λ x set. less_sure (held x) (b.now x) x (unit_at w x) (adapter_at w (adapter_of x)).state (held_in w (slot_in_hand (unit_at w x))) (b.units x set);
    noise = All-weaker (IsLive armed) (IsLive more) (λ n is. record { noise = is.noise; no_alias = λ sure. is.no_alias (fewer n.unit n.block sure) }) w.book.live b.noise;
  }

-- A CHANGE that leaves all units, adapters and requests in hand as they were
unit_kept : (sure : ℕ → Type 0) (pack : Pack) (blocks : Blocks) (w now : World) (x : ℕ) → Sound w → Changed w now 32 → now.adapters ≡ w.adapters → x < 32
    → UnitBears sure pack blocks (unit_at w x) (adapter_at w (adapter_of x)).state (held_in w (slot_in_hand (unit_at w x)))
    → UnitBears sure pack blocks (unit_at now x) (adapter_at now (adapter_of x)).state (held_in now (slot_in_hand (unit_at now x)))
unit_kept sure pack blocks w now x s c adapters lt b =
    other_bears sure pack blocks w now 32 x s c (λ busy other. ap (λ (all : List AdapterView). (slice_index_or all (adapter_of 32) new_adapter_view).state.moved) adapters) lt
    (λ same. absurd (omega (arith, lt, same))) b

-- A CONDITION of a drive
drive_kept : (armed : List LiveNoise) (w : World) (u : ℕ) (f : DriveState → DriveState) (held : ℕ → Pack) (first : ℕ → Blocks) → Sound w → u < 32
    → IsSameDrive (unit_at w u).drive (f (unit_at w u).drive) → Bears armed w held first → Bears armed (with_unit_drive u f w) held first
drive_kept armed w u f held first s small same b = record {
  now = b.now;
  answers = steps_stay armed armed w now held held w.answers first b.now stays (λ made q c is. refl) b.answers;
  units = λ x set. elim (cases_eq x u) [
    | inl one ↦ subst (λ k. UnitBears (is_sure_among armed k) (held k) (b.now k) (unit_at now k) (adapter_at w (adapter_of k)).state (held_in w (slot_in_hand (unit_at now k)))) (sym one) (mine (subst (IsSetUp now) one set))
    | inr other ↦ other_bears (is_sure_among armed x) (held x) (b.now x) w now u x s changed (λ busy apart. refl) set.unit other
        (b.units x (record { unit = set.unit; declared = subst (λ (y : UnitView). y.declared ≡ true) (changed.units x other) set.declared }))
  ];
  noise = b.noise;
}
  where
    now : World
    now = with_unit_drive u f w

    changed : Changed w now u
    changed = drive_changed w u f

    unit_is : unit_at now u ≡ with_drive f (unit_at w u)
    unit_is = changed_unit w u f s small

    stays : Stays armed armed w now held held
    stays = record {
      kinds = λ x. elim (cases_eq x u) [
        | inl one ↦ subst (λ k. (unit_at now k).drive.kind ≡ (unit_at w k).drive.kind) (sym one) (ap (λ (y : UnitView). y.drive.kind) unit_is ∙ same.kind)
        | inr other ↦ ap (λ (y : UnitView). y.drive.kind) (changed.units x other)
      ];
      tables = λ x. elim (cases_eq x u) [
        | inl one ↦ subst (λ k. (unit_at now k).table ≡ (unit_at w k).table) (sym one) (ap (λ (y : UnitView). y.table) unit_is)
        | inr other ↦ ap (λ (y : UnitView). y.table) (changed.units x other)
      ];
      marks = λ x. refl;
      fewer = λ x sector is. is;
    }

    mine : IsSetUp now u → UnitBears (is_sure_among armed u) (held u) (b.now u) (unit_at now u) (adapter_at w (adapter_of u)).state (held_in w (slot_in_hand (unit_at now u)))
    mine set =
        let was = b.units u (record { unit = small; declared = sym (ap (λ (y : UnitView). y.declared) unit_is) ∙ set.declared }) in
        subst (λ (y : UnitView). UnitBears (is_sure_among armed u) (held u) (b.now u) y (adapter_at w (adapter_of u)).state (held_in w (slot_in_hand y))) (sym unit_is)
        (unit_as (is_sure_among armed u) (held u) (b.now u) (unit_at w u) (with_drive f (unit_at w u)) (adapter_at w (adapter_of u)).state (adapter_at w (adapter_of u)).state
        (held_in w (slot_in_hand (unit_at w u))) (held_in w (slot_in_hand (unit_at w u))) refl refl refl same.kind (λ phase. same_move (adapter_at w (adapter_of u)).state) (λ goes. refl)
        (waits_none w u s small) was)

noise_kept : (armed : List LiveNoise) (w : World) (noise : LiveNoise) (held : ℕ → Pack) (first : ℕ → Blocks) → Sound w → MayChange w (script.Noise noise) → Bears armed w held first
    → Bears (noise ∷ armed) (after w (Change (script.Noise noise))) held first
noise_kept armed w noise held first s may b = record {
  now = b.now;
  answers = steps_stay armed (noise ∷ armed) w (after w (Change (script.Noise noise))) held held w.answers first b.now
      (record { kinds = λ x. refl; tables = λ x. refl; marks = λ x. refl; fewer = λ x sector is. is.0 }) (λ made q c is. refl) b.answers;
  units = λ x set. less_sure armed (noise ∷ armed) (λ y sector is. is.0) (held x) (b.now x) x (unit_at w x) (adapter_at w (adapter_of x)).state (held_in w (slot_in_hand (unit_at w x)))
      (b.units x (record { unit = set.unit; declared = set.declared }));
  noise = armed_live armed w.book.live noise may.2 b.noise;
}

change_kept : (armed : List LiveNoise) (w : World) (input : Input) (held : ℕ → Pack) (first : ℕ → Blocks) → Sound w → MayChange w input → Bears armed w held first
    → Bears (armed_with armed (Change input)) (after w (Change input)) held first
change_kept armed w (script.Turn u sector) held first s may b = drive_kept armed w u (turned sector) held first s may.0.unit (turned_same sector (unit_at w u).drive) b
change_kept armed w (script.Noise noise) held first s may b = noise_kept armed w noise held first s may b
change_kept armed w (script.Arm u kind times) held first s may b = drive_kept armed w u (fault_armed kind times) held first s may.0.unit (armed_same kind times (unit_at w u).drive) b
change_kept armed w (script.SetOnline u on) held first s may b = drive_kept armed w u (online_set on) held first s may.unit (online_same on (unit_at w u).drive) b
change_kept armed w (script.SetLocked u on) held first s may b = drive_kept armed w u (locked_set on) held first s may.unit (locked_same on (unit_at w u).drive) b
change_kept armed w input held first s may b = absurd may

-- A REQUEST JOINS behind the head, where there is one.
module _ (armed : List LiveNoise) (w : World) (line p : ℕ) (h : Held) (held : ℕ → Pack) (first : ℕ → Blocks) (s : Sound w) (is : IsNew w p h) (b : Bears armed w held first) where
  abbrev old : UnitView
  old = unit_at w h.unit

  abbrev now : World
  now = after w (Submit line p h)

  abbrev new : UnitView
  new = joined p h old

  lt : h.unit < 32
  lt = is.unit.unit

  same_held : is_waiting old.phase ≡ false → held_in now (slot_in_hand new) ≡ held_in w (slot_in_hand old)
  same_held goes = ap (held_in now) (same_hand w line p h s is goes) ∙ ap (λ (o : Option Held). unwrap_or o no_held) (goes_slot w line p h s is h.unit lt goes)

  joined_stays : Stays armed armed w now held held
  joined_stays = record {
    kinds = λ x. elim (cases_eq x h.unit) [
      | inl one ↦ subst (λ k. (unit_at now k).drive.kind ≡ (unit_at w k).drive.kind) (sym one) (ap (λ (y : UnitView). y.drive.kind) (unit_new w line p h s is))
      | inr other ↦ ap (λ (y : UnitView). y.drive.kind) ((submit_changed w line p h s is).units x other)
    ];
    tables = λ x. elim (cases_eq x h.unit) [
      | inl one ↦ subst (λ k. (unit_at now k).table ≡ (unit_at w k).table) (sym one) (ap (λ (y : UnitView). y.table) (unit_new w line p h s is))
      | inr other ↦ ap (λ (y : UnitView). y.table) ((submit_changed w line p h s is).units x other)
    ];
    marks = λ x. refl;
    fewer = λ x sector sure. sure;
  }

  joined_slots : StaySlots w now w.answers
  joined_slots made q c slot = search rules

  mine : UnitBears (is_sure_among armed h.unit) (held h.unit) (b.now h.unit) (unit_at now h.unit) (adapter_at w (adapter_of h.unit)).state (held_in now (slot_in_hand (unit_at now h.unit)))
  mine =
      subst (λ (y : UnitView). UnitBears (is_sure_among armed h.unit) (held h.unit) (b.now h.unit) y (adapter_at w (adapter_of h.unit)).state (held_in now (slot_in_hand y))) (sym (unit_new w line p h s is))
      (unit_as (is_sure_among armed h.unit) (held h.unit) (b.now h.unit) old new (adapter_at w (adapter_of h.unit)).state (adapter_at w (adapter_of h.unit)).state
      (held_in w (slot_in_hand old)) (held_in now (slot_in_hand new)) refl refl refl refl (λ phase. same_move (adapter_at w (adapter_of h.unit)).state) same_held (waits_none w h.unit s lt)
      (b.units h.unit is.unit))

  submit_kept : Bears armed now held first
  submit_kept = record {
    now = b.now;
    answers = steps_stay armed armed w now held held w.answers first b.now joined_stays joined_slots b.answers;
    units = λ x set. elim (cases_eq x h.unit) [
      | inl one ↦ subst (λ k. UnitBears (is_sure_among armed k) (held k) (b.now k) (unit_at now k) (adapter_at w (adapter_of k)).state (held_in now (slot_in_hand (unit_at now k)))) (sym one) mine
      | inr other ↦ other_bears (is_sure_among armed x) (held x) (b.now x) w now h.unit x s (submit_changed w line p h s is) (λ busy apart. refl) set.unit other
          (b.units x (record { unit = set.unit; declared = subst (λ (y : UnitView). y.declared ≡ true) ((submit_changed w line p h s is).units x other) set.declared }))
    ];
    noise = b.noise;
  }

-- A REFUSAL says nothing.
refuse_kept : (armed : List LiveNoise) (w later : World) (made : Made) (held : ℕ → Pack) (first : ℕ → Blocks) → Sound w → made.slot ≡ None → later ≡ record w { answers = w.answers ++ made ∷ [] }
    → Bears armed w held first → Bears armed later held first
refuse_kept armed w later made held first s none is b = subst (λ (x : World). Bears armed x held first) (sym is) (record {
  now = b.now;
  answers = subst (λ (maps : ℕ → Blocks). AreSteps armed (record w { answers = w.answers ++ made ∷ [] }) held (w.answers ++ made ∷ []) first maps)
      (ap (λ (o : Option ℕ). maps_behind w b.now o made.answer.kind) none)
      (steps_more armed (record w { answers = w.answers ++ made ∷ [] }) held w.answers made first b.now
      (steps_stay armed armed w (record w { answers = w.answers ++ made ∷ [] }) held held w.answers first b.now
      (record { kinds = λ x. refl; tables = λ x. refl; marks = λ x. refl; fewer = λ x sector sure. sure }) (λ m q c slot. refl) b.answers)
      (subst (λ (o : Option ℕ). StepsFrom armed (record w { answers = w.answers ++ made ∷ [] }) held b.now o made.answer.kind) (sym none) tt));
  units = λ x set. b.units x (record { unit = set.unit; declared = set.declared });
  noise = b.noise;
})

-- THE TAKING frees the slot of the first answer: no other waits for it, and no unit has it in hand.
rest_slots : (made : Made) (rest : List Made) (slots : List (Option Held)) (slot : Option ℕ) → made.slot ≡ slot → Once (slots_made (made ∷ rest))
    → (other : Made) (q : ℕ) → Contains rest other → other.slot ≡ Some q → slice_index_or (option_map_or (λ p. slice_set slots p None) slot slots) q None ≡ slice_index_or slots q None
rest_slots made rest slots None is once other q c at = refl
rest_slots made rest slots (Some p) is once other q c at =
    let first_once : Once (p ∷ slots_made rest) = subst (λ (o : Option ℕ). Once (slot_made o (slots_made rest))) is once in
    get_or-set_other slots p q None None (λ same. first_once.0 (subst (λ (r : ℕ). Among r (slots_made rest)) same (among_made rest other q c at)))

taken_steps : (armed : List LiveNoise) (w : World) (held : ℕ → Pack) (answers : List Made) (first last : ℕ → Blocks) → w.answers ≡ answers → 0 < length answers → Sound w
    → AreSteps armed w held answers first last → AreSteps armed (record w { slots = freed answers w.slots; answers = drop 1 answers }) held (drop 1 answers) (maps_taken w answers first) last
taken_steps armed w held [] first last waits some s are = absurd (omega (arith, some))
taken_steps armed w held (made ∷ rest) first last waits some s are =
    steps_stay armed armed w (record w { slots = freed (made ∷ rest) w.slots; answers = rest }) held held rest (maps_behind w first made.slot made.answer.kind) last
    (record { kinds = λ x. refl; tables = λ x. refl; marks = λ x. refl; fewer = λ x sector sure. sure })
    (λ other q c at. rest_slots made rest w.slots made.slot refl (subst (λ (l : List Made). Once (slots_made l)) waits s.once) other q c at) are.1

taken_kept : (armed : List LiveNoise) (w : World) (held : ℕ → Pack) (first : ℕ → Blocks) → Sound w → 0 < length w.answers → Bears armed w held first
    → Bears armed (after w Taken) held (maps_taken w w.answers first)
taken_kept armed w held first s some b = record {
  now = b.now;
  answers = taken_steps armed w held w.answers first b.now refl some s b.answers;
  units = λ x set. unit_kept (is_sure_among armed x) (held x) (b.now x) w (after w Taken) x s (taken_changed w s) refl set.unit (b.units x (record { unit = set.unit; declared = set.declared }));
  noise = b.noise;
}

-- EACH ACT
pub acts_bear : ActsBear
acts_bear armed w (Refuse line r kind) held first s may reads b = refuse_kept armed w (after w (Refuse line r kind)) (answer_at line None r.id kind) held first s refl refl b
acts_bear armed w (Submit line p h) held first s may reads b = submit_kept armed w line p h held first s may b
acts_bear armed w (Of line u id d) held first s may reads b = deed_kept armed w line u id d held first s may reads b
acts_bear armed w (Change input) held first s may reads b = change_kept armed w input held first s may b
acts_bear armed w (Nothing line) held first s may reads b = b
acts_bear armed w Taken held first s may reads b = taken_kept armed w held first s may b
