-- Each act keeps what holds of units and adapters.
use Rattle.std.proofs.Common.{◌≡◌, ◌≢◌, inl, inr, ℕ, ◌<◌, false, List, [], ◌∷◌, length, get_or-set_same, get_or-set_other, Option, Some, None, refl, sym, ap, ◌∙◌, subst, arith, rules}
use Rattle.std.specs.Prelude.{unwrap_or, slice_index_or, slice_set, Contains}
use Rattle.std.specs.Option.{option_map_or}
use Rattle.std.proofs.lemmas.Bool.{cases_eq, false≢true}
use Rattle.std.proofs.lemmas.Option.{none-some, same_Some}
use Rattle.std.proofs.lemmas.List.Elements.{Contains-get_or}
use Rattle.hardware_table.specs.Drive.{DriveState}
use Rattle.hardware_table.specs.Events.{turned, fault_armed, online_set, locked_set}
use Rattle.disksort.specs.declared.Waiter.{Waiter}
use Rattle.trace_replay.specs.Script as script
use Rattle.trace_replay.specs.Script.{Input}
use Rattle.trace_replay.specs.requests.ServiceOrder.{IsInOrder, queue_with}
use Rattle.trace_replay.proofs.requests.ServiceOrderLaws.{queue_with-head}
use Rattle.driver_machine.specs.declared.Made.{Made}
use Rattle.driver_machine.specs.World.{World, UnitView, AdapterView, Held, no_held, no_unit, adapter_of, unit_at, adapter_at, slot_at, held_in, slot_in_hand}
use Rattle.driver_machine.specs.Acts.{Act, Refuse, Submit, Of, Change, Nothing, Taken, joined, with_drive, with_unit_drive, freed, after}
use Rattle.driver_machine.specs.Guards.{IsNew, MayChange, Allowed}
use Rattle.driver_machine.specs.Sound.{IsDrive, IsPhase, AdapterOk, Sound, is_waiting}
use Rattle.driver_laws.proofs.invariant.Drives.{drive_turned, drive_armed, drive_online, drive_locked}
use Rattle.driver_laws.proofs.invariant.Others.{alone}
use Rattle.driver_laws.proofs.invariant.Frame.{Changed, HasTable, head_out, phase_for, adapter_stays, deed_changed}
use Rattle.driver_laws.proofs.invariant.Units.{UnitKept, each_kept, deed_kept, IsSameDrive, phase_now, turned_same, armed_same, online_same, locked_same, has_table, drive_changed, changed_unit, change_kept, unchanged, no_such}
use Rattle.driver_laws.proofs.invariant.Adapters.{adapter_now, deed_adapter, same_left, transferring_slot}

-- WHAT AN ACT KEEPS, by the unit at which it changes something
pub record Keeps (now : World) : Type 0 where
  pub units : (u : ℕ) → u < 32 → UnitKept now u
  pub adapters : (a : ℕ) → a < 4 → AdapterOk now a (adapter_at now a)

keeps_by : (w now : World) (u : ℕ) → Sound w → Changed w now u → (u < 32 → UnitKept now u) → (u < 32 → AdapterOk now (adapter_of u) (adapter_at now (adapter_of u)))
    → ((a : ℕ) → a < 4 → a ≡ adapter_of u → u < 32) → Keeps now
keeps_by w now u s c unit adapter small = record {
  units = λ x lt. each_kept w now u x s c unit lt;
  adapters = λ a lt. elim (cases_eq a (adapter_of u)) [
    | inl same ↦ subst (λ b. AdapterOk now b (adapter_at now b)) (sym same) (adapter (small a lt same))
    | inr other ↦ adapter_stays w now u a s c lt other
  ];
}

-- where no unit has the number
keeps_unchanged : (w now : World) → Sound w → Changed w now 32 → Keeps now
keeps_unchanged w now s c = keeps_by w now 32 s c (λ lt. no_such lt) (λ lt. no_such lt) (λ a lt same. absurd (omega (arith, lt, same)))

-- A CONDITION
keeps_change : (w : World) (u : ℕ) (f : DriveState → DriveState) → Sound w → u < 32 → IsSameDrive (unit_at w u).drive (f (unit_at w u).drive)
    → IsDrive (f (unit_at w u).drive) → Keeps (with_unit_drive u f w)
keeps_change w u f s lt same drive =
    let now : World = with_unit_drive u f w in
    let v : UnitView = with_drive f (unit_at w u) in
    keeps_by w now u s (drive_changed w u f) (λ small. change_kept w u f s same drive small)
    (λ small. adapter_now w now u s (drive_changed w u f) lt v (adapter_at w (adapter_of u)) (held_in w (slot_in_hand (unit_at w u)))
    (changed_unit w u f s lt) (λ transfers. transferring_slot w u s lt transfers) (same_left w u s lt v refl refl same.attention))
    (λ a small is. lt)

change_keeps : (w : World) (input : Input) → Sound w → MayChange w input → Keeps (after w (Change input))
change_keeps w (script.Turn u sector) s may =
    keeps_change w u (turned sector) s may.0.unit (turned_same sector (unit_at w u).drive)
    (drive_turned (unit_at w u).drive sector may.1 (s.each_unit u may.0.unit).drive)
change_keeps w (script.Noise noise) s may = keeps_unchanged w (after w (Change (script.Noise noise))) s (unchanged w _ refl refl (λ x lt goes. refl))
change_keeps w (script.Arm u kind times) s may =
    keeps_change w u (fault_armed kind times) s may.0.unit (armed_same kind times (unit_at w u).drive)
    (drive_armed (unit_at w u).drive kind times (s.each_unit u may.0.unit).drive)
change_keeps w (script.SetOnline u on) s may =
    keeps_change w u (online_set on) s may.unit (online_same on (unit_at w u).drive) (drive_online (unit_at w u).drive on (s.each_unit u may.unit).drive)
change_keeps w (script.SetLocked u on) s may =
    keeps_change w u (locked_set on) s may.unit (locked_same on (unit_at w u).drive) (drive_locked (unit_at w u).drive on (s.each_unit u may.unit).drive)
change_keeps w other s may = absurd may

-- A REQUEST JOINS behind the head, where there is one.
joined_head : (x d : Waiter) (queue : List Waiter) → IsInOrder (λ (y : Waiter). y.cylinder) queue → 0 < length queue
    → slice_index_or (queue_with (λ (y : Waiter). y.cylinder) x queue) 0 d ≡ slice_index_or queue 0 d
joined_head x d [] order some = absurd (omega (arith, some))
joined_head x d (y ∷ ys) order some =
    ap (λ (q : List Waiter). slice_index_or q 0 d) (queue_with-head (λ (z : Waiter). z.cylinder) x y ys order)

module _ (w : World) (line p : ℕ) (h : Held) (s : Sound w) (is : IsNew w p h) where
  abbrev pub old : UnitView
  old = unit_at w h.unit

  abbrev pub now : World
  now = after w (Submit line p h)

  abbrev pub new : UnitView
  new = joined p h old

  lt : h.unit < 32
  lt = is.unit.unit

  pub goes_slot : (x : ℕ) → x < 32 → is_waiting (unit_at w x).phase ≡ false → slot_at now (slot_in_hand (unit_at w x)) ≡ slot_at w (slot_in_hand (unit_at w x))
  goes_slot x small goes =
      let ok = s.each_unit x small in
      let out = head_out w x ok (ok.head goes) in
      get_or-set_other w.slots p (slot_in_hand (unit_at w x)) (Some h) None (λ same. none-some out.held (sym is.slot ∙ (ap (slot_at w) (sym same) ∙ out.slot)))

  pub submit_changed : Changed w now h.unit
  submit_changed = search (rules, get_or-set_other, new, goes_slot, alone)

  pub unit_new : unit_at now h.unit ≡ new
  unit_new = get_or-set_same w.units h.unit new no_unit (subst (λ n. h.unit < n) (sym s.units) lt)

  pub same_hand : is_waiting old.phase ≡ false → slot_in_hand new ≡ slot_in_hand old
  same_hand goes =
      let ok = s.each_unit h.unit lt in
      ap (λ (x : Waiter). x.number) (joined_head _ (record { number = 0; cylinder = 0 }) old.queue ok.order (ok.head goes))

  same_held : is_waiting old.phase ≡ false → slot_at now (slot_in_hand new) ≡ slot_at w (slot_in_hand old)
  same_held goes = ap (slot_at now) (same_hand goes) ∙ goes_slot h.unit lt goes

  submit_unit : UnitKept now h.unit
  submit_unit =
      let ok = s.each_unit h.unit lt in
      let a : AdapterView = adapter_at w (adapter_of h.unit) in
      let same : IsSameDrive old.drive old.drive = record { kind = refl; work = refl; attention = refl; er1 = refl; er2 = refl; ec1 = refl; ec2 = refl } in
      let phase : IsPhase h.unit new a (held_in w (slot_in_hand old)) old.phase =
      phase_now h.unit old new.queue old.drive a (held_in w (slot_in_hand old)) same old.phase ok.phase in
      let held : IsPhase h.unit new a (held_in now (slot_in_hand new)) old.phase =
      phase_for h.unit new a (held_in w (slot_in_hand old)) (held_in now (slot_in_hand new)) old.phase
      (λ goes. ap (λ (o : Option Held). unwrap_or o no_held) (same_held goes)) phase in
      let kept : IsDrive new.drive × HasTable new × IsPhase h.unit new a (held_in now (slot_in_hand new)) new.phase =
      (ok.drive, has_table old new refl refl ok.table, held) in
      subst (λ (y : UnitView). IsDrive y.drive × HasTable y × IsPhase h.unit y a (held_in now (slot_in_hand y)) y.phase) (sym unit_new) kept

  submit_adapter : AdapterOk now (adapter_of h.unit) (adapter_at now (adapter_of h.unit))
  submit_adapter =
      adapter_now w now h.unit s submit_changed lt new (adapter_at w (adapter_of h.unit)) (held_in w (slot_in_hand old)) unit_new
      (λ transfers. same_held (ap is_waiting transfers) ∙ transferring_slot w h.unit s lt transfers)
      (same_left w h.unit s lt new refl refl refl)

  submit_keeps : Keeps now
  submit_keeps = keeps_by w now h.unit s submit_changed (λ small. submit_unit) (λ small. submit_adapter) (λ a small same. lt)

-- AN ANSWER IS TAKEN: the slot that is freed is that of a request that has ended.
freed_other : (answers : List Made) (slots : List (Option Held)) (q : ℕ)
    → ((made : Made) (p : ℕ) → Contains answers made → made.slot ≡ Some p → q ≢ p)
    → slice_index_or (freed answers slots) q None ≡ slice_index_or slots q None
freed_other [] slots q apart = refl
freed_other (made ∷ rest) slots q apart = by_slot made.slot (λ p is. apart made p (Contains-get_or (made ∷ rest) 0 made (omega arith)) is)
  where
    by_slot : (slot : Option ℕ) → ((p : ℕ) → slot ≡ Some p → q ≢ p)
        → slice_index_or (option_map_or (λ p. slice_set slots p None) slot slots) q None ≡ slice_index_or slots q None
    by_slot None other = refl
    by_slot (Some p) other = get_or-set_other slots p q None None (other p refl)

pub taken_changed : (w : World) → Sound w → Changed w (after w Taken) 32
taken_changed w s = unchanged w (after w Taken) refl refl (λ x lt goes.
    let ok = s.each_unit x lt in
    let out = head_out w x ok (ok.head goes) in
    freed_other w.answers w.slots (slot_in_hand (unit_at w x)) (λ made p there is same.
    let was = s.answers made p there is in
    let one : out.held ≡ was.held = same_Some out.held was.held (sym out.slot ∙ (ap (slot_at w) same ∙ was.slot)) in
    false≢true (sym out.going_on ∙ (ap (λ (g : Held). g.ended) one ∙ was.over))))

-- EACH ACT
pub act_keeps : (w : World) (act : Act) → Sound w → Allowed w act → Keeps (after w act)
act_keeps w (Refuse line r kind) s may = keeps_unchanged w (after w (Refuse line r kind)) s (unchanged w _ refl refl (λ x lt goes. refl))
act_keeps w (Submit line p h) s may = submit_keeps w line p h s may
act_keeps w (Of line u id d) s may =
    keeps_by w (after w (Of line u id d)) u s (deed_changed w line u id d s may.0 may.1) (λ lt. deed_kept w line u id d s may.0 may.1)
    (λ lt. deed_adapter w line u id d s may.0 may.1) (λ a lt same. may.0.unit)
act_keeps w (Change input) s may = change_keeps w input s may
act_keeps w (Nothing line) s may = keeps_unchanged w w s (unchanged w w refl refl (λ x lt goes. refl))
act_keeps w Taken s may = keeps_unchanged w (after w Taken) s (taken_changed w s)
