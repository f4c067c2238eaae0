-- Each event runs, and leaves the driver at work.
use Rattle.std.proofs.Common.{◌≡◌, ◌≢◌, ◌⊎◌, inl, inr, ℕ, ◌+◌, ◌*◌, ◌/◌, ◌<◌, ◌≤◌, Bool, true, false, List, [], ◌∷◌, length, Option, Some, None, refl, sym, ap, subst, arith, ◌∙◌, get_or-set_same, get_or-set_other, rules}
use Rattle.std.specs.Prelude.{not, ◌&&◌, ◌%◌}
use Rattle.std.proofs.lemmas.List.{get_or_past}
use Rattle.std.proofs.lemmas.Bool.{cases_eq}
use Rattle.hardware_table.specs.declared.Moved.{Moved}
use Rattle.hardware_table.specs.declared.Moved.TheVariants as verdict
use Rattle.hardware_table.specs.Drive.{DriveState}
use Rattle.hardware_table.specs.Events.{turned, fault_armed, online_set, locked_set}
use Rattle.hardware_table.specs.Adapter.{AdapterState, stepped, next_block}
use Rattle.disksort.specs.declared.Waiter.{Waiter}
use Rattle.trace_replay.specs.requests.Requests.{Request}
use Rattle.trace_replay.specs.Script as script
use Rattle.trace_replay.specs.Script.{Input}
use Rattle.trace_replay.specs.declared.requests.answers.AnswerKind.{AnswerKind}
use Rattle.driver_machine.specs.declared.Phase.{Phase}
use Rattle.driver_machine.specs.declared.Phase.TheVariants.{Waiting, Positioning, Transferring, Due}
use Rattle.driver_machine.specs.World.{World, UnitView, AdapterView, Held, adapter_of, drive_of, unit_at, adapter_at, held_in, slot_in_hand, unit_on, unit_of, no_unit, new_adapter_view}
use Rattle.driver_machine.specs.Acts as deed
use Rattle.driver_machine.specs.Acts.{Act, Refuse, Submit, Change, Nothing, Taken, Deed, Tried, Scene, scene_of, with_scene, with_drive, with_unit_drive, joined, after, after_all}
use Rattle.driver_machine.specs.Events.{Part, and_then, when_by, each, in_hand, in_hand_by, due_acts, begun, choose_acts, adapter_start, joined_acts, submit_by, submit_acts, refusal_of, can_arrive, can_move, can_attend, or_nothing, data_interrupt, steps_taken, attention, drives, attended, event_acts}
use Rattle.driver_machine.specs.Guards.{May, Allowed, IsBusyFor, IsTried, MayChange}
use Rattle.driver_machine.specs.Sound.{Sound, AtWork, WorkOf, IsPhase, is_waiting}
use Rattle.driver_machine.proofs.DueFacts.{false_true}
use Rattle.driver_machine.proofs.Frame.{other_unit, other_adapter}
use Rattle.driver_machine.proofs.Until.{own_unit}
use Rattle.driver_machine.specs.Runs.{Works, MaySubmit, MayCome}
use Rattle.driver_laws.specs.invariant.InvariantKept.{EachActKeeps}
use Rattle.driver_laws.proofs.invariant.Leads.{Leads, nothing, alone, then_part}
use Rattle.driver_machine.specs.Free.{needs_free, IsFree}
use Rattle.driver_laws.proofs.invariant.Deeds.{OthersWork, Doing, deed_at, scene_after, outstanding, deed_done, is_unit, in_hand_is, own_adapter}
use Rattle.driver_laws.proofs.invariant.Due.{UnitsWork, Rests, in_hand_one, due_leads, begun_leads}
use Rattle.driver_laws.proofs.invariant.Start.{IsOver, no_more, start_leads}

-- EACH EVENT ENDS with adapter start, and then the driver is at work.
over_works : (line a n : ℕ) (w : World) → a < 4 → IsOver (Unit {0}) line a n w → AtWork w
over_works line a n w lt over = record {
  units = (over.rests.work tt).units;
  adapters = λ b less busy. by b less busy (cases_eq b a);
}
  where
    by : (b : ℕ) → b < 4 → (adapter_at w b).state.busy ≡ false → (b ≡ a) ⊎ (b ≢ a) → (adapter_at w b).queue ≡ []
    by b less busy (inl same) = no_more line b w over.rests.sound less (subst (λ (k : ℕ). choose_acts line k w ≡ []) (sym same) over.none) busy
    by b less busy (inr other) = (over.rests.work tt).adapters b less other busy

works : (line a n : ℕ) (w : World) (acts : List Act) → a < 4 → Leads (IsOver (Unit {0}) line a n) w acts → Works w acts
works line a n w acts lt leads = record {
  run = leads.run;
  sound = leads.holds.rests.sound;
  work = over_works line a n (after_all w acts) lt leads.holds;
}

at_rest : (a n : ℕ) (w : World) → Sound w → AtWork w → outstanding w ≤ n → Rests (Unit {0}) a n w
at_rest a n w sound work few = first_of (search rules, grind arith)

pub eighth : (u : ℕ) → u < 32 → u / 8 < 4
eighth u lt = omega (arith, lt)

least : (n : ℕ) → n ≤ n
least n = omega arith

-- SUBMISSION
work_needs : (phase : Phase) (queue : List Waiter) → WorkOf phase queue → needs_free phase ≡ true → ⊥
work_needs (Due task) queue work needs = work
work_needs other queue work needs = false_true needs

-- behind it the adapter is as free as the unit wants it
pub join_free : (w : World) (line p : ℕ) (h : Held) → Sound w → AtWork w → h.unit < 32
    → IsFree (unit_at (after w (Submit line p h)) h.unit) (adapter_at (after w (Submit line p h)) (adapter_of h.unit))
join_free w line p h sound at less =
    let own : unit_at (after w (Submit line p h)) h.unit ≡ joined p h (unit_at w h.unit) =
    get_or-set_same w.units h.unit (joined p h (unit_at w h.unit)) no_unit (subst (λ (k : ℕ). h.unit < k) (sym sound.units) less) in
    λ needs. absurd (work_needs (unit_at w h.unit).phase (unit_at w h.unit).queue (at.units h.unit less)
    (sym (ap (λ (v : UnitView). needs_free v.phase) own) ∙ needs))

join_doing : EachActKeeps → (line p : ℕ) (h : Held) (w : World) → Sound w → AtWork w → Allowed w (Submit line p h)
    → Doing (Unit {0}) h.unit (outstanding (after w (Submit line p h))) (after w (Submit line p h))
join_doing stays line p h w sound work allowed =
    record {
      sound = stays w (Submit line p h) sound allowed;
      free = join_free w line p h sound work allowed.unit.unit;
      others = λ e. record {
        units = λ x less other. subst (λ (v : UnitView). WorkOf v.phase v.queue)
            (sym (get_or-set_other w.units h.unit x (joined p h (unit_at w h.unit)) no_unit other)) (work.units x less);
        adapters = λ a less other. work.adapters a less;
      };
      few = least (outstanding (after w (Submit line p h)));
    }

submit_works_by : EachActKeeps → (refused : Option AnswerKind) (r : Request) (line p : ℕ) (h : Held) (w : World) → refusal_of r w ≡ refused
    → Sound w → AtWork w → MaySubmit w r p h → Works w (submit_by refused r line p h w)
submit_works_by stays (Some kind) r line p h w is sound work may =
    works line (adapter_of r.unit) (outstanding w) w _ (eighth r.unit may.unit.unit)
    (then_part (Rests (Unit {0}) (adapter_of r.unit) (outstanding w)) (IsOver (Unit {0}) line (adapter_of r.unit) (outstanding w)) w
    (Refuse line r kind ∷ []) (adapter_start line (adapter_of r.unit))
    (alone (Rests (Unit {0}) (adapter_of r.unit) (outstanding w)) w (Refuse line r kind) (may.unit, may.fresh, is)
    (at_rest (adapter_of r.unit) (outstanding w) (after w (Refuse line r kind))
    (stays w (Refuse line r kind) sound (may.unit, may.fresh, is)) (record { units = work.units; adapters = work.adapters })
    (least (outstanding w))))
    (λ x. λ at. start_leads stays (Unit {0}) line (adapter_of r.unit) (outstanding w) x (eighth r.unit may.unit.unit) at))
submit_works_by stays None r line p h w is sound work may = joins (may.new is)
  where
    joins : Allowed w (Submit line p h) → Works w (joined_acts line p h w)
    joins new =
        works line (adapter_of h.unit) (outstanding (after w (Submit line p h))) w _ (eighth h.unit new.unit.unit)
        (then_part (Doing (Unit {0}) h.unit (outstanding (after w (Submit line p h))))
        (IsOver (Unit {0}) line (adapter_of h.unit) (outstanding (after w (Submit line p h)))) w (Submit line p h ∷ [])
        (and_then (due_acts line h.unit) (adapter_start line (adapter_of h.unit)))
        (alone (Doing (Unit {0}) h.unit (outstanding (after w (Submit line p h)))) w (Submit line p h) new
        (join_doing stays line p h w sound work new))
        (λ x. λ at. then_part (Rests (Unit {0}) (adapter_of h.unit) (outstanding (after w (Submit line p h))))
        (IsOver (Unit {0}) line (adapter_of h.unit) (outstanding (after w (Submit line p h)))) x (due_acts line h.unit x)
        (adapter_start line (adapter_of h.unit))
        (due_leads stays (Unit {0}) line h.unit (outstanding (after w (Submit line p h))) x new.unit.unit at)
        (λ y. λ rests. start_leads stays (Unit {0}) line (adapter_of h.unit) (outstanding (after w (Submit line p h))) y
        (eighth h.unit new.unit.unit) rests)))

pub submit_works : EachActKeeps → (r : Request) (line p : ℕ) (h : Held) (w : World) → Sound w → AtWork w → MaySubmit w r p h
    → Works w (submit_acts r line p h w)
submit_works stays r line p h w sound work may = submit_works_by stays (refusal_of r w) r line p h w refl sound work may

-- NOTHING TO DO
no_acts : (w : World) → Sound w → AtWork w → Works w []
no_acts w sound work = record { run = tt; sound = sound; work = work }

idle : (line : ℕ) (w : World) → Sound w → AtWork w → Works w (Nothing line ∷ [])
idle line w sound work = record { run = (tt, tt); sound = sound; work = work }

only_where : (can : Bool) (line : ℕ) (part : Part) (w : World) → Sound w → AtWork w → (can ≡ true → Works w (part w))
    → Works w (or_nothing can line part w)
only_where true line part w sound work holds = holds refl
only_where false line part w sound work holds = idle line w sound work

-- A DEED THAT MOVES NO PHASE AND NO QUEUE leaves the driver at work.
same_work : (w : World) (u p : ℕ) (s : Scene) → Sound w → u < 32 → s.unit.phase ≡ (unit_at w u).phase → s.unit.queue ≡ (unit_at w u).queue
    → s.adapter.queue ≡ (adapter_at w (adapter_of u)).queue → s.adapter.state.busy ≡ (adapter_at w (adapter_of u)).state.busy
    → AtWork w → AtWork (with_scene w u p s)
same_work w u p s sound lt phase queue waits busy work = record {
  units = λ x less. unit_by x less (cases_eq x u);
  adapters = λ a less free. adapter_by a less free (cases_eq a (adapter_of u));
}
  where
    own : unit_at (with_scene w u p s) u ≡ s.unit
    own = own_unit w u p s (subst (λ (k : ℕ). u < k) (sym sound.units) lt)

    its : adapter_at (with_scene w u p s) (adapter_of u) ≡ s.adapter
    its = own_adapter w u p s sound.adapters lt

    unit_by : (x : ℕ) → x < 32 → (x ≡ u) ⊎ (x ≢ u) → WorkOf (unit_at (with_scene w u p s) x).phase (unit_at (with_scene w u p s) x).queue
    unit_by x less (inl same) =
        subst (λ (k : ℕ). WorkOf (unit_at (with_scene w u p s) k).phase (unit_at (with_scene w u p s) k).queue) (sym same)
        (subst (λ (v : UnitView). WorkOf v.phase v.queue) (sym own)
        (subst (λ (f : Phase). WorkOf f s.unit.queue) (sym phase)
        (subst (λ (q : List Waiter). WorkOf (unit_at w u).phase q) (sym queue) (work.units u lt))))
    unit_by x less (inr other) =
        subst (λ (v : UnitView). WorkOf v.phase v.queue) (sym (other_unit w u p x s other)) (work.units x less)

    adapter_by : (a : ℕ) → a < 4 → (adapter_at (with_scene w u p s) a).state.busy ≡ false → (a ≡ adapter_of u) ⊎ (a ≢ adapter_of u)
        → (adapter_at (with_scene w u p s) a).queue ≡ []
    adapter_by a less free (inl same) =
        let is : adapter_at (with_scene w u p s) a ≡ s.adapter = ap (λ (k : ℕ). adapter_at (with_scene w u p s) k) same ∙ its in
        ap (λ (v : AdapterView). v.queue) is ∙ waits
        ∙ work.adapters (adapter_of u) (eighth u lt) (sym busy ∙ sym (ap (λ (v : AdapterView). v.state.busy) is) ∙ free)
    adapter_by a less free (inr other) =
        ap (λ (v : AdapterView). v.queue) (other_adapter w u p a s other)
        ∙ work.adapters a less (sym (ap (λ (v : AdapterView). v.state.busy) (other_adapter w u p a s other)) ∙ free)

one_deed : EachActKeeps → (line u : ℕ) (d : Deed) (w : World) → Sound w → AtWork w → u < 32 → 0 < length (unit_at w u).queue
    → May u d (scene_of w u) → (AtWork w → AtWork (after w (deed_at line u d w))) → Works w (in_hand line u d w)
one_deed stays line u d w sound work lt some may keeps =
    subst (Works w) (sym (in_hand_one line u d w some))
    (record {
      run = ((in_hand_is w u sound lt some, may), tt);
      sound = stays w (deed_at line u d w) sound (in_hand_is w u sound lt some, may);
      work = keeps work;
    })

-- ARRIVE
arrive_by : EachActKeeps → (line u : ℕ) (queue : List Waiter) (w : World) → (unit_at w u).queue ≡ queue → Sound w → AtWork w
    → can_arrive (unit_at w u) ≡ true → Works w (in_hand line u deed.Arrive w)
arrive_by stays line u [] w is sound work can =
    subst (Works w) (sym (ap (λ (q : List Waiter). in_hand_by q line u deed.Arrive w) is)) (no_acts w sound work)
arrive_by stays line u (x ∷ rest) w is sound work can =
    let some : 0 < length (unit_at w u).queue = subst (λ (q : List Waiter). 0 < length q) (sym is) (grind arith) in
    let lt : u < 32 = is_unit w u sound some in
    one_deed stays line u deed.Arrive w sound work lt some can
    (same_work w u (slot_in_hand (unit_at w u)) (scene_after line u deed.Arrive w) sound lt refl refl refl refl)

-- MOVE
both : (a b : Bool) → a && not b ≡ true → (a ≡ true) × (b ≡ false)
both true true e = absurd (false_true e)
both true false e = (refl, refl)
both false true e = absurd (false_true e)
both false false e = absurd (false_true e)

stepped_busy : (v : Moved) (a : AdapterState) → (stepped v a).busy ≡ a.busy
stepped_busy verdict.Clean a = refl
stepped_busy other a = refl

-- an adapter that is busy is one of the four, and the unit that it transfers for is in hand
pub record IsServing (w : World) (a : ℕ) : Type 0 where
  pub adapter : a < 4
  pub unit : unit_of w a < 32
  pub its : adapter_of (unit_of w a) ≡ a
  pub drive : (adapter_at w a).state.drive ≡ drive_of (unit_of w a)
  pub some : 0 < length (unit_at w (unit_of w a)).queue

is_adapter : (w : World) (a : ℕ) → Sound w → adapter_at w a ≢ new_adapter_view → a < 4
is_adapter w a sound other = elim (less_or a) [
  | inl less ↦ less
  | inr more ↦ absurd (other (get_or_past w.adapters a new_adapter_view (subst (λ (k : ℕ). k ≤ a) (sym sound.adapters) more)))
]
  where
    less_or : (a : ℕ) → (a < 4) ⊎ (4 ≤ a)
    less_or a = grind arith

pub serving : (w : World) (a : ℕ) → Sound w → (adapter_at w a).state.busy ≡ true → IsServing w a
serving w a sound busy =
    of_four (is_adapter w a sound (λ e. false_true (sym (ap (λ (v : AdapterView). v.state.busy) e) ∙ busy)))
  where
    unit_less : (a d : ℕ) → a < 4 → d < 8 → 8 * a + d < 32
    unit_less a d four eight = omega (arith, four, eight)

    its_is : (a d : ℕ) → d < 8 → (8 * a + d) / 8 ≡ a
    its_is a d eight = omega (arith, eight)

    drive_is : (a d : ℕ) → d < 8 → d ≡ (8 * a + d) % 8
    drive_is a d eight = omega (arith, eight)

    of_four : a < 4 → IsServing w a
    of_four four =
        let eight : (adapter_at w a).state.drive < 8 = (sound.each_adapter a four).drive in
        let less : unit_of w a < 32 = unit_less a (adapter_at w a).state.drive four eight in
        let phase : (unit_at w (unit_of w a)).phase ≡ Transferring = ((sound.each_adapter a four).busy busy).1.phase in
        record {
          adapter = four;
          unit = less;
          its = its_is a (adapter_at w a).state.drive eight;
          drive = drive_is a (adapter_at w a).state.drive eight;
          some = (sound.each_unit (unit_of w a) less).head (ap is_waiting phase);
        }

busy_for : (w : World) (a : ℕ) (done : Bool) → IsServing w a → (adapter_at w a).state.busy ≡ true → (adapter_at w a).state.completion ≡ done
    → IsBusyFor (adapter_at w (adapter_of (unit_of w a))).state (drive_of (unit_of w a)) done
busy_for w a done is busy completion = first_of (search rules, grind arith)

move_by : EachActKeeps → (line a : ℕ) (tried : Tried) (w : World) → Sound w → AtWork w → can_move (adapter_at w a) ≡ true
    → IsTried (unit_of w a) (next_block (adapter_at w a).state) tried (scene_of w (unit_of w a))
    → Works w (in_hand line (unit_of w a) (deed.Sector (next_block (adapter_at w a).state) tried) w)
move_by stays line a tried w sound work can is =
    let on : ((adapter_at w a).state.busy ≡ true) × ((adapter_at w a).state.completion ≡ false) =
    both (adapter_at w a).state.busy (adapter_at w a).state.completion can in
    let serves : IsServing w a = serving w a sound on.0 in
    one_deed stays line (unit_of w a) (deed.Sector (next_block (adapter_at w a).state) tried) w sound work serves.unit serves.some
    (busy_for w a false serves on.0 on.1, ap (λ (b : ℕ). next_block (adapter_at w b).state) (sym serves.its), is)
    (same_work w (unit_of w a) (slot_in_hand (unit_at w (unit_of w a)))
    (scene_after line (unit_of w a) (deed.Sector (next_block (adapter_at w a).state) tried) w) sound serves.unit refl refl refl
    (stepped_busy tried.verdict (adapter_at w (adapter_of (unit_of w a))).state))

-- ATTEND: the data interrupt,
others_of : (w : World) (a u : ℕ) → adapter_of u ≡ a → UnitsWork w a → OthersWork w u
others_of w a u its work = first_of (search rules, grind arith)

behind : EachActKeeps → (line a u n : ℕ) (d : Deed) (w : World) → adapter_of u ≡ a → u < 32 → 0 < length (unit_at w u).queue
    → Rests (Unit {0}) a n w → May u d (scene_of w u) → IsFree (scene_after line u d w).unit (scene_after line u d w).adapter
    → Leads (Rests (Unit {0}) a n) w (begun line u d w)
behind stays line a u n d w its lt some at may free =
    subst (λ (b : ℕ). Leads (Rests (Unit {0}) b n) w (begun line u d w)) its
    (begun_leads stays (Unit {0}) line u n d w lt some
    (deed_done stays (Unit {0}) line u n d w at.sound lt some may free (λ e. others_of w a u its (at.work e))
    (numbers _ _ _ at.few)))
  where
    numbers : (old n ended : ℕ) → old ≤ n → old ≤ n + ended
    numbers old n ended few = omega (arith, few)

pub was_busy : (b c : Bool) → (b ≡ false → c ≡ false) → c ≡ true → b ≡ true
was_busy true c rest up = refl
was_busy false c rest up = absurd (false_true (sym (rest refl) ∙ up))

interrupt_by : EachActKeeps → (line a n : ℕ) (up : Bool) (w : World) → a < 4 → (adapter_at w a).state.completion ≡ up → Rests (Unit {0}) a n w
    → Leads (Rests (Unit {0}) a n) w
    (when_by up (begun line (unit_of w a) (deed.Intr (adapter_at w a).state.moved (adapter_at w a).state.verdict)) w)
interrupt_by stays line a n false w four is at = nothing (Rests (Unit {0}) a n) w at
interrupt_by stays line a n true w four is at =
    let busy : (adapter_at w a).state.busy ≡ true =
    was_busy (adapter_at w a).state.busy (adapter_at w a).state.completion (at.sound.each_adapter a four).rest is in
    let serves : IsServing w a = serving w a at.sound busy in
    behind stays line a (unit_of w a) n (deed.Intr (adapter_at w a).state.moved (adapter_at w a).state.verdict) w serves.its serves.unit serves.some at (
      busy_for w a true serves busy is,
      ap (λ (b : ℕ). (adapter_at w b).state.moved) (sym serves.its),
      ap (λ (b : ℕ). (adapter_at w b).state.verdict) (sym serves.its),
    )
    (λ needs. refl)

-- each attention,
attn_phase : (u : ℕ) (phase : Phase) (v : UnitView) (a : AdapterView) (h : Held) → IsPhase u v a h phase → WorkOf phase v.queue
    → v.drive.attention ≡ true → phase ≡ Positioning (steps_taken phase)
attn_phase u Waiting v a h is work up = absurd (false_true (sym is.0.attention ∙ up))
attn_phase u (Due task) v a h is work up = absurd work
attn_phase u (Positioning taken) v a h is work up = refl
attn_phase u other v a h is work up = absurd (false_true (sym is.1.attention ∙ up))

attention_by : EachActKeeps → (line a n k : ℕ) (up : Bool) (w : World) → a < 4 → k < 8 → (unit_at w (unit_on a k)).drive.attention ≡ up
    → Rests (Unit {0}) a n w
    → Leads (Rests (Unit {0}) a n) w
    (when_by up (begun line (unit_on a k) (deed.Attn (steps_taken (unit_at w (unit_on a k)).phase))) w)
attention_by stays line a n k false w four eight is at = nothing (Rests (Unit {0}) a n) w at
attention_by stays line a n k true w four eight is at =
    let less : unit_on a k < 32 = unit_less a k four eight in
    let phase : (unit_at w (unit_on a k)).phase ≡ Positioning (steps_taken (unit_at w (unit_on a k)).phase) =
    attn_phase (unit_on a k) (unit_at w (unit_on a k)).phase (unit_at w (unit_on a k)) (adapter_at w (adapter_of (unit_on a k)))
    (held_in w (slot_in_hand (unit_at w (unit_on a k)))) (at.sound.each_unit (unit_on a k) less).phase
    ((at.work tt).units (unit_on a k) less) is in
    behind stays line a (unit_on a k) n (deed.Attn (steps_taken (unit_at w (unit_on a k)).phase)) w (its_is a k eight) less
    ((at.sound.each_unit (unit_on a k) less).head (ap is_waiting phase)) at (phase, is) (λ needs. absurd (false_true needs))
  where
    unit_less : (a d : ℕ) → a < 4 → d < 8 → 8 * a + d < 32
    unit_less a d four eight = omega (arith, four, eight)

    its_is : (a d : ℕ) → d < 8 → (8 * a + d) / 8 ≡ a
    its_is a d eight = omega (arith, eight)

AreDrives : List ℕ → Type 0
AreDrives [] = Unit {0}
AreDrives (k ∷ ks) = (k < 8) × AreDrives ks

attentions : EachActKeeps → (line a n : ℕ) (ks : List ℕ) (w : World) → a < 4 → AreDrives ks → Rests (Unit {0}) a n w
    → Leads (Rests (Unit {0}) a n) w (each (attention line a) ks w)
unfolding AreDrives
attentions stays line a n [] w four small at = nothing (Rests (Unit {0}) a n) w at
attentions stays line a n (k ∷ ks) w four small at =
    then_part (Rests (Unit {0}) a n) (Rests (Unit {0}) a n) w (attention line a k w) (each (attention line a) ks)
    (attention_by stays line a n k (unit_at w (unit_on a k)).drive.attention w four small.0 refl at)
    (λ x. λ now. attentions stays line a n ks x four small.1 now)

eight_drives : AreDrives drives
unfolding AreDrives
eight_drives =
    (omega arith, (omega arith, (omega arith, (omega arith, (omega arith, (omega arith, (omega arith, (omega arith, tt))))))))

-- and adapter start
attended_leads : EachActKeeps → (line a n : ℕ) (w : World) → a < 4 → Rests (Unit {0}) a n w
    → Leads (IsOver (Unit {0}) line a n) w (attended line a w)
attended_leads stays line a n w four at =
    then_part (Rests (Unit {0}) a n) (IsOver (Unit {0}) line a n) w (data_interrupt line a w)
    (and_then (each (attention line a) drives) (adapter_start line a))
    (interrupt_by stays line a n (adapter_at w a).state.completion w four refl at)
    (λ x. λ now. then_part (Rests (Unit {0}) a n) (IsOver (Unit {0}) line a n) x (each (attention line a) drives x) (adapter_start line a)
    (attentions stays line a n drives x four eight_drives now)
    (λ y. λ then. start_leads stays (Unit {0}) line a n y four then))

attend_by : EachActKeeps → (line a : ℕ) (w : World) → Sound w → AtWork w → can_attend (adapter_at w a) ≡ true → Works w (attended line a w)
attend_by stays line a w sound work can =
    of_four (is_adapter w a sound (λ e. false_true (sym (ap can_attend e) ∙ can)))
  where
    of_four : a < 4 → Works w (attended line a w)
    of_four four =
        works line a (outstanding w) w (attended line a w) four
        (attended_leads stays line a (outstanding w) w four (at_rest a (outstanding w) w sound work (least (outstanding w))))

-- CONDITIONS
drive_work : (u : ℕ) (f : DriveState → DriveState) (w : World) → Sound w → u < 32 → AtWork w → AtWork (with_unit_drive u f w)
drive_work u f w sound lt work = record {
  units = λ x less. by x less (cases_eq x u);
  adapters = work.adapters;
}
  where
    by : (x : ℕ) → x < 32 → (x ≡ u) ⊎ (x ≢ u) → WorkOf (unit_at (with_unit_drive u f w) x).phase (unit_at (with_unit_drive u f w) x).queue
    by x less (inl same) =
        subst (λ (k : ℕ). WorkOf (unit_at (with_unit_drive u f w) k).phase (unit_at (with_unit_drive u f w) k).queue) (sym same)
        (subst (λ (v : UnitView). WorkOf v.phase v.queue)
        (sym (get_or-set_same w.units u (with_drive f (unit_at w u)) no_unit (subst (λ (k : ℕ). u < k) (sym sound.units) lt))) (work.units u lt))
    by x less (inr other) =
        subst (λ (v : UnitView). WorkOf v.phase v.queue)
        (sym (get_or-set_other w.units u x (with_drive f (unit_at w u)) no_unit other)) (work.units x less)

changed_work : (input : Input) (w : World) → Sound w → AtWork w → MayChange w input → AtWork (after w (Change input))
changed_work (script.Turn u sector) w sound work may = drive_work u (turned sector) w sound may.0.unit work
changed_work (script.Noise noise) w sound work may = record { units = work.units; adapters = work.adapters }
changed_work (script.Arm u kind times) w sound work may = drive_work u (fault_armed kind times) w sound may.0.unit work
changed_work (script.SetOnline u on) w sound work may = drive_work u (online_set on) w sound may.unit work
changed_work (script.SetLocked u on) w sound work may = drive_work u (locked_set on) w sound may.unit work
changed_work input w sound work may = absurd may

change : EachActKeeps → (input : Input) (w : World) → Sound w → AtWork w → MayChange w input → Works w (Change input ∷ [])
change stays input w sound work may = record {
  run = (may, tt);
  sound = stays w (Change input) sound may;
  work = changed_work input w sound work may;
}

-- EACH INPUT
pub event_works : EachActKeeps → (line : ℕ) (input : Input) (tried : Tried) (w : World) → Sound w → AtWork w → MayCome w input tried
    → Works w (event_acts line input tried w)
event_works stays line (script.ArriveAt u) tried w sound work may =
    only_where (can_arrive (unit_at w u)) line (in_hand line u deed.Arrive) w sound work
    (λ can. arrive_by stays line u (unit_at w u).queue w refl sound work can)
event_works stays line (script.MoveAt a) tried w sound work may =
    only_where (can_move (adapter_at w a)) line (in_hand line (unit_of w a) (deed.Sector (next_block (adapter_at w a).state) tried)) w sound work
    (λ can. move_by stays line a tried w sound work can (may can))
event_works stays line (script.AttendTo a) tried w sound work may =
    only_where (can_attend (adapter_at w a)) line (attended line a) w sound work (λ can. attend_by stays line a w sound work can)
event_works stays line (script.Submit request) tried w sound work may = absurd may
event_works stays line script.Drain tried w sound work may = absurd may
event_works stays line other tried w sound work may = change stays other w sound work may

-- AN ANSWER IS TAKEN
pub taken_works : EachActKeeps → (w : World) → Sound w → AtWork w → 0 < length w.answers → Works w (Taken ∷ [])
taken_works stays w sound work some = first_of (search rules, grind arith)
