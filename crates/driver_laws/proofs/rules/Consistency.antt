-- Each moment that may come keeps the replay consistent.
use Rattle.std.proofs.Common.{◌≡◌, ◌≢◌, ◌⊎◌, inl, inr, ℕ, ◌==◌, ◌&&◌, Bool, true, false, not, List, [], ◌∷◌, is_some, refl, sym, ap, ◌∙◌, subst, arith, nat_lt, rules}
use Rattle.std.specs.Prelude.{if◌then◌else◌, drop, Option}
use Rattle.std.proofs.lemmas.Nat.Bits.{bit_at-zero}
use Rattle.std.proofs.lemmas.Bool.{false≢true, true≢false, eqb-true}
use Rattle.pack_geometry.specs.declared.DriveKind.{DriveKind}
use Rattle.hardware_table.specs.Drive.{DriveState, is_positioning, on}
use Rattle.hardware_table.specs.Adapter.{AdapterState, attention_lowered}
use Rattle.trace_replay.specs.requests.ServiceOrder.{Waiting as Waiter, is_before, put, Service, sweep_for, service_order}
use Rattle.trace_replay.specs.requests.Requests.{Request}
use Rattle.trace_replay.specs.Script.{Input, Submit, ArriveAt, MoveAt, AttendTo, Drain}
use Rattle.trace_replay.specs.Drives.{drive_played}
use Rattle.trace_replay.specs.Service.{first_waiting, head_of, cylinder_of, service_joined}
use Rattle.trace_replay.specs.Moments.{Deed, Transfer, Arrive, Sector, Intr, Try, Attn, Moment, Played, Told, Idle}
use Rattle.trace_replay.specs.Adapters.{AdapterSeen, adapter_of, drive_of, with_ready, can_move}
use Rattle.trace_replay.specs.Conversation.{Stage, Waiting, waits, goes_on, is_under_way, is_waiting}
use Rattle.trace_replay.specs.Events.{Act, Done, Refusing, Arriving, Trying, Serving, NothingToDo, Wish, Attention, Refusal, IdleLine, wish_of, act_after, is_no_line, wish_in}
use Rattle.trace_replay.specs.Replay.{Replay, UnitSeen, at_unit, with_state, next_wish, LineMay, ToldMay, bytes_of, unit_after, adapter_told, replay_told, drained, act_drained, told_after, act_done, are_at_work, WorkMay, after_moment, after_moments, Follows, new_replay, unit_joined, stage_joined, adapter_joined, joined_by, Submission, Refused, Joined, submission, submitted, conditions_after, act_of, act_submitted, MayCome}
use Rattle.driver_laws.specs.rules.Consistent.{is_moving, may_have_errors, is_well_said, Agrees, IsInOrder, serves, IsAct, IsUnderControl, IsConsistent, Counts, CanServe, IsDue, has_interrupt}
use Rattle.driver_laws.proofs.rules.Stages.{under_way}
use Rattle.driver_laws.proofs.rules.Queues.{same, others_queued, queued_joined, others_joined}
use Rattle.driver_laws.proofs.rules.Driven.{stepped_keeps, Untouched, played_drive}
use Rattle.driver_laws.proofs.rules.Own.{own}
use Rattle.driver_laws.proofs.rules.Others.{spared, still_agrees, drives_differ, order_after, order_joined}
use Rattle.driver_laws.proofs.rules.Working.{resumed, drained_act, nobody, all_started, attended_act, drained_due, attended_due}
use Rattle.driver_laws.proofs.rules.Controls.{unit_in, unit_of_line, is_served, speaks_next, serving_line, foreign_line, nobody_goes_on, still_serves, still_act, no_interrupt, is_interrupt, interrupt_gone, interrupt_same, attention_served, attention_next}
use Rattle.pack_geometry.specs.TableSpelling.{Table}
use Rattle.trace_replay.specs.Packs.{Surface}

-- one of some states is replaced: it holds of the new one, and of the others as they were
pub one_of : {T : Type 0} (P : ℕ → T → Type 0) (states : ℕ → T) (k : ℕ) (state : T) (x : ℕ) → P k state → (x ≢ k → P x (states x)) → P x (with_state states k state x)
one_of P states k state x mine others = search rules

-- the adapter of another unit, which is the one that changed or is not
pub beside : (s : Replay) (n m : ℕ) (new : AdapterSeen) (P : AdapterSeen → Type 0) → (adapter_of m ≡ adapter_of n → P new) → P (at_unit s m)
    → P (with_state s.adapters (adapter_of n) new (adapter_of m))
beside s n m new P at_same elsewhere = search rules

pub its_own : (s : Replay) (n : ℕ) (new : AdapterSeen) → with_state s.adapters (adapter_of n) new (adapter_of n) ≡ new
its_own s n new = rw (same (adapter_of n)) refl

-- ---- A LINE OF A UNIT
module _ (s : Replay) (line unit id : ℕ) (deed : Deed) (may : LineMay s line unit id deed) (c : IsConsistent s) where
  abbrev pub New : UnitSeen
  New = unit_after s unit deed

  abbrev pub NewAdapter : AdapterSeen
  NewAdapter = adapter_told (at_unit s unit) unit deed New.stage

  abbrev Next : Replay
  Next = replay_told s unit deed New

  pub mine : Agrees New NewAdapter unit
  mine = own (s.units unit) (at_unit s unit) unit id (bytes_of s unit deed) (c.units unit) may.service deed may.talk may.drive may.adapter

  other_unit : (m : ℕ) → m ≢ unit → Agrees (s.units m) (with_state s.adapters (adapter_of unit) NewAdapter (adapter_of m)) m
  other_unit m apart =
      beside s unit m NewAdapter (λ z. Agrees (s.units m) z m)
      (λ is. still_agrees (s.units m) (at_unit s unit) NewAdapter m (spared (at_unit s unit).state unit m deed (drives_differ unit m apart is) may.adapter)
      (others_queued (waits New.stage) unit m deed (at_unit s unit).ready apart)
      (subst (λ z. Agrees (s.units m) (s.adapters z) m) is (c.units m)))
      (c.units m)

  line_units : (m : ℕ) → Agrees (Next.units m) (at_unit Next m) m
  line_units m =
      one_of (λ x u. Agrees u (with_state s.adapters (adapter_of unit) NewAdapter (adapter_of x)) x) s.units unit New m
      (subst (λ z. Agrees New z unit) (sym (its_own s unit NewAdapter)) mine) (other_unit m)

  line_adapters : (k : ℕ) → IsInOrder (Next.adapters k) k
  line_adapters k =
      one_of (λ x a. IsInOrder a x) s.adapters (adapter_of unit) NewAdapter k (order_after (at_unit s unit) unit deed (waits New.stage) may.adapter (c.adapters (adapter_of unit))) (λ apart. c.adapters k)

  -- nobody else speaks
  line_speaker : (x : ℕ) → goes_on (Next.units x).stage ≡ true → x ≡ unit
  line_speaker x =
      one_of (λ y u. goes_on u.stage ≡ true → y ≡ unit) s.units unit New x (λ on. refl)
      (λ apart on. c.event.speaker x on ∙ sym (ap unit_in (speaks_next s (wish_of unit deed) may.wished (subst (λ z. goes_on (s.units z).stage ≡ true) (c.event.speaker x on) on))) ∙ unit_of_line unit deed)

  speaks_served : is_served (wish_of unit deed) ≡ true → serves (act_after deed s.event.act) (adapter_of unit) ≡ true
  speaks_served is = still_serves s.event.act (adapter_of unit) deed unit is (serving_line s unit deed c may.wished is)

  new_speaker : goes_on (Next.units unit).stage ≡ goes_on New.stage
  new_speaker = rw (same unit) refl

  -- an adapter that is free with units ready is still served
  LineStarted : ℕ → AdapterSeen → Type 0
  LineStarted k a = a.state.busy ≡ false → a.ready ≡ [] ⊎ (serves (act_after deed s.event.act) k ≡ true)

  served_started : is_served (wish_of unit deed) ≡ true → (k : ℕ) → LineStarted k (Next.adapters k)
  unfolding LineStarted
  served_started is k =
      one_of (λ x a. LineStarted x a) s.adapters (adapter_of unit) NewAdapter k (λ free. inr (speaks_served is)) (λ apart free. elim (c.event.started k free) [
        | inl none ↦ inl none
        | inr on ↦ inr (still_serves s.event.act k deed unit is on)
      ])

  foreign_started : is_served (wish_of unit deed) ≡ false → is_no_line (wish_of unit deed) ≡ false → (NewAdapter.state.busy ≡ false → (at_unit s unit).state.busy ≡ false)
      → NewAdapter.ready ≡ (at_unit s unit).ready → (k : ℕ) → LineStarted k (Next.adapters k)
  unfolding LineStarted
  foreign_started is line busy ready k =
      one_of (λ x a. LineStarted x a) s.adapters (adapter_of unit) NewAdapter k (λ free. inl (ready ∙ none (adapter_of unit) (busy free))) (λ apart free. inl (none k free))
    where
      none : (k : ℕ) → (s.adapters k).state.busy ≡ false → (s.adapters k).ready ≡ []
      none k free = elim (c.event.started k free) [
        | inl empty ↦ empty
        | inr on ↦ absurd (foreign_line s (wish_of unit deed) k may.wished is line on)
      ]

  -- what is still to come
  in_place : (P Q : AdapterSeen → Type 0) (k : ℕ) → (k == adapter_of unit) ≡ true → (P (at_unit s unit) → Q NewAdapter) → P (s.adapters k) → Q (Next.adapters k)
  in_place P Q k is f p =
      subst (λ z. Q (Next.adapters z)) (sym (eqb-true k (adapter_of unit) is)) (subst Q (sym (its_own s unit NewAdapter)) (f (subst (λ z. P (s.adapters z)) (eqb-true k (adapter_of unit) is) p)))

  same_due : (act : Act) → serves act (adapter_of unit) ≡ true → (has_interrupt act ≡ true → ⊥)
      → ((i : Bool) (ds : List ℕ) → (i ≡ true → ⊥) → CanServe (at_unit s unit).state i ds → CanServe NewAdapter.state i ds) → IsDue s.units s.adapters act → IsDue Next.units Next.adapters act
  same_due (Arriving u) is n f due = absurd (false≢true is)
  same_due (Trying a) is n f due = absurd (false≢true is)
  same_due (Serving k i ds) is n f due = in_place (λ z. CanServe z.state i ds) (λ z. CanServe z.state i ds) k is (f i ds n) due
  same_due other is n f due = tt

  controlled : (goes_on New.stage ≡ true → serves (act_after deed s.event.act) (adapter_of unit) ≡ true) → ((k : ℕ) → LineStarted k (Next.adapters k))
      → IsDue Next.units Next.adapters (act_after deed s.event.act) → (has_interrupt (act_after deed s.event.act) ≡ true → ⊥) → IsUnderControl Next
  unfolding LineStarted
  controlled served started due never = record {
    speaker = line_speaker;
    served = λ on. served (sym new_speaker ∙ on);
    started = started;
    act = still_act s.event.act deed c.event.act;
    due = due;
    first = λ on. absurd (never on);
    at_work = tt;
  }

  served_control : is_served (wish_of unit deed) ≡ true → IsDue Next.units Next.adapters (act_after deed s.event.act) → (has_interrupt (act_after deed s.event.act) ≡ true → ⊥) → IsUnderControl Next
  served_control is due never = controlled (λ on. speaks_served is) (served_started is) due never

  -- a line that is due for its unit
  due_control : is_served (wish_of unit deed) ≡ true → is_interrupt (wish_of unit deed) ≡ false → act_after deed s.event.act ≡ s.event.act
      → ((i : Bool) (ds : List ℕ) → (i ≡ true → ⊥) → CanServe (at_unit s unit).state i ds → CanServe NewAdapter.state i ds) → IsUnderControl Next
  due_control is other stays f =
      served_control is
      (subst (IsDue Next.units Next.adapters) (sym stays) (same_due s.event.act (serving_line s unit deed c may.wished is) (no_interrupt s unit deed c may.wished other) f c.event.due))
      (λ on. no_interrupt s unit deed c may.wished other (sym (ap has_interrupt stays) ∙ on))

  line_consistent : IsUnderControl Next → IsConsistent Next
  line_consistent control = record { units = line_units; adapters = line_adapters; event = control }

-- by the sort of the line
not_ready_stays : (stage : Stage) (n : ℕ) (xs : List ℕ) → is_under_way stage ≡ true → with_ready (waits stage) n xs ≡ xs
not_ready_stays stage n xs is = ap (λ z. with_ready z n xs) (under_way stage is).queued

intr_due : (s : Replay) (line unit id : ℕ) (may : LineMay s line unit id Intr) (c : IsConsistent s) (act : Act) → serves act (adapter_of unit) ≡ true → IsDue s.units s.adapters act
    → IsDue (replay_told s unit Intr (unit_after s unit Intr)).units (replay_told s unit Intr (unit_after s unit Intr)).adapters (act_after Intr act)
intr_due s line unit id may c act is due = search rules

attn_due : (s : Replay) (line unit id : ℕ) (may : LineMay s line unit id Attn) (c : IsConsistent s) (act : Act) → serves act (adapter_of unit) ≡ true
    → wish_in s.adapters act ≡ Attention unit → IsAct act → IsDue s.units s.adapters act
    → IsDue (replay_told s unit Attn (unit_after s unit Attn)).units (replay_told s unit Attn (unit_after s unit Attn)).adapters (act_after Attn act)
attn_due s line unit id may c (Arriving u) is e are due = absurd (false≢true is)
attn_due s line unit id may c (Trying a) is e are due = absurd (false≢true is)
attn_due s line unit id may c (Serving k i ds) is e are due =
    in_place s line unit id Attn may c (λ z. CanServe (attention_lowered (drive_of unit) z.state) i (drop 1 ds)) (λ z. CanServe z.state i (drop 1 ds)) k is (λ f. f)
    (attention_served s.adapters k unit i ds e are due)
attn_due s line unit id may c other is e are due = tt

line_control : (s : Replay) (line unit id : ℕ) (deed : Deed) → LineMay s line unit id deed → IsConsistent s → IsUnderControl (replay_told s unit deed (unit_after s unit deed))
line_control s line unit id (Transfer w b k) may ok =
    due_control s line unit id (Transfer w b k) may ok refl refl refl (λ i ds n f. record { completed = λ e. absurd (n e); up = f.up })
line_control s line unit id Arrive may ok =
    controlled s line unit id Arrive may ok (λ on. absurd (true≢false (sym on ∙ (under_way (s.units unit).stage may.talk).silent)))
    (foreign_started s line unit id Arrive may ok refl refl (λ free. free) (not_ready_stays (s.units unit).stage unit (at_unit s unit).ready may.talk)) tt (λ on. false≢true on)
line_control s line unit id (Sector b v) may ok =
    controlled s line unit id (Sector b v) may ok (λ on. absurd (false≢true on))
    (foreign_started s line unit id (Sector b v) may ok refl refl (λ free. sym (stepped_keeps v (at_unit s unit).state).0 ∙ free) refl) tt (λ on. false≢true on)
line_control s line unit id Intr may ok =
    served_control s line unit id Intr may ok refl (intr_due s line unit id may ok s.event.act (serving_line s unit Intr ok may.wished refl) ok.event.due)
    (λ on. true≢false (sym on ∙ interrupt_gone s.event.act))
line_control s line unit id (Try b f) may ok = due_control s line unit id (Try b f) may ok refl refl refl (λ i ds n f. f)
line_control s line unit id Attn may ok =
    served_control s line unit id Attn may ok refl
    (attn_due s line unit id may ok s.event.act (serving_line s unit Attn ok may.wished refl) (attention_next s unit may.wished) ok.event.act ok.event.due)
    (λ on. no_interrupt s unit Attn ok may.wished refl (sym (interrupt_same s.event.act) ∙ on))
line_control s line unit id other may ok = due_control s line unit id other may ok refl refl refl (λ i ds n f. f)

pub line_keeps : (s : Replay) (line unit id : ℕ) (deed : Deed) → LineMay s line unit id deed → IsConsistent s → IsConsistent (replay_told s unit deed (unit_after s unit deed))
line_keeps s line unit id deed may c = line_consistent s line unit id deed may c (line_control s line unit id deed may c)

-- ---- the next event of a drain
drained_if : (s : Replay) (b d : Bool) → IsConsistent s → is_no_line (next_wish s) ≡ b
    → IsConsistent (if s.event.drains && (b && d) then record s { event = record s.event { between = true; act = act_drained s } } else s)
drained_if s true d c is = at (s.event.drains && d)
  where
    at : (z : Bool) → IsConsistent (if z then record s { event = record s.event { between = true; act = act_drained s } } else s)
    at true = resumed s c is (act_drained s) (drained_act s) (drained_due s)
    at false = c
drained_if s false d c is = at s.event.drains
  where
    at : (z : Bool) → IsConsistent (if z && false then record s { event = record s.event { between = true; act = act_drained s } } else s)
    at true = c
    at false = c

pub drained_keeps : (s : Replay) → IsConsistent s → IsConsistent (drained s)
drained_keeps s c = drained_if s (is_no_line (next_wish s)) (nat_lt 0 s.outstanding) c refl

-- ---- a refusal, and an idle line
at_work_still : (b : Bool) (s t : Replay) → (are_at_work s ≡ true → are_at_work t ≡ true) → WorkMay b s → WorkMay b t
at_work_still true s t same is = same is
at_work_still false s t same is = tt

pub done_keeps : (s : Replay) (w : Wish) → next_wish s ≡ w → is_served w ≡ false → is_no_line w ≡ false → IsConsistent s → IsConsistent (act_done s)
done_keeps s w wished is line c = record {
  units = c.units;
  adapters = c.adapters;
  event = record {
    speaker = c.event.speaker;
    served = λ on. absurd (nobody_goes_on s w wished is on);
    started = λ k free. elim (c.event.started k free) [
      | inl none ↦ inl none
      | inr on ↦ absurd (foreign_line s w k wished is line on)
    ];
    act = tt;
    due = tt;
    first = λ first. absurd (false≢true first);
    at_work = at_work_still s.event.between s (act_done s) (λ e. e) c.event.at_work;
  };
}

pub told_keeps : (wish : Wish) (s : Replay) (line unit id : ℕ) (deed : Deed) → next_wish s ≡ wish → ToldMay wish s line unit id deed → IsConsistent s → IsConsistent (told_after wish s unit deed)
told_keeps (Refusal u i why) s line unit id deed is may c = done_keeps s (Refusal u i why) is refl refl c
told_keeps other s line unit id deed is may c = drained_keeps (replay_told s unit deed (unit_after s unit deed)) (line_keeps s line unit id deed may c)

-- ---- A LINE OF THE SCRIPT
some_request : (b : Bool) (x y : List (Waiter Request)) → is_some (first_waiting x) ≡ true → is_some (first_waiting y) ≡ true → is_some (first_waiting (if b then x else y)) ≡ true
some_request true x y p q = p
some_request false x y p q = q

put_some : (x : Waiter Request) (ys : List (Waiter Request)) → is_some (first_waiting (put x ys)) ≡ true
put_some x [] = refl
put_some x (y ∷ ys) = some_request (is_before y x) (y ∷ put x ys) (x ∷ y ∷ ys) refl refl

joined_some : (kind : DriveKind) (r : Request) (service : Service Request) → is_some (head_of (service_joined kind r service)) ≡ true
joined_some kind r service =
    put_some (record { request = r; sweep = sweep_for (cylinder_of kind r) service.waiting; cylinder = cylinder_of kind r; ticket = service.joined }) (service_order service.waiting)

-- what a request that joins leaves of where its unit stands
record JoinedTo (old new : Stage) (d : DriveState) : Type 0 where
  pub under : is_under_way new ≡ is_under_way old
  pub moving : is_moving new ≡ is_moving old
  pub waiting : is_waiting new ≡ false
  pub queued : waits old ≡ true → waits new ≡ true
  pub errors : may_have_errors old ≡ true → may_have_errors new ≡ true
  pub said : is_well_said old ≡ true → is_well_said new ≡ true
  pub counts : (a : AdapterState) → (is_moving old ≡ true → Counts old a) → is_moving new ≡ true → Counts new a

joined_to : (stage : Stage) (d : DriveState) (r : Request) → JoinedTo stage (stage_joined stage d r) d
joined_to Waiting d r = record { under = refl; moving = refl; waiting = refl; queued = λ e. absurd (false≢true e); errors = λ e. absurd (false≢true e); said = λ e. refl; counts = λ a f e. absurd (false≢true e) }
joined_to other d r = record { under = refl; moving = refl; waiting = refl; queued = λ e. e; errors = λ e. e; said = λ e. e; counts = λ a f. f }

joined_agrees : (u : UnitSeen) (a : AdapterSeen) (n : ℕ) (r : Request) → Agrees u a n → Agrees (unit_joined u r) (adapter_joined a n (unit_joined u r).stage) n
joined_agrees u a n r g = record {
  positions = j.under ∙ g.positions;
  never_both = g.never_both;
  transfers = g.transfers ∙ ap (λ z. z && not a.state.completion) (sym j.moving);
  busy = g.busy ∙ sym j.moving;
  attention = g.attention;
  queued = queued_joined (waits (unit_joined u r).stage) n a.ready (λ l. j.queued (sym g.queued ∙ l));
  held = j.waiting ∙ sym (ap not (joined_some u.drive.kind r u.service));
  errors = λ e. j.errors (g.errors e);
  said = j.said g.said;
  counts = j.counts a.state g.counts;
}
  where
    j : JoinedTo u.stage (unit_joined u r).stage u.drive
    j = joined_to u.stage u.drive r

module _ (s : Replay) (r : Request) (c : IsConsistent s) where
  abbrev JoinedUnit : UnitSeen
  JoinedUnit = unit_joined (s.units r.unit) r

  abbrev JoinedAdapter : AdapterSeen
  JoinedAdapter = adapter_joined (at_unit s r.unit) r.unit JoinedUnit.stage

  join_other : (m : ℕ) → m ≢ r.unit → Agrees (s.units m) (with_state s.adapters (adapter_of r.unit) JoinedAdapter (adapter_of m)) m
  join_other m apart =
      beside s r.unit m JoinedAdapter (λ z. Agrees (s.units m) z m)
      (λ is. still_agrees (s.units m) (at_unit s r.unit) JoinedAdapter m (record { busy = refl; bit = refl; completion = λ e. refl; bytes = λ e. refl })
      (others_joined (waits JoinedUnit.stage) r.unit m (at_unit s r.unit).ready apart)
      (subst (λ z. Agrees (s.units m) (s.adapters z) m) is (c.units m)))
      (c.units m)

  join_units : (m : ℕ) → Agrees ((joined_by s r JoinedUnit).units m) (at_unit (joined_by s r JoinedUnit) m) m
  join_units m =
      one_of (λ x u. Agrees u (with_state s.adapters (adapter_of r.unit) JoinedAdapter (adapter_of x)) x) s.units r.unit JoinedUnit m
      (subst (λ z. Agrees JoinedUnit z r.unit) (sym (its_own s r.unit JoinedAdapter)) (joined_agrees (s.units r.unit) (at_unit s r.unit) r.unit r (c.units r.unit))) (join_other m)

  join_adapters : (k : ℕ) → IsInOrder ((joined_by s r JoinedUnit).adapters k) k
  join_adapters k =
      one_of (λ x a. IsInOrder a x) s.adapters (adapter_of r.unit) JoinedAdapter k (order_joined (at_unit s r.unit) r.unit (waits JoinedUnit.stage) (c.adapters (adapter_of r.unit))) (λ apart. c.adapters k)

  pub join_keeps : is_no_line (next_wish s) ≡ true → (line : ℕ)
      → IsConsistent (record (joined_by s r JoinedUnit) { event = record { line = line; drains = false; between = false; act = Serving (adapter_of r.unit) false []; speaker = r.unit } })
  join_keeps over line = record {
    units = join_units;
    adapters = join_adapters;
    event = record {
      speaker = λ x. one_of (λ y u. goes_on u.stage ≡ true → y ≡ r.unit) s.units r.unit JoinedUnit x (λ on. refl) (λ apart on. absurd (true≢false (sym on ∙ nobody s c over x)));
      served = λ on. same (adapter_of r.unit);
      started = λ k. one_of (λ x a. a.state.busy ≡ false → a.ready ≡ [] ⊎ ((adapter_of r.unit == x) ≡ true)) s.adapters (adapter_of r.unit) JoinedAdapter k
          (λ free. inr (same (adapter_of r.unit))) (λ apart free. inl (all_started s c over k free));
      act = tt;
      due = record { completed = λ e. absurd (false≢true e); up = tt };
      first = λ first. absurd (false≢true first);
      at_work = tt;
    };
  }

-- any other line: units and adapters as they were, but for what it says of drives
record SameParts (s t : Replay) : Type 0 where
  pub units : (unit : ℕ) → Agrees (t.units unit) (at_unit t unit) unit
  pub adapters : (k : ℕ) → t.adapters k ≡ s.adapters k
  pub stages : (unit : ℕ) → (t.units unit).stage ≡ (s.units unit).stage

begins : (s t : Replay) → IsConsistent s → is_no_line (next_wish s) ≡ true → SameParts s t → (line : ℕ) (drains : Bool) (act : Act) (speaker : ℕ) → IsAct act → IsDue t.units t.adapters act
    → IsConsistent (record t { event = record { line = line; drains = drains; between = false; act = act; speaker = speaker } })
begins s t c over p line drains act speaker is due = record {
  units = p.units;
  adapters = λ k. subst (λ z. IsInOrder z k) (sym (p.adapters k)) (c.adapters k);
  event = record {
    speaker = λ x on. absurd (true≢false (sym on ∙ ap goes_on (p.stages x) ∙ nobody s c over x));
    served = λ on. absurd (true≢false (sym on ∙ ap goes_on (p.stages speaker) ∙ nobody s c over speaker));
    started = λ k free. inl (ap (λ (z : AdapterSeen). z.ready) (p.adapters k) ∙ all_started s c over k (sym (ap (λ (z : AdapterSeen). z.state.busy) (p.adapters k)) ∙ free));
    act = is;
    due = due;
    first = λ first. ap goes_on (p.stages speaker) ∙ nobody s c over speaker;
    at_work = tt;
  };
}

with_drive : (u : UnitSeen) (a : AdapterSeen) (n : ℕ) (d : DriveState) → Untouched u.drive d → Agrees u a n → Agrees (record u { drive = d }) a n
with_drive u a n d t g = search rules

unchanged_parts : (s : Replay) → IsConsistent s → SameParts s s
unchanged_parts s c = record { units = c.units; adapters = λ k. refl; stages = λ unit. refl }

conditions_same : (s : Replay) (input : Input) → IsConsistent s → SameParts s (conditions_after s input)
conditions_same s input c = record {
  units = λ x. with_drive (s.units x) (at_unit s x) x (drive_played x (s.units x).drive input) (played_drive x (s.units x).drive input) (c.units x);
  adapters = λ k. refl;
  stages = λ x. refl;
}

drain_act_is : (b : Bool) (s : Replay) → IsAct (if b then NothingToDo else act_drained s)
drain_act_is true s = tt
drain_act_is false s = drained_act s

arrive_act_is : (b : Bool) (u : ℕ) → IsAct (if b then Arriving u else NothingToDo)
arrive_act_is true u = tt
arrive_act_is false u = tt

move_act_is : (b : Bool) (a : ℕ) → IsAct (if b then Trying a else NothingToDo)
move_act_is true a = tt
move_act_is false a = tt

drain_due_is : (b : Bool) (s : Replay) → IsDue s.units s.adapters (if b then NothingToDo else act_drained s)
drain_due_is true s = tt
drain_due_is false s = drained_due s

arrive_due_is : (s : Replay) (u : ℕ) (b : Bool) → is_positioning (s.units u).drive.work ≡ b → IsDue s.units s.adapters (if b then Arriving u else NothingToDo)
arrive_due_is s u true is = is
arrive_due_is s u false is = tt

move_due_is : (s : Replay) (a : ℕ) (b : Bool) → can_move (s.adapters a).state ≡ b → IsDue s.units s.adapters (if b then Trying a else NothingToDo)
move_due_is s a true is = is
move_due_is s a false is = tt

submitted_keeps : (s : Replay) (r : Request) (met : Submission) (line : ℕ) → IsConsistent s → is_no_line (next_wish s) ≡ true
    → IsConsistent (record (submitted s r met) { event = record { line = line; drains = false; between = false; act = act_submitted r met; speaker = r.unit } })
submitted_keeps s r (Refused why) line c over = begins s s c over (unchanged_parts s c) line false (Refusing r.unit r.id why) r.unit tt tt
submitted_keeps s r Joined line c over = join_keeps s r c over line

pub played_keeps : (s : Replay) (line : ℕ) (input : Input) → is_no_line (next_wish s) ≡ true → IsConsistent s → IsConsistent (after_moment s (Played line input))
played_keeps s line (Submit r) over c = submitted_keeps s r (submission s r) line c over
played_keeps s line (ArriveAt u) over c = begins s s c over (unchanged_parts s c) line false (act_of s (ArriveAt u)) 0 (arrive_act_is (is_positioning (s.units u).drive.work) u)
    (arrive_due_is s u (is_positioning (s.units u).drive.work) refl)
played_keeps s line (MoveAt a) over c = begins s s c over (unchanged_parts s c) line false (act_of s (MoveAt a)) 0 (move_act_is (can_move (s.adapters a).state) a)
    (move_due_is s a (can_move (s.adapters a).state) refl)
played_keeps s line (AttendTo a) over c = begins s s c over (unchanged_parts s c) line false (act_of s (AttendTo a)) 0 (attended_act a (s.adapters a)) (attended_due s.units s.adapters a)
played_keeps s line Drain over c = begins s s c over (unchanged_parts s c) line true (act_of s Drain) 0 (drain_act_is (s.outstanding == 0) s) (drain_due_is (s.outstanding == 0) s)
played_keeps s line other over c = begins s (conditions_after s other) c over (conditions_same s other c) line false Done 0 tt tt

-- ---- THE WHOLE
pub stays_consistent : (s : Replay) (m : Moment) → MayCome s m → IsConsistent s → IsConsistent (after_moment s m)
stays_consistent s (Played line input) may c = played_keeps s line input (ap is_no_line may.over) c
stays_consistent s (Told line unit id deed) may c = told_keeps (next_wish s) s line unit id deed refl may c
stays_consistent s (Idle line) may c = done_keeps s IdleLine may.nothing refl refl c

-- It is so at the start,
pub starts_consistent : (drives : ℕ → Option DriveKind) (tables : ℕ → Option Table) (surface : Surface) → IsConsistent (new_replay drives tables surface)
starts_consistent drives tables surface = record {
  units = λ unit. record { positions = refl; never_both = refl; transfers = refl; busy = refl; attention = bit_at-zero (drive_of unit); queued = refl; held = refl; errors = λ e. absurd (false≢true e); said = refl; counts = λ e. absurd (false≢true e) };
  adapters = λ k. record { drive = omega arith; completion = λ e. refl; own = λ m l. absurd (false≢true l); once = tt };
  event = record { speaker = λ unit on. absurd (false≢true on); served = λ on. absurd (false≢true on); started = λ k free. inl refl; act = tt; due = tt; first = λ first. absurd (false≢true first); at_work = tt };
}

pub moments_consistent : (s : Replay) (ms : List Moment) → Follows s ms → IsConsistent s → IsConsistent (after_moments s ms)
moments_consistent s [] follows c = c
moments_consistent s (m ∷ ms) follows c = moments_consistent (after_moment s m) ms follows.1 (stays_consistent s m follows.0 c)

-- So every state is consistent that a legal beginning reaches.
abbrev pub IsAlwaysConsistent : Type 0
IsAlwaysConsistent = (drives : ℕ → Option DriveKind) (tables : ℕ → Option Table) (surface : Surface) (ms : List Moment)
    → Follows (new_replay drives tables surface) ms → IsConsistent (after_moments (new_replay drives tables surface) ms)

pub always_consistent : IsAlwaysConsistent
always_consistent drives tables surface ms follows = moments_consistent (new_replay drives tables surface) ms follows (starts_consistent drives tables surface)
