-- A request joins: what is submitted and not refused.
use Rattle.std.proofs.Common.{◌≡◌, ◌≢◌, ℕ, zero, suc, ◌+◌, ◌<◌, true, false, List, [], ◌∷◌, length, Option, Some, None, refl, sym, ap, subst, arith, ◌∙◌, get_or-set_other, rules}
use Rattle.std.proofs.lemmas.List.{get_or-set_same}
use Rattle.std.proofs.lemmas.List.Elements.{Contains-get_or}
use Rattle.std.specs.Prelude.{slice_set, slice_index_or, unwrap_or}
use Rattle.pack_geometry.specs.declared.DriveKind.{DriveKind}
use Rattle.pack_geometry.specs.Geometry.{place_at}
use Rattle.hardware_table.specs.Drive.{DriveState}
use Rattle.hardware_table.specs.Adapter.{AdapterState}
use Rattle.disksort.specs.declared.Waiter.{Waiter}
use Rattle.trace_replay.specs.requests.ServiceOrder.{Waiting, Service, after_join, queue_with, IsInOrder}
use Rattle.trace_replay.proofs.requests.ServiceOrderRuns.{IsService, after_join-waiting}
use Rattle.trace_replay.proofs.requests.ServiceOrderLaws.{queue_with-head}
use Rattle.trace_replay.specs.requests.Requests.{Request}
use Rattle.trace_replay.specs.Service.{cylinder_of, service_joined, head_of, first_waiting, frames_needed}
use Rattle.trace_replay.specs.Adapters as rule
use Rattle.trace_replay.specs.Adapters.{AdapterSeen}
use Rattle.trace_replay.specs.Conversation as told
use Rattle.trace_replay.specs.Replay.{UnitSeen, Replay, hand_of, at_unit, with_state, stage_joined, unit_joined, adapter_joined, joined_by}
use Rattle.trace_replay.proofs.Kept.{head_stays}
use Rattle.driver_machine.specs.declared.Phase.{Phase}
use Rattle.driver_machine.specs.declared.Phase.TheVariants as phases
use Rattle.driver_machine.specs.World.{World, UnitView, Held, adapter_of, no_unit, no_held, unit_at, adapter_at, slot_at, held_in, slot_in_hand}
use Rattle.driver_machine.specs.Acts.{Submit, after, joined, waiter_for}
use Rattle.driver_machine.specs.Guards.{IsHeldFor, IsSetUp, IsNew}
use Rattle.driver_machine.specs.Sound.{Sound, UnitOk, IsOutstanding, IsPhase, Among, is_waiting}
use Rattle.driver_laws.specs.shown.Stages.{stage_by, IsProgress}
use Rattle.driver_laws.specs.shown.Shows.{Match, IsUnitSeen, IsAdapterSeen, outstanding_in}
use Rattle.std.specs.List.{AllByRecursion}
use Rattle.driver_laws.proofs.shown.Frame.{either, progress_stays, same_transfer}
use Rattle.driver_laws.proofs.shown.Plain.{with_same}
use Rattle.driver_laws.proofs.shown.AdapterQueues.{ready_goes, ready_stays, coming_is}
use Rattle.driver_laws.proofs.shown.End.{frames_same}
use Rattle.driver_laws.proofs.shown.Queues.{each_of, match_same, match_joined}
use Rattle.trace_replay.proofs.Unchanged.{with_other}
use Rattle.driver_laws.proofs.invariant.Frame.{adapter_of-small}
use Rattle.driver_laws.proofs.shown.Showing.{Shows, is_coming, with_coming}

-- A UNIT WITH A REQUEST is not seen as one that has none.
stage_goes : (phase : Phase) (v : UnitView) (a : AdapterState) (hand : told.Hand) (r : Request) → told.is_waiting (stage_by phase v a hand (Some r)) ≡ false
stage_goes phase v a hand r = search rules

joined_same : (stage : told.Stage) (d : DriveState) (r : Request) → told.is_waiting stage ≡ false → stage_joined stage d r ≡ stage
joined_same told.Waiting d r goes = absurd (grind (arith, goes))
joined_same other d r goes = refl

joined_waits : (stage : told.Stage) (d : DriveState) (r : Request) → told.waits stage ≡ true → told.waits (stage_joined stage d r) ≡ true
joined_waits told.Waiting d r waits = absurd (grind (arith, waits))
joined_waits other d r waits = waits

abbrev slot_of : List Waiter → ℕ
slot_of queue = (slice_index_or queue 0 (record { number = 0; cylinder = 0 })).number

-- the head stays the head
same_head : (x : Waiter) (queue : List Waiter) → IsInOrder (λ (y : Waiter). y.cylinder) queue → 0 < length queue
    → slot_of (queue_with (λ (y : Waiter). y.cylinder) x queue) ≡ slot_of queue
same_head x [] order some = absurd (omega (arith, some))
same_head x (y ∷ ys) order some = ap slot_of (queue_with-head (λ (z : Waiter). z.cylinder) x y ys order)

record StaysHead (service joined : Service Request) : Type 0 where
  request : Request
  before : head_of service ≡ Some request
  later : head_of joined ≡ Some request

stays_head : (c : Request → ℕ) (r : Request) (held : ℕ → Held) (kind : DriveKind) (queue : List Waiter) (waiting : List (Waiting Request)) (n : ℕ)
    → IsService c (record { waiting = waiting; joined = n }) → Match held kind queue waiting → 0 < length queue
    → StaysHead (record { waiting = waiting; joined = n }) (after_join c r (record { waiting = waiting; joined = n }))
stays_head c r held kind [] waiting n is match some = absurd (omega (arith, some))
stays_head c r held kind (x ∷ xs) [] n is match some = absurd match
stays_head c r held kind (x ∷ xs) (y ∷ ys) n is match some = record {
  request = y.request;
  before = refl;
  later =
      ap first_waiting (after_join-waiting c r (record { waiting = y ∷ ys; joined = n }) is)
      ∙ head_stays c r n (y ∷ ys) is tt;
}

joined_stage : (held : ℕ → Held) (v : UnitView) (a : AdapterState) (seen : UnitSeen) (r : Request) (queue : List Waiter) → IsUnitSeen held v a seen
    → IsService (cylinder_of seen.drive.kind) seen.service → v.queue ≡ queue → (is_waiting v.phase ≡ false → 0 < length v.queue)
    → stage_joined seen.stage seen.drive r
    ≡ stage_by v.phase v a (hand_of (unit_joined seen r)) (head_of (unit_joined seen r).service)
joined_stage held v a seen r [] is sorted none head = search rules
joined_stage held v a seen r (x ∷ xs) is sorted some head =
    let inside : 0 < length v.queue = subst (λ (q : List Waiter). 0 < length q) (sym some) (omega arith) in
    let stays : StaysHead seen.service (service_joined seen.drive.kind r seen.service) =
    stays_head (cylinder_of seen.drive.kind) r held v.drive.kind v.queue seen.service.waiting seen.service.joined sorted is.queue inside in
    let now : seen.stage ≡ stage_by v.phase v a (hand_of seen) (Some stays.request) =
    is.stage ∙ ap (stage_by v.phase v a (hand_of seen)) stays.before in
    let goes : told.is_waiting seen.stage ≡ false = ap told.is_waiting now ∙ stage_goes v.phase v a (hand_of seen) stays.request in
    joined_same seen.stage seen.drive r goes ∙ now ∙ rw (stays.before, stays.later) refl

-- what stays where the queue alone changes
queue_stage : (phase : Phase) (v : UnitView) (q : List Waiter) (a : AdapterState) (hand : told.Hand) (head : Option Request)
    → stage_by phase v a hand head ≡ stage_by phase (record v { queue = q }) a hand head
queue_stage phase v q a hand head = search rules

queue_progress : (phase : Phase) (v : UnitView) (q : List Waiter) (a : AdapterState) (h : Held) (n : told.Progress)
    → IsProgress phase v a h n → IsProgress phase (record v { queue = q }) a h n
queue_progress phases.Waiting v q a h n is = is
queue_progress other v q a h n is = is

-- ONE MORE is outstanding.
outstanding_more : (slots : List (Option Held)) (p : ℕ) (h : Held) → slice_index_or slots p None ≡ None → p < length slots → h.ended ≡ false
    → outstanding_in slots + 1 ≡ outstanding_in (slice_set slots p (Some h))
outstanding_more [] p h free there going = absurd (omega (arith, there))
outstanding_more (None ∷ slots) zero h free there going = rw going refl
outstanding_more (Some x ∷ slots) zero h free there going = absurd (grind (arith, free))
outstanding_more (None ∷ slots) (suc p) h free there going = outstanding_more slots p h free (omega (arith, there)) going
outstanding_more (Some x ∷ slots) (suc p) h free there going = search (rules, (outstanding_more slots p h free (omega (arith, there)) going))

-- the replay with a request that joined at a unit
abbrev joined_at : Replay → Request → ℕ → Replay
joined_at s r u = record s {
  units = with_state s.units u (unit_joined (s.units u) r);
  adapters = with_state s.adapters (adapter_of u) (adapter_joined (at_unit s u) u (unit_joined (s.units u) r).stage);
  frames = s.frames + frames_needed r;
  outstanding = s.outstanding + 1;
}

module _ (line p : ℕ) (h : Held) (r : Request) (w : World) (s : Replay) (sound : Sound w) (new : IsNew w p h)
    (is : IsHeldFor (unit_at w h.unit).drive.kind r h)
    (sorted : IsService (cylinder_of (s.units h.unit).drive.kind) (s.units h.unit).service) (shows : Shows h.unit w s) where
  some_none : {g : Held} → Some g ≡ None → ⊥
  some_none e = grind (arith, e)

  u_there : h.unit < length w.units
  u_there = subst (λ n. h.unit < n) (sym sound.units) new.unit.unit

  held_other : (q : ℕ) → q ≢ p → held_in w q ≡ held_in (after w (Submit line p h)) q
  held_other q other = ap (λ o. unwrap_or o no_held) (sym (get_or-set_other w.slots p q (Some h) None other))

  held_new : held_in (after w (Submit line p h)) p ≡ h
  held_new = ap (λ o. unwrap_or o no_held) (get_or-set_same w.slots p (Some h) None new.free)

  taken_slot : (x : ℕ) (y : Waiter) → IsOutstanding w x y → y.number ≢ p
  taken_slot x y out = λ same. some_none (sym out.slot ∙ ap (slot_at w) same ∙ new.slot)

  queue_same : (x : ℕ) → x < 32 → AllByRecursion (λ (y : Waiter). held_in w y.number ≡ held_in (after w (Submit line p h)) y.number) (unit_at w x).queue
  queue_same x small =
      each_of (λ (y : Waiter). held_in w y.number ≡ held_in (after w (Submit line p h)) y.number) (unit_at w x).queue
      (λ y c. held_other y.number (taken_slot x y ((sound.each_unit x small).queue y c)))

  head_same : (x : ℕ) → x < 32 → 0 < length (unit_at w x).queue
      → held_in w (slot_in_hand (unit_at w x)) ≡ held_in (after w (Submit line p h)) (slot_in_hand (unit_at w x))
  head_same x small some =
      held_other (slot_in_hand (unit_at w x))
      (taken_slot x _ ((sound.each_unit x small).queue _ (Contains-get_or (unit_at w x).queue 0 (record { number = 0; cylinder = 0 }) some)))

  own_unit : unit_at (after w (Submit line p h)) h.unit ≡ joined p h (unit_at w h.unit)
  own_unit = get_or-set_same w.units h.unit (joined p h (unit_at w h.unit)) no_unit u_there

  other_unit : (x : ℕ) → x ≢ h.unit → unit_at (after w (Submit line p h)) x ≡ unit_at w x
  other_unit x other = get_or-set_other w.units h.unit x (joined p h (unit_at w h.unit)) no_unit other

  was : IsUnitSeen (held_in w) (unit_at w h.unit) (adapter_at w (adapter_of h.unit)).state (s.units h.unit)
  was = shows.units h.unit new.unit

  ok : UnitOk w h.unit (unit_at w h.unit)
  ok = sound.each_unit h.unit new.unit.unit

  kind : (s.units h.unit).drive.kind ≡ (unit_at w h.unit).drive.kind
  kind = ap (λ (d : DriveState). d.kind) was.drive

  own_match : Match (held_in (after w (Submit line p h))) (unit_at w h.unit).drive.kind (joined p h (unit_at w h.unit)).queue
      (unit_joined (s.units h.unit) r).service.waiting
  own_match =
      subst (λ k. Match (held_in (after w (Submit line p h))) (unit_at w h.unit).drive.kind (joined p h (unit_at w h.unit)).queue
      (service_joined k r (s.units h.unit).service).waiting) (sym kind)
      (match_joined (held_in (after w (Submit line p h))) (unit_at w h.unit).drive.kind (waiter_for p h (unit_at w h.unit)) r (unit_at w h.unit).queue
      (s.units h.unit).service ok.order (subst (λ k. IsService (cylinder_of k) (s.units h.unit).service) kind sorted)
      (record {
        request = subst (IsHeldFor (unit_at w h.unit).drive.kind r) (sym held_new) is;
        cylinder = ap (λ b. (place_at (unit_at w h.unit).drive.kind b).cylinder) (sym is.first);
      })
      (match_same (held_in w) (held_in (after w (Submit line p h))) (unit_at w h.unit).drive.kind (unit_at w h.unit).queue
      (s.units h.unit).service.waiting (queue_same h.unit new.unit.unit) was.queue))

  head_joined : is_waiting (unit_at w h.unit).phase ≡ false
      → held_in w (slot_in_hand (unit_at w h.unit)) ≡ held_in (after w (Submit line p h)) (slot_in_hand (joined p h (unit_at w h.unit)))
  head_joined going =
      head_same h.unit new.unit.unit (ok.head going)
      ∙ ap (held_in (after w (Submit line p h))) (sym (same_head (waiter_for p h (unit_at w h.unit)) (unit_at w h.unit).queue ok.order (ok.head going)))

  own_seen : IsUnitSeen (held_in (after w (Submit line p h))) (joined p h (unit_at w h.unit)) (adapter_at w (adapter_of h.unit)).state
      (unit_joined (s.units h.unit) r)
  own_seen = record {
    drive = was.drive;
    table = was.table;
    queue = own_match;
    stage =
        joined_stage (held_in w) (unit_at w h.unit) (adapter_at w (adapter_of h.unit)).state (s.units h.unit) r (unit_at w h.unit).queue was sorted refl ok.head
        ∙ queue_stage (unit_at w h.unit).phase (unit_at w h.unit) (joined p h (unit_at w h.unit)).queue (adapter_at w (adapter_of h.unit)).state
        (hand_of (unit_joined (s.units h.unit) r)) (head_of (unit_joined (s.units h.unit) r).service);
    progress =
        queue_progress (unit_at w h.unit).phase (unit_at w h.unit) (joined p h (unit_at w h.unit)).queue (adapter_at w (adapter_of h.unit)).state _
        (s.units h.unit).progress
        (progress_stays (unit_at w h.unit).phase (unit_at w h.unit) (adapter_at w (adapter_of h.unit)).state (adapter_at w (adapter_of h.unit)).state
        (held_in w (slot_in_hand (unit_at w h.unit))) (held_in (after w (Submit line p h)) (slot_in_hand (joined p h (unit_at w h.unit))))
        (s.units h.unit).progress (λ e. same_transfer (adapter_at w (adapter_of h.unit)).state) head_joined was.progress);
  }

  other_seen : (x : ℕ) → x < 32 → IsUnitSeen (held_in w) (unit_at w x) (adapter_at w (adapter_of x)).state (s.units x)
      → IsUnitSeen (held_in (after w (Submit line p h))) (unit_at w x) (adapter_at w (adapter_of x)).state (s.units x)
  other_seen x small seen = record {
    drive = seen.drive;
    table = seen.table;
    queue =
        match_same (held_in w) (held_in (after w (Submit line p h))) (unit_at w x).drive.kind (unit_at w x).queue (s.units x).service.waiting
        (queue_same x small) seen.queue;
    stage = seen.stage;
    progress =
        progress_stays (unit_at w x).phase (unit_at w x) (adapter_at w (adapter_of x)).state (adapter_at w (adapter_of x)).state
        (held_in w (slot_in_hand (unit_at w x))) (held_in (after w (Submit line p h)) (slot_in_hand (unit_at w x))) (s.units x).progress
        (λ e. same_transfer (adapter_at w (adapter_of x)).state) (λ going. head_same x small ((sound.each_unit x small).head going)) seen.progress;
  }

  each_seen : (x : ℕ) → IsSetUp (after w (Submit line p h)) x
      → IsUnitSeen (held_in (after w (Submit line p h))) (unit_at (after w (Submit line p h)) x) (adapter_at w (adapter_of x)).state
      ((joined_at s r h.unit).units x)
  each_seen x set =
      either x h.unit
      (λ same. subst (λ y. IsUnitSeen (held_in (after w (Submit line p h))) (unit_at (after w (Submit line p h)) y) (adapter_at w (adapter_of y)).state
      ((joined_at s r h.unit).units y)) (sym same)
      (subst (λ v. IsUnitSeen (held_in (after w (Submit line p h))) v (adapter_at w (adapter_of h.unit)).state ((joined_at s r h.unit).units h.unit)) (sym own_unit)
      (subst (IsUnitSeen (held_in (after w (Submit line p h))) (joined p h (unit_at w h.unit)) (adapter_at w (adapter_of h.unit)).state)
      (sym (with_same s.units h.unit (unit_joined (s.units h.unit) r))) own_seen)))
      (λ other. subst (λ v. IsUnitSeen (held_in (after w (Submit line p h))) v (adapter_at w (adapter_of x)).state ((joined_at s r h.unit).units x))
      (sym (other_unit x other))
      (subst (IsUnitSeen (held_in (after w (Submit line p h))) (unit_at w x) (adapter_at w (adapter_of x)).state)
      (sym (with_other s.units h.unit (unit_joined (s.units h.unit) r) x other))
      (other_seen x set.unit (shows.units x
      (record { unit = set.unit; declared = ap (λ (v : UnitView). v.declared) (sym (other_unit x other)) ∙ set.declared })))))

  -- its adapter
  not_queued : (unit_at w h.unit).phase ≢ phases.Queued → Among h.unit (adapter_at w (adapter_of h.unit)).queue → ⊥
  not_queued other among = other ((sound.each_adapter (adapter_of h.unit) (adapter_of-small h.unit new.unit.unit)).waits h.unit among).2

  goes_on : (unit_at w h.unit).phase ≢ phases.Queued
      → rule.with_ready (told.waits (unit_joined (s.units h.unit) r).stage) h.unit (at_unit s h.unit).ready
      ≡ with_coming (told.waits (unit_joined (s.units h.unit) r).stage) h.unit (adapter_at w (adapter_of h.unit)).queue
  goes_on other =
      ap (rule.with_ready (told.waits (unit_joined (s.units h.unit) r).stage) h.unit) (shows.own_ready
      ∙ ap (λ b. with_coming b h.unit (adapter_at w (adapter_of h.unit)).queue) (coming_is (unit_at w h.unit).phase (s.units h.unit).stage other))
      ∙ ready_goes (told.waits (s.units h.unit).stage) (told.waits (unit_joined (s.units h.unit) r).stage) h.unit (adapter_at w (adapter_of h.unit)).queue
      (not_queued other) (joined_waits (s.units h.unit).stage (s.units h.unit).drive r)

  ready_by : (phase : Phase) → (unit_at w h.unit).phase ≡ phase
      → rule.with_ready (told.waits (unit_joined (s.units h.unit) r).stage) h.unit (at_unit s h.unit).ready
      ≡ with_coming (is_coming phase (unit_joined (s.units h.unit) r).stage) h.unit (adapter_at w (adapter_of h.unit)).queue
  ready_by phases.Queued phase =
      let queued : IsPhase h.unit (unit_at w h.unit) (adapter_at w (adapter_of h.unit)) (held_in w (slot_in_hand (unit_at w h.unit))) phases.Queued =
      subst (IsPhase h.unit (unit_at w h.unit) (adapter_at w (adapter_of h.unit)) (held_in w (slot_in_hand (unit_at w h.unit)))) phase ok.phase in
      let ready : (at_unit s h.unit).ready ≡ (adapter_at w (adapter_of h.unit)).queue = shows.own_ready ∙ rw phase refl in
      ap (rule.with_ready (told.waits (unit_joined (s.units h.unit) r).stage) h.unit) ready
      ∙ ready_stays (told.waits (unit_joined (s.units h.unit) r).stage) h.unit (adapter_at w (adapter_of h.unit)).queue queued.2
  ready_by other phase = goes_on (λ e. grind (arith, phase, e))

  joined_ready : ((joined_at s r h.unit).adapters (adapter_of h.unit)).ready
      ≡ with_coming (is_coming (unit_at (after w (Submit line p h)) h.unit).phase ((joined_at s r h.unit).units h.unit).stage) h.unit
      (adapter_at w (adapter_of h.unit)).queue
  joined_ready = search (rules, with_same, ready_by, own_unit)

  adapter_there : (a : ℕ) → a < 4 → IsAdapterSeen (adapter_at w a).state ((joined_at s r h.unit).adapters a).state
  adapter_there a small =
      either a (adapter_of h.unit)
      (λ same. subst (λ b. IsAdapterSeen (adapter_at w b).state ((joined_at s r h.unit).adapters b).state) (sym same)
      (subst (λ (b : AdapterSeen). IsAdapterSeen (adapter_at w (adapter_of h.unit)).state b.state)
      (sym (with_same s.adapters (adapter_of h.unit) (adapter_joined (at_unit s h.unit) h.unit (unit_joined (s.units h.unit) r).stage)))
      (shows.adapters (adapter_of h.unit) (adapter_of-small h.unit new.unit.unit))))
      (λ other. subst (λ (b : AdapterSeen). IsAdapterSeen (adapter_at w a).state b.state)
      (sym (with_other s.adapters (adapter_of h.unit) (adapter_joined (at_unit s h.unit) h.unit (unit_joined (s.units h.unit) r).stage) a other))
      (shows.adapters a small))

  at_shows : Shows h.unit (after w (Submit line p h)) (joined_at s r h.unit)
  at_shows = record {
    units = each_seen;
    adapters = adapter_there;
    own_ready = joined_ready;
    other_ready = λ a small other.
        ap (λ (b : AdapterSeen). b.ready)
        (with_other s.adapters (adapter_of h.unit) (adapter_joined (at_unit s h.unit) h.unit (unit_joined (s.units h.unit) r).stage) a other)
        ∙ shows.other_ready a small other;
    noise = shows.noise;
    frames = ap (λ n. n + frames_needed r) shows.frames ∙ ap (λ n. w.frames + n) (frames_same r h is.offset is.count is.last);
    outstanding = ap (λ n. n + 1) shows.outstanding ∙ outstanding_more w.slots p h new.slot new.free new.going_on;
  }

  pub joined_shows : Shows h.unit (after w (Submit line p h)) (joined_by s r (unit_joined (s.units r.unit) r))
  joined_shows = subst (λ x. Shows h.unit (after w (Submit line p h)) (joined_at s r x)) is.unit at_shows
