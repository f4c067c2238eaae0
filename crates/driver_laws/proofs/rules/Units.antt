-- What a line of a unit leaves of its requests: its events fall, and what its request in hand takes stays within bounds.
use Rattle.std.proofs.Common.{◌≡◌, ◌⊎◌, inl, inr, ℕ, ◌+◌, ◌*◌, ◌≤◌, Bool, true, false, List, [], ◌∷◌, drop, length, Option, Some, refl, sym, subst, arith, rules}
use Rattle.std.specs.Prelude.{if◌then◌else◌}
use Rattle.pack_geometry.specs.declared.Place.{Place}
use Rattle.pack_geometry.specs.Geometry.{sectors_of}
use Rattle.pack_geometry.specs.TableSpelling.{Table}
use Rattle.hardware_table.specs.Drive.{DriveState, is_positioning}
use Rattle.trace_replay.specs.Seek.{sector_before}
use Rattle.trace_replay.specs.requests.ServiceOrder.{Waiting as Waiter, put, Service, after_leave}
use Rattle.trace_replay.proofs.requests.ServiceOrderRuns.{newcomer, after_join-waiting}
use Rattle.trace_replay.specs.requests.Requests.{Request}
use Rattle.trace_replay.specs.Moments.{Deed, Arrive, Sector, Intr, Attn, End}
use Rattle.trace_replay.specs.Service.{cylinder_of, first_waiting, in_hand, head_of, request_or_none, service_after, target_of}
use Rattle.trace_replay.specs.Conversation.{SearchFor, Stage, Waiting, Steps, UnderWay, AtOnce, Moving, Saying, Ending, Progress, not_begun, TalkMay, begun, starts_at_once, is_waiting, progress_after, stage_after}
use Rattle.trace_replay.specs.Replay.{UnitSeen, hand_of, stage_joined, unit_joined}
use Rattle.trace_replay.specs.History.{with_deed}
use Rattle.trace_replay.proofs.Kept.{UnitFits, UnitTold, AskSomeBlocks, IsHeld, end_kept, head_stays, no, some_behind}
use Rattle.driver_laws.specs.rules.Measure.{events_at, events_behind, events_of_unit, blocks_waiting}
use Rattle.driver_laws.specs.rules.Drains.{event_by}
use Rattle.driver_laws.proofs.rules.Costs.{cost_in, cost_at, Costs, Arrives, due_costs, arrive_costs, attn_costs, sector_costs, intr_costs, positions_least}

-- ---- a request begins
few_steps : (b : Bool) (c y : ℕ) → length (if b then [] else SearchFor c y ∷ []) ≤ 1
few_steps true c y = omega arith
few_steps false c y = omega arith

first_few : (d : DriveState) (target : Place) → length (if starts_at_once d target then [] else SearchFor target.cylinder (sector_before (sectors_of d.kind) 3 target.sector) ∷ []) ≤ 1
first_few d target = few_steps (starts_at_once d target) target.cylinder (sector_before (sectors_of d.kind) 3 target.sector)

-- a request in hand takes at most these
pub record Within (count : ℕ) (p : Progress) (stage : Stage) (lines : List Deed) : Type 0 where
  pub events : events_at true count p stage ≤ 184 * count + 2
  pub commands : cost_in lines + cost_at count p stage ≤ 296 * count + 2

begun_events : (b : Bool) (d : DriveState) (waiting : List (Waiter Request)) → AskSomeBlocks waiting
    → events_at b (request_or_none (first_waiting waiting)).count not_begun (begun d (first_waiting waiting)) + events_behind (drop 1 waiting) ≤ events_behind waiting
begun_events b d [] some = omega arith
begun_events b d (w ∷ rest) some = omega (arith, some.0, first_few d (target_of d.kind w.request))

begun_within : (d : DriveState) (waiting : List (Waiter Request)) → AskSomeBlocks waiting
    → Within (request_or_none (first_waiting waiting)).count not_begun (begun d (first_waiting waiting)) []
begun_within d waiting some = search rules

-- ---- a line of a unit
-- an arrival comes where the drive positions, which it no longer does after it
abbrev pub Passes : Bool → Deed → Bool → Type 0
Passes b Arrive b' = (b ≡ true) × (b' ≡ false)
Passes b deed b' = Unit {0}

arrive_falls : (b b' : Bool) (count : ℕ) (p : Progress) (stage : Stage) → (b ≡ true) × (b' ≡ false) → Arrives count p stage → events_at b' count p stage + 1 ≤ events_at b count p stage
arrive_falls b b' count p stage passes a = search rules

-- ITS EVENTS FALL with each event
pub unit_falls : (u : UnitSeen) (deed : Deed) (d : DriveState) (bytes : List ℕ) (lines : List Deed) → UnitFits u lines → TalkMay u.drive (hand_of u) u.stage deed
    → Passes (is_positioning u.drive.work) deed (is_positioning d.work)
    → events_of_unit (UnitTold u deed d (progress_after u.stage deed bytes u.progress) (service_after u.service deed)) + event_by deed ≤ events_of_unit u
unit_falls u Arrive d bytes lines f may passes = omega (arith, arrive_falls (is_positioning u.drive.work) (is_positioning d.work) (in_hand u.service).count u.progress u.stage passes (arrive_costs (in_hand u.service).count u.progress u.stage may))
unit_falls u (Sector k v) d bytes lines f may passes = omega (arith, (sector_costs (is_positioning u.drive.work) (is_positioning d.work) (hand_of u) bytes u.stage k v d (head_of u.service) lines may f.fits).events)
unit_falls u Intr d bytes lines f may passes = omega (arith, (intr_costs (is_positioning u.drive.work) (is_positioning d.work) d (hand_of u) (head_of u.service) u.stage lines may f.fits).events)
unit_falls u Attn d bytes lines f may passes = omega (arith, (attn_costs (is_positioning u.drive.work) (is_positioning d.work) d (hand_of u) (head_of u.service) u.stage may).events)
unit_falls u (End answer) d bytes lines f may passes = omega (arith, begun_events (is_positioning d.work) d (drop 1 u.service.waiting) (some_behind u.service.waiting f.some))
unit_falls u other d bytes lines f may passes = omega (arith, (due_costs (is_positioning u.drive.work) (is_positioning d.work) u.drive d (hand_of u) (head_of u.service) u.stage other lines may f.fits).events)

-- WHAT ITS REQUEST TAKES stays within bounds
abbrev pub UnitWithin : UnitSeen → List Deed → Type 0
UnitWithin u lines = Within (in_hand u.service).count u.progress u.stage lines

still_within : (count : ℕ) (p p' : Progress) (stage stage' : Stage) (deed : Deed) (lines : List Deed) → Costs true true count p stage deed p' stage' → Within count p stage lines
    → Within count p' stage' (deed ∷ lines)
still_within count p p' stage stage' deed lines c w = record { events = omega (arith, c.events, w.events); commands = omega (arith, c.commands, w.commands) }

pub unit_within : (u : UnitSeen) (deed : Deed) (d : DriveState) (bytes : List ℕ) (lines : List Deed) → UnitFits u lines → TalkMay u.drive (hand_of u) u.stage deed
    → UnitWithin u lines
    → UnitWithin (UnitTold u deed d (progress_after u.stage deed bytes u.progress) (service_after u.service deed)) (with_deed deed lines)
unit_within u Arrive d bytes lines f may w = record { events = w.events; commands = omega (arith, w.commands) }
unit_within u (Sector k v) d bytes lines f may w =
    still_within (in_hand u.service).count u.progress (progress_after u.stage (Sector k v) bytes u.progress) u.stage
    (stage_after u.stage (Sector k v) d (record (hand_of u) { progress = progress_after u.stage (Sector k v) bytes u.progress }) (head_of u.service)) (Sector k v) lines
    (sector_costs true true (hand_of u) bytes u.stage k v d (head_of u.service) lines may f.fits) w
unit_within u Intr d bytes lines f may w =
    still_within (in_hand u.service).count u.progress (progress_after u.stage Intr bytes u.progress) u.stage
    (stage_after u.stage Intr d (record (hand_of u) { progress = progress_after u.stage Intr bytes u.progress }) (head_of u.service)) Intr lines
    (intr_costs true true d (hand_of u) (head_of u.service) u.stage lines may f.fits) w
unit_within u Attn d bytes lines f may w =
    still_within (in_hand u.service).count u.progress (progress_after u.stage Attn bytes u.progress) u.stage
    (stage_after u.stage Attn d (record (hand_of u) { progress = progress_after u.stage Attn bytes u.progress }) (head_of u.service)) Attn lines
    (attn_costs true true d (hand_of u) (head_of u.service) u.stage may) w
unit_within u (End answer) d bytes lines f may w =
    subst (λ z. UnitWithin (UnitTold u (End answer) d not_begun (after_leave u.service)) (if z then lines else [])) (sym (end_kept u.drive (hand_of u) u.stage (End answer) lines may f.fits))
    (begun_within d (drop 1 u.service.waiting) (some_behind u.service.waiting f.some))
unit_within u other d bytes lines f may w =
    still_within (in_hand u.service).count u.progress (progress_after u.stage other bytes u.progress) u.stage
    (stage_after u.stage other d (record (hand_of u) { progress = progress_after u.stage other bytes u.progress }) (head_of u.service)) other lines
    (due_costs true true u.drive d (hand_of u) (head_of u.service) u.stage other lines may f.fits) w

-- ---- a request joins
pub joined_within : (stage : Stage) (d : DriveState) (service : Service Request) (p : Progress) (table : Option Table) (r : Request) (lines : List Deed) → 1 ≤ r.count
    → UnitFits (record { drive = d; service = service; stage = stage; progress = p; table = table }) lines
    → Within (in_hand service).count p stage lines
    → Within (request_or_none (first_waiting (put (newcomer (cylinder_of d.kind) r service.joined service.waiting) service.waiting))).count p (stage_joined stage d r) lines
joined_within Waiting d service p table r lines some f w =
    subst (λ z. Within (request_or_none (first_waiting (put (newcomer (cylinder_of d.kind) r service.joined z) z))).count p (begun d (Some r)) lines) (sym (f.empty refl))
    (subst (λ z. Within r.count p (begun d (Some r)) z) (sym f.fits)
    (subst (λ z. Within r.count z (begun d (Some r)) []) (sym (fresh_so f.fresh))
    (begun_within d (newcomer (cylinder_of d.kind) r service.joined [] ∷ []) (some, tt))))
  where
    fresh_so : (p ≡ not_begun) ⊎ (true ≡ false) → p ≡ not_begun
    fresh_so (inl is) = is
    fresh_so (inr is) = absurd (no (sym is))
joined_within (Steps left segment) d service p table r lines some f w =
    subst (λ z. Within (request_or_none z).count p (Steps left segment) lines)
    (sym (head_stays (cylinder_of d.kind) r service.joined service.waiting f.order (f.held refl))) w
joined_within (UnderWay left segment) d service p table r lines some f w =
    subst (λ z. Within (request_or_none z).count p (UnderWay left segment) lines)
    (sym (head_stays (cylinder_of d.kind) r service.joined service.waiting f.order (f.held refl))) w
joined_within (AtOnce segment) d service p table r lines some f w =
    subst (λ z. Within (request_or_none z).count p (AtOnce segment) lines)
    (sym (head_stays (cylinder_of d.kind) r service.joined service.waiting f.order (f.held refl))) w
joined_within (Moving segment left last) d service p table r lines some f w =
    subst (λ z. Within (request_or_none z).count p (Moving segment left last) lines)
    (sym (head_stays (cylinder_of d.kind) r service.joined service.waiting f.order (f.held refl))) w
joined_within (Saying rest next) d service p table r lines some f w =
    subst (λ z. Within (request_or_none z).count p (Saying rest next) lines)
    (sym (head_stays (cylinder_of d.kind) r service.joined service.waiting f.order (f.held refl))) w
joined_within (Ending answer) d service p table r lines some f w =
    subst (λ z. Within (request_or_none z).count p (Ending answer) lines)
    (sym (head_stays (cylinder_of d.kind) r service.joined service.waiting f.order (f.held refl))) w

pub unit_joined_within : (u : UnitSeen) (r : Request) (lines : List Deed) → 1 ≤ r.count → UnitFits u lines → UnitWithin u lines → UnitWithin (unit_joined u r) lines
unit_joined_within u r lines some f w =
    subst (λ z. Within (request_or_none (first_waiting z)).count u.progress (stage_joined u.stage u.drive r) lines)
    (sym (after_join-waiting (cylinder_of u.drive.kind) r u.service f.order)) (joined_within u.stage u.drive u.service u.progress u.table r lines some f w)

-- ---- the events of a unit are few
behind_few : (waiting : List (Waiter Request)) → AskSomeBlocks waiting → events_behind waiting ≤ 200 * blocks_waiting waiting
behind_few [] some = omega arith
behind_few (w ∷ rest) some = omega (arith, some.0, behind_few rest some.1)

none_waits : (b : Bool) (count : ℕ) (p : Progress) (stage : Stage) → is_waiting stage ≡ true → events_at b count p stage ≡ 0
none_waits b count p Waiting is = refl
none_waits b count p other is = absurd (no is)

queue_few : (b : Bool) (p : Progress) (stage : Stage) (lines : List Deed) (waiting : List (Waiter Request)) → AskSomeBlocks waiting
    → (is_waiting stage ≡ false → IsHeld waiting) → Within (request_or_none (first_waiting waiting)).count p stage lines
    → events_at b (request_or_none (first_waiting waiting)).count p stage + events_behind (drop 1 waiting) ≤ 200 * blocks_waiting waiting
queue_few b p stage lines waiting some held w = search (rules, none_waits, behind_few, positions_least)

pub unit_few : (u : UnitSeen) (lines : List Deed) → UnitFits u lines → UnitWithin u lines → events_of_unit u ≤ 200 * blocks_waiting u.service.waiting
unit_few u lines f w = queue_few (is_positioning u.drive.work) u.progress u.stage lines u.service.waiting f.some f.held w
