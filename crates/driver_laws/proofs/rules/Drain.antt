-- The events that are left fall with each event of a drain.
use Rattle.std.proofs.Common.{◌≡◌, inl, inr, ℕ, ◌+◌, ◌*◌, ◌≤◌, ◌==◌, ◌||◌, Bool, true, false, List, [], ◌∷◌, refl, sym, subst, arith, rules}
use Rattle.std.specs.List.{list_any}
use Rattle.std.proofs.lemmas.Bool.Decides.{eqb_tells}
use Rattle.pack_geometry.specs.declared.Place.{Place}
use Rattle.hardware_table.specs.declared.Work.{Work}
use Rattle.hardware_table.specs.declared.Work.TheVariants as work
use Rattle.hardware_table.specs.Drive.{DriveState, is_positioning}
use Rattle.hardware_table.specs.Adapter.{AdapterState}
use Rattle.hardware_table.specs.Events.{arrived_from}
use Rattle.trace_replay.specs.requests.Requests.{Request, Rejection, rejection_answer}
use Rattle.trace_replay.specs.Script.{Input, Submit}
use Rattle.trace_replay.specs.Moments.{Deed, Arrive, End, Moment, Played, Told, Idle, played}
use Rattle.trace_replay.specs.Drives.{DriveMay, drive_after}
use Rattle.trace_replay.specs.Service.{in_hand, target_of}
use Rattle.trace_replay.specs.Events.{Wish, Refusal}
use Rattle.trace_replay.specs.Replay.{Replay, UnitSeen, with_state, next_wish, at_unit, LineMay, ToldMay, Follows, after_moment, after_moments, unit_after, bytes_of, told_after, replay_told, Submission, Refused, Joined, submission, submitted, unit_joined, replay_played}
use Rattle.trace_replay.specs.History.{with_deed, lines_after, lines_behind}
use Rattle.trace_replay.specs.Causes.{AskSome, AsksSome}
use Rattle.trace_replay.proofs.Following.{follow_on}
use Rattle.trace_replay.proofs.Unchanged.{drained_keeps}
use Rattle.trace_replay.proofs.Kept.{AllFit, UnitFits, IsHeld, held_by, told_all, played_all, moments_all, no}
use Rattle.driver_laws.specs.rules.Measure.{events_of_unit, events_of_units, events_left, blocks_waiting, blocks_of_units, blocks_outstanding}
use Rattle.driver_laws.specs.rules.Drains.{event_by, events_in, IsOf, AreOf, IsIdle}
use Rattle.driver_laws.proofs.rules.Idle.{idle_fits, idle_within, none_waits}
use Rattle.driver_laws.proofs.rules.Units.{Passes, UnitWithin, unit_falls, unit_within, unit_joined_within, unit_few}
use Rattle.std.specs.Prelude.{◌++◌}

-- ---- sums over units
one_no_more : (units : ℕ → UnitSeen) (k : ℕ) (u : UnitSeen) (x : ℕ) → events_of_unit u ≤ events_of_unit (units k) → events_of_unit (with_state units k u x) ≤ events_of_unit (units x)
one_no_more units k u x le = search rules

units_no_more : (units : ℕ → UnitSeen) (k : ℕ) (u : UnitSeen) (xs : List ℕ) → events_of_unit u ≤ events_of_unit (units k) → events_of_units (with_state units k u) xs ≤ events_of_units units xs
units_no_more units k u [] le = omega arith
units_no_more units k u (x ∷ xs) le = sum_no_more (one_no_more units k u x le) (units_no_more units k u xs le)
  where
    sum_no_more : {a b c d : ℕ} → a ≤ b → c ≤ d → a + c ≤ b + d
    sum_no_more h k = omega (arith, h, k)

one_falls : (units : ℕ → UnitSeen) (k : ℕ) (u : UnitSeen) (x e : ℕ) → x == k ≡ true → x ≡ k → events_of_unit u + e ≤ events_of_unit (units k) → events_of_unit (with_state units k u x) + e ≤ events_of_unit (units x)
one_falls units k u x e is same le = rw is (subst (λ z. events_of_unit u + e ≤ events_of_unit (units z)) (sym same) le)

abbrev pub IsThere : List ℕ → ℕ → Type 0
IsThere there unit = list_any (λ other. other == unit) there ≡ true

not_first : (b c : Bool) → b ≡ false → b || c ≡ true → c ≡ true
not_first true c is or = absurd (no (sym is))
not_first false c is or = or

weaker : (a b e : ℕ) → a + e ≤ b → a ≤ b
weaker a b e le = omega (arith, le)

sum_falls : (a b c d e : ℕ) → a + e ≤ b → c ≤ d → a + c + e ≤ b + d
sum_falls a b c d e h k = omega (arith, h, k)

sum_falls_behind : (a b c d e : ℕ) → a ≤ b → c + e ≤ d → a + c + e ≤ b + d
sum_falls_behind a b c d e h k = omega (arith, h, k)

units_fall : (units : ℕ → UnitSeen) (k : ℕ) (u : UnitSeen) (e : ℕ) (xs : List ℕ) → IsThere xs k → events_of_unit u + e ≤ events_of_unit (units k)
    → events_of_units (with_state units k u) xs + e ≤ events_of_units units xs
units_fall units k u e [] is le = absurd (no is)
units_fall units k u e (x ∷ xs) is le = elim (eqb_tells x k) [
  | inl same ↦ sum_falls (events_of_unit (with_state units k u x)) (events_of_unit (units x)) (events_of_units (with_state units k u) xs) (events_of_units units xs) e
      (one_falls units k u x e same.0 same.1 le) (units_no_more units k u xs (weaker (events_of_unit u) (events_of_unit (units k)) e le))
  | inr other ↦ sum_falls_behind (events_of_unit (with_state units k u x)) (events_of_unit (units x)) (events_of_units (with_state units k u) xs) (events_of_units units xs) e
      (one_no_more units k u x (weaker (events_of_unit u) (events_of_unit (units k)) e le))
      (units_fall units k u e xs (not_first (x == k) (list_any (λ y. y == k) xs) other.0 is) le)
]

-- ---- a line of the trace
arrived_ready : (w : Work) (d : DriveState) → is_positioning w ≡ true → is_positioning (arrived_from w d).work ≡ false
arrived_ready (work.Positioning c y) d is = refl
arrived_ready other d is = absurd (no is)

passes : (d : DriveState) (a : AdapterState) (target : Place) (deed : Deed) → DriveMay d target deed → Passes (is_positioning d.work) deed (is_positioning (drive_after d a target deed).work)
passes d a target Arrive may = (may, arrived_ready d.work d may)
passes d a target deed may = tt

line_falls : (s : Replay) (line unit id : ℕ) (deed : Deed) (lines : ℕ → List Deed) → LineMay s line unit id deed → AllFit s lines → IsThere s.there unit
    → events_left (replay_told s unit deed (unit_after s unit deed)) + event_by deed ≤ events_left s
line_falls s line unit id deed lines may all there =
    units_fall s.units unit (unit_after s unit deed) (event_by deed) s.there there
    (unit_falls (s.units unit) deed
    (drive_after (s.units unit).drive (at_unit s unit).state (target_of (s.units unit).drive.kind (in_hand (s.units unit).service)) deed)
    (bytes_of s unit deed) (lines unit) (all unit) may.talk
    (passes (s.units unit).drive (at_unit s unit).state (target_of (s.units unit).drive.kind (in_hand (s.units unit).service)) deed may.drive))

no_event_told : (s : Replay) (deed : Deed) (why : Rejection) → deed ≡ End (rejection_answer why) → events_left s + event_by deed ≤ events_left s
no_event_told s deed why is = search rules

told_falls : (wish : Wish) (s : Replay) (line unit id : ℕ) (deed : Deed) (lines : ℕ → List Deed) → ToldMay wish s line unit id deed → AllFit s lines
    → ((x : ℕ) → IsHeld (s.units x).service.waiting → IsThere s.there x)
    → events_left (told_after wish s unit deed) + event_by deed ≤ events_left s
told_falls (Refusal u i why) s line unit id deed lines may all there = no_event_told s deed why may.answered
told_falls other s line unit id deed lines may all there =
    drained_keeps (λ t. events_left t + event_by deed ≤ events_left s) (replay_told s unit deed (unit_after s unit deed))
    (λ event. line_falls s line unit id deed lines may all (there unit (held_by (s.units unit).service.waiting id may.service)))

-- ---- requests are of units that are there
pub record IsAt (there : List ℕ) (s : Replay) : Type 0 where
  pub same : s.there ≡ there
  pub held : (x : ℕ) → IsHeld (s.units x).service.waiting → IsThere there x

line_at : (there : List ℕ) (s : Replay) (line unit id : ℕ) (deed : Deed) → LineMay s line unit id deed → IsAt there s → IsAt there (replay_told s unit deed (unit_after s unit deed))
line_at there s line unit id deed may at = record {
  same = at.same;
  held = λ x held. elim (eqb_tells x unit) [
    | inl same ↦ subst (λ z. IsThere there z) (sym same.1) (at.held unit (held_by (s.units unit).service.waiting id may.service))
    | inr other ↦ at.held x (rw other.0 at held)
  ];
}

told_at : (there : List ℕ) (wish : Wish) (s : Replay) (line unit id : ℕ) (deed : Deed) → ToldMay wish s line unit id deed → IsAt there s → IsAt there (told_after wish s unit deed)
told_at there (Refusal u i why) s line unit id deed may at = record { same = at.same; held = at.held }
told_at there other s line unit id deed may at =
    drained_keeps (λ t. IsAt there t) (replay_told s unit deed (unit_after s unit deed)) (λ event. record { same = at.same; held = (line_at there s line unit id deed may at).held })

submitted_at : (there : List ℕ) (s : Replay) (r : Request) (met : Submission) → IsThere there r.unit → IsAt there s → IsAt there (submitted s r met)
submitted_at there s r (Refused why) is at = at
submitted_at there s r Joined is at = record {
  same = at.same;
  held = λ x held. elim (eqb_tells x r.unit) [
    | inl same ↦ subst (λ z. IsThere there z) (sym same.1) is
    | inr other ↦ at.held x (rw other.0 at held)
  ];
}

pub played_at : (there : List ℕ) (s : Replay) (input : Input) → IsOf there input → IsAt there s → IsAt there (replay_played s input)
played_at there s input is at = search (rules, submitted_at)

pub moments_at : (there : List ℕ) (s : Replay) (ms : List Moment) → AreOf there ms → Follows s ms → IsAt there s → IsAt there (after_moments s ms)
moments_at there s [] are follows at = at
moments_at there s (Played line input ∷ ms) are follows at =
    let next : IsAt there (replay_played s input) = played_at there s input are.0 at in
    moments_at there (after_moment s (Played line input)) ms are.1 follows.1 (record { same = next.same; held = next.held })
moments_at there s (Told line unit id deed ∷ ms) are follows at =
    moments_at there (after_moment s (Told line unit id deed)) ms are follows.1 (told_at there (next_wish s) s line unit id deed follows.0 at)
moments_at there s (Idle line ∷ ms) are follows at =
    moments_at there (after_moment s (Idle line)) ms are follows.1 (record { same = at.same; held = at.held })

pub idle_at : (start : Replay) → IsIdle start → IsAt start.there start
idle_at start idle = record { same = refl; held = λ x held. none_waits start idle x held }

there_so : (there : List ℕ) (s : Replay) → IsAt there s → (x : ℕ) → IsHeld (s.units x).service.waiting → IsThere s.there x
there_so there s at x held = subst (λ z. IsThere z x) (sym at.same) (at.held x held)

-- ---- a drain
less_than : (a b c d e : ℕ) → a + b ≤ c → d + e ≤ a → b + d + e ≤ c
less_than a b c d e h k = omega (arith, h, k)

pub drained_falls : (there : List ℕ) (s : Replay) (ts : List Moment) (lines : ℕ → List Deed) → Follows s ts → played ts ≡ [] → AllFit s lines → IsAt there s
    → events_in ts + events_left (after_moments s ts) ≤ events_left s
drained_falls there s [] lines follows none all at = same (events_left s)
  where
    same : (n : ℕ) → 0 + n ≤ n
    same n = omega arith
drained_falls there s (Played line input ∷ ts) lines follows none all at = absurd (grind (arith, none))
drained_falls there s (Told line unit id deed ∷ ts) lines follows none all at =
    less_than (events_left (after_moment s (Told line unit id deed))) (event_by deed) (events_left s) (events_in ts) (events_left (after_moments (after_moment s (Told line unit id deed)) ts))
    (told_falls (next_wish s) s line unit id deed lines follows.0 all (there_so there s at))
    (drained_falls there (after_moment s (Told line unit id deed)) ts (λ x. lines_after x (Told line unit id deed) (lines x)) follows.1 none
    (told_all (next_wish s) s line unit id deed lines follows.0 all) (told_at there (next_wish s) s line unit id deed follows.0 at))
drained_falls there s (Idle line ∷ ts) lines follows none all at =
    drained_falls there (after_moment s (Idle line)) ts lines follows.1 none all (record { same = at.same; held = at.held })

-- ---- what requests take stays within bounds
abbrev pub AllWithin : Replay → (ℕ → List Deed) → Type 0
AllWithin s lines = (x : ℕ) → UnitWithin (s.units x) (lines x)

line_within : (s : Replay) (line unit id : ℕ) (deed : Deed) (lines : ℕ → List Deed) → LineMay s line unit id deed → AllFit s lines → AllWithin s lines
    → AllWithin (replay_told s unit deed (unit_after s unit deed)) (λ x. lines_after x (Told line unit id deed) (lines x))
line_within s line unit id deed lines may all within x = elim (eqb_tells x unit) [
  | inl same ↦ rw same.0 (subst (λ z. UnitWithin (unit_after s unit deed) (with_deed deed (lines z))) (sym same.1)
      (unit_within (s.units unit) deed (drive_after (s.units unit).drive (at_unit s unit).state (target_of (s.units unit).drive.kind (in_hand (s.units unit).service)) deed)
      (bytes_of s unit deed) (lines unit) (all unit) may.talk (within unit)))
  | inr other ↦ rw other.0 (within x)
]

refusal_within : (s : Replay) (line unit id : ℕ) (why : Rejection) (lines : ℕ → List Deed) → AllWithin s lines
    → AllWithin s (λ x. lines_after x (Told line unit id (End (rejection_answer why))) (lines x))
refusal_within s line unit id why lines all x = search rules

told_within : (wish : Wish) (s : Replay) (line unit id : ℕ) (deed : Deed) (lines : ℕ → List Deed) → ToldMay wish s line unit id deed → AllFit s lines → AllWithin s lines
    → AllWithin (told_after wish s unit deed) (λ x. lines_after x (Told line unit id deed) (lines x))
told_within (Refusal u i why) s line unit id deed lines may all within =
    subst (λ z. AllWithin (told_after (Refusal u i why) s unit deed) (λ x. lines_after x (Told line unit id z) (lines x))) (sym may.answered) (refusal_within s line unit id why lines within)
told_within other s line unit id deed lines may all within =
    drained_keeps (λ t. AllWithin t (λ x. lines_after x (Told line unit id deed) (lines x))) (replay_told s unit deed (unit_after s unit deed))
    (λ event. line_within s line unit id deed lines may all within)

submitted_within : (s : Replay) (r : Request) (met : Submission) (lines : ℕ → List Deed) → 1 ≤ r.count → AllFit s lines → AllWithin s lines → AllWithin (submitted s r met) lines
submitted_within s r (Refused why) lines some all within = within
submitted_within s r Joined lines some all within = λ x. elim (eqb_tells x r.unit) [
  | inl same ↦ rw same.0 (subst (λ z. UnitWithin (unit_joined (s.units r.unit) r) (lines z)) (sym same.1)
      (unit_joined_within (s.units r.unit) r (lines r.unit) some (all r.unit) (within r.unit)))
  | inr other ↦ rw other.0 (within x)
]

pub played_within : (s : Replay) (input : Input) (lines : ℕ → List Deed) → AsksSome input → AllFit s lines → AllWithin s lines → AllWithin (replay_played s input) lines
played_within s (Submit r) lines some all within = submitted_within s r (submission s r) lines some all within
played_within s input lines some all within = within

pub moments_within : (s : Replay) (ms : List Moment) (lines : ℕ → List Deed) → AskSome ms → Follows s ms → AllFit s lines → AllWithin s lines
    → AllWithin (after_moments s ms) (λ x. lines_behind x (lines x) ms)
moments_within s [] lines some follows all within = within
moments_within s (Played line input ∷ ms) lines some follows all within =
    moments_within (after_moment s (Played line input)) ms lines some.1 follows.1 (played_all s input lines some.0 all) (played_within s input lines some.0 all within)
moments_within s (Told line unit id deed ∷ ms) lines some follows all within =
    moments_within (after_moment s (Told line unit id deed)) ms (λ x. lines_after x (Told line unit id deed) (lines x)) some follows.1
    (told_all (next_wish s) s line unit id deed lines follows.0 all) (told_within (next_wish s) s line unit id deed lines follows.0 all within)
moments_within s (Idle line ∷ ms) lines some follows all within = moments_within (after_moment s (Idle line)) ms lines some follows.1 all within

pub units_few : (units : ℕ → UnitSeen) (lines : ℕ → List Deed) (xs : List ℕ) → ((x : ℕ) → UnitFits (units x) (lines x)) → ((x : ℕ) → UnitWithin (units x) (lines x))
    → events_of_units units xs ≤ 200 * blocks_of_units units xs
units_few units lines [] all within = omega arith
units_few units lines (x ∷ xs) all within =
    sum_few (events_of_unit (units x)) (blocks_waiting (units x).service.waiting) (events_of_units units xs) (blocks_of_units units xs)
    (unit_few (units x) (lines x) (all x) (within x)) (units_few units lines xs all within)
  where
    sum_few : (a b c d : ℕ) → a ≤ 200 * b → c ≤ 200 * d → a + c ≤ 200 * (b + d)
    sum_few a b c d h k = omega (arith, h, k)

-- what is left is at most 200 for each block of the requests that are outstanding
pub events_are_few : (start : Replay) (ms : List Moment) → IsIdle start → AskSome ms → Follows start ms
    → events_left (after_moments start ms) ≤ 200 * blocks_outstanding (after_moments start ms)
events_are_few start ms idle some follows =
    units_few (after_moments start ms).units (λ x. lines_behind x [] ms) (after_moments start ms).there
    (moments_all start ms (λ x. []) some follows (idle_fits start idle))
    (moments_within start ms (λ x. []) some follows (idle_fits start idle) (idle_within start idle))

-- THE EVENT LINES OF A DRAIN, in which no line of the script is played: from any state on, such moments have no more of them than
-- are left before and not behind them, which are at most 200 for each block that is outstanding before.
pub drains_are_bounded : (start : Replay) (ms ts : List Moment) → IsIdle start
    → AskSome ms → AreOf start.there ms → Follows start (ms ++ ts) → played ts ≡ []
    → (events_in ts + events_left (after_moments (after_moments start ms) ts) ≤ events_left (after_moments start ms))
    × (events_in ts ≤ 200 * blocks_outstanding (after_moments start ms))
drains_are_bounded start ms ts idle some are follows none = (
  falls,
  along (events_in ts) (events_left (after_moments start ms)) (200 * blocks_outstanding (after_moments start ms))
      (events_left (after_moments (after_moments start ms) ts)) falls (events_are_few start ms idle some parts.0),
)
  where
    parts : Follows start ms × Follows (after_moments start ms) ts
    parts = (follow_on start ms ts).0 follows

    falls : events_in ts + events_left (after_moments (after_moments start ms) ts) ≤ events_left (after_moments start ms)
    falls = drained_falls start.there (after_moments start ms) ts (λ x. lines_behind x [] ms) parts.1 none
        (moments_all start ms (λ x. []) some parts.0 (idle_fits start idle))
        (moments_at start.there start ms are parts.0 (idle_at start idle))

    along : (a b c d : ℕ) → a + d ≤ b → b ≤ c → a ≤ c
    along a b c d h k = omega (arith, h, k)
