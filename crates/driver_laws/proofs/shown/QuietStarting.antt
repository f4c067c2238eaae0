-- Behind a submission at a quiet driver few event lines are left, whatever the packs hold.
use Rattle.std.proofs.Common.{◌≡◌, ℕ, ◌+◌, ◌*◌, ◌≤◌, ◌==◌, Bool, true, false, List, [], ◌∷◌, length, filter, None, refl, sym, subst, arith, rules}
use Rattle.std.specs.List.{list_any}
use Rattle.pack_geometry.specs.declared.DriveKind.{DriveKind}
use Rattle.pack_geometry.specs.Pack.{Pack, empty_pack}
use Rattle.trace_replay.specs.requests.ServiceOrder.{Waiting as Waiter, Service}
use Rattle.trace_replay.specs.requests.Requests.{Request, IsRequest}
use Rattle.trace_replay.specs.Moments.{Moment, Played, played}
use Rattle.trace_replay.specs.Script.{Submit}
use Rattle.trace_replay.specs.Service.{service_joined}
use Rattle.trace_replay.specs.History.{lines_behind}
use Rattle.trace_replay.specs.Replay.{Replay, UnitSeen, Submission, Refused, Joined, all_units, this_or, unit_joined, submission, submitted, after_moment, after_moments}
use Rattle.trace_replay.proofs.Kept.{AllFit, moments_all, played_all}
use Rattle.driver_laws.specs.rules.Measure.{events_left, blocks_waiting, blocks_of_units}
use Rattle.driver_laws.specs.rules.Drains.{IsOf, events_in}
use Rattle.driver_laws.proofs.rules.Idle.{idle_fits, idle_within}
use Rattle.driver_laws.proofs.rules.Drain.{IsThere, IsAt, idle_at, played_at, moments_at, drained_falls, AllWithin, played_within, units_few}
use Rattle.driver_laws.proofs.rules.Runs.{all_from, from_any, filter_any}
use Rattle.driver_laws.proofs.rules.CalmLaws.{runs_stay_calm}
use Rattle.driver_laws.proofs.rules.WaitedLaws.{lines_calm, begun_calm}
use Rattle.driver_machine.specs.World.{World, Held, unit_at}
use Rattle.driver_machine.specs.Acts.{Act, after_all}
use Rattle.driver_machine.specs.Lines.{lines_of_all}
use Rattle.driver_machine.specs.Events.{refusal_of, submit_acts}
use Rattle.driver_machine.specs.Guards.{IsSetUp, IsHeldFor}
use Rattle.driver_machine.specs.Sound.{Sound, AtWork}
use Rattle.driver_machine.specs.Runs.{MaySubmit}
use Rattle.driver_laws.specs.answers.Packs.{packs_after_all}
use Rattle.driver_laws.proofs.shown.Inputted.{lines_play_nothing}
use Rattle.driver_laws.specs.shown.Quiet.{IsQuiet, rested, StandsQuiet}
use Rattle.driver_laws.specs.shown.QuietCalls.{GoesTo}
use Rattle.driver_laws.proofs.shown.QuietRests.{quiet_rests}
use Rattle.driver_laws.proofs.shown.QuietQuietCalls.{quiet_submits}
use Rattle.driver_laws.proofs.shown.Counting.{Waits, lines_ask, lines_of_units}

-- ---- THE BLOCKS of one request are few
joined_blocks : (kind : DriveKind) (r : Request) (service : Service Request) → service.waiting ≡ [] → blocks_waiting (service_joined kind r service).waiting ≡ r.count + 0
joined_blocks kind r service none =
    subst (λ (z : List (Waiter Request)). blocks_waiting (service_joined kind r (record { waiting = z; joined = service.joined })).waiting ≡ r.count + 0) (sym none) refl

none_blocks : (waiting : List (Waiter Request)) → waiting ≡ [] → blocks_waiting waiting ≤ 127
none_blocks waiting none = subst (λ (z : List (Waiter Request)). blocks_waiting z ≤ 127) (sym none) (omega arith)

few_by : (n count : ℕ) → n ≡ count + 0 → count ≤ 127 → n ≤ 127
few_by n count is few = omega (arith, is, few)

met_blocks : (s : Replay) (r : Request) (met : Submission) → r.count ≤ 127 → ((x : ℕ) → (s.units x).service.waiting ≡ []) → (x : ℕ)
    → blocks_waiting ((submitted s r met).units x).service.waiting ≤ 127
met_blocks s r (Refused why) few none x = none_blocks (s.units x).service.waiting (none x)
met_blocks s r Joined few none x = by (x == r.unit)
  where
    by : (b : Bool) → blocks_waiting (this_or b (unit_joined (s.units r.unit) r) s.units x).service.waiting ≤ 127
    by true = few_by (blocks_waiting (unit_joined (s.units r.unit) r).service.waiting) r.count (joined_blocks (s.units r.unit).drive.kind r (s.units r.unit).service (none r.unit)) few
    by false = none_blocks (s.units x).service.waiting (none x)

all_blocks : (units : ℕ → UnitSeen) (xs : List ℕ) → ((x : ℕ) → blocks_waiting (units x).service.waiting ≤ 127) → blocks_of_units units xs ≤ 127 * length xs
all_blocks units [] each = omega arith
all_blocks units (x ∷ xs) each = search (rules, all_blocks units xs each)

pub short : (test : ℕ → Bool) (xs : List ℕ) → length (filter test xs) ≤ length xs
short test [] = omega arith
short test (x ∷ xs) = search (rules, short test xs)

-- ---- A UNIT THAT IS SET UP is there
is_there : (w : World) (u : ℕ) → IsSetUp w u → list_any (λ unit. unit == u) (filter (λ x. (unit_at w x).declared) all_units) ≡ true
is_there w u unit =
    filter_any (λ x. (unit_at w x).declared) u all_units unit.declared
    (subst (λ (xs : List ℕ). list_any (λ x. x == u) xs ≡ true) (sym all_from) (from_any 32 0 u (omega arith) unit.unit))

-- ---- SO FEW EVENT LINES are left: 200 for each block, of 127 at each of 32 units at the most
pub submitted_waits : (line p : ℕ) (r : Request) (h : Held) (w : World) → Sound w → AtWork w → IsQuiet w → IsRequest r → MaySubmit w r p h
    → (refusal_of r w ≡ None → IsHeldFor (unit_at w h.unit).drive.kind r h) → 1 ≤ line
    → Waits 812800 (after_all w (submit_acts r line p h w))
submitted_waits line p r h w sound work quiet is may for some =
    let held : ℕ → Pack = λ u. empty_pack in
    let acts : List Act = submit_acts r line p h w in
    let lines : List Moment = lines_of_all w acts in
    let none : played lines ≡ [] = lines_play_nothing [] w acts in
    let s : Replay = rested w held in
    let q : StandsQuiet held w s = quiet_rests w held sound work quiet in
    let goes : GoesTo line (Submit r) held w s acts = quiet_submits line p r h held w s q may for some in
    let first : Replay = after_moment s (Played line (Submit r)) in
    let last : Replay = after_moments first lines in
    let fit : AllFit first (λ x. []) = played_all s (Submit r) (λ x. []) is.some (idle_fits s q.rest.idle) in
    let within : AllWithin first (λ x. []) = played_within s (Submit r) (λ x. []) is.some (idle_fits s q.rest.idle) (idle_within s q.rest.idle) in
    let there : IsOf s.there (Submit r) = is_there w r.unit may.unit in
    let at_first : IsAt s.there (submitted s r (submission s r)) = played_at s.there s (Submit r) there (idle_at s q.rest.idle) in
    let at_start : IsAt s.there first = record { same = at_first.same; held = at_first.held } in
    let at_last : IsAt s.there last = moments_at s.there first lines (lines_of_units s.there lines none) goes.follows at_start in
    let blocks : blocks_of_units first.units first.there ≤ 127 * length first.there =
    all_blocks first.units first.there (met_blocks s r (submission s r) is.few q.rest.idle.queues) in
    record {
      held = packs_after_all w held acts;
      replay = last;
      opened = goes.opened;
      facts = record {
        lines = λ x. lines_behind x [] lines;
        there = goes.opened.there;
        consistent = goes.opened.consistent;
        calm = runs_stay_calm first lines goes.follows (lines_calm lines none) (begun_calm s line (Submit r) refl q.rest.calm);
        fit = moments_all first lines (λ x. []) (lines_ask lines none) goes.follows fit;
        at = record { same = refl; held = λ x waits. subst (λ us. IsThere us x) (sym at_last.same) (at_last.held x waits) };
        few = bound (events_in lines) (events_left last) (events_left first) (blocks_of_units first.units first.there) (length first.there)
            (drained_falls s.there first lines (λ x. []) goes.follows none fit at_start)
            (units_few first.units (λ x. []) first.there fit within) blocks
            (subst (λ (us : List ℕ). length us ≤ 32) (sym at_first.same) (short (λ u. (unit_at w u).declared) all_units));
      };
    }
  where
    bound : (told after before blocks units : ℕ) → told + after ≤ before → before ≤ 200 * blocks → blocks ≤ 127 * units → units ≤ 32 → after ≤ 812800
    bound told after before blocks units falls few many all = omega (arith, falls, few, many, all)
