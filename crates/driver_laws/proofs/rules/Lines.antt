-- A LINE OF THE TRACE is a step of the machine, or leaves it as it is.
use Rattle.std.proofs.Common.{◌≡◌, ◌≢◌, ℕ, ◌≤◌, ◌+◌, ◌-◌, ◌&&◌, nat_lt, Bool, true, false, List, [], ◌∷◌, ◌++◌, length, drop, Option, Some, refl, sym, ap, ◌∙◌, subst, arith, rules}
use Rattle.std.proofs.lemmas.Option.{none-some}
use Rattle.std.proofs.lemmas.Bool.{eq-eqb, ne_eqb}
use Rattle.pack_geometry.specs.Geometry.{limit_of}
use Rattle.pack_geometry.specs.declared.DriveKind.{DriveKind}
use Rattle.pack_geometry.specs.PackTable.{AreTablesOf}
use Rattle.hardware_table.specs.Noise.{LiveNoise}
use Rattle.trace_replay.specs.requests.ServiceOrder.{Waiting as Waiter, Service, after_leave}
use Rattle.trace_replay.specs.requests.Requests.{Request, first_block, Answer, Rejection, rejection_answer}
use Rattle.trace_replay.specs.Moments.{Deed, Sector, End, Told, Answered}
use Rattle.trace_replay.specs.Adapters.{AdapterSeen}
use Rattle.trace_replay.specs.Service.{first_waiting, request_or_none, ids, in_hand, head_of, service_after, frames_needed}
use Rattle.trace_replay.specs.Conversation.{goes_on, not_begun}
use Rattle.trace_replay.specs.Events.{Act, Done, Event, Wish, Refusal, wanted, wish_in, is_no_line}
use Rattle.trace_replay.specs.Replay.{Replay, UnitSeen, next_wish, hand_of, LineMay, RefusalMay, ToldMay, after_moment, unit_after, surface_after, replay_told, told_after, drained, act_drained, act_done, frames_after, outstanding_after}
use Rattle.trace_replay.proofs.Unchanged.{drained_keeps, either}
use Rattle.driver_laws.specs.rules.Machine.{Blocks, Machine, request_of, without, frames_of, kind_of, blocks_done, done_in, MayAnswer, blocks_after, after_answer, Step, Steps}
use Rattle.driver_laws.specs.rules.Stands.{Setup, home_in, IsSure, is_sure_among, UnitStands, QueueStands, IsOutstanding, StandsFor, owed, owed_by}
use Rattle.driver_laws.proofs.rules.Outstanding.{frames_left, fewer, head_leaves, other_stays}
use Rattle.driver_laws.proofs.rules.Homes.{home_is, there_is}
use Rattle.driver_laws.proofs.rules.Hands.{same_sectors}
use Rattle.driver_laws.proofs.rules.Ends.{EndsAs, due_ends, next_stage, next_hand}
use Rattle.driver_laws.proofs.rules.MachineUnits.{Keeps, IsNoEnd, head_is, own_line, try_of}
use Rattle.driver_laws.proofs.rules.Keeping.{with_each, IsCalm, calm_line, calm_after, calm_drain}
use Rattle.driver_laws.proofs.rules.Surfaces.{IsUntouched, untouched, untouched_other, full_after, live_after}
use Rattle.driver_laws.proofs.rules.MomentSteps.{sure_claims, told_by}

-- ---- the event is not seen
pub other_event : (setup : Setup) (armed : List LiveNoise) (s : Replay) (m : Machine) (event : Event) → StandsFor setup armed s m → StandsFor setup armed (record s { event = event }) m
other_event setup armed s m event h =
    record { units = h.units; queues = h.queues; frames = h.frames; counted = h.counted; noise = h.noise; sizes = h.sizes; others = h.others }

-- a unit over sectors and blocks that are the same
pub same_unit : (sure : ℕ → Type 0) (homes : ℕ → Option ℕ) (u : UnitSeen) (sectors new : ℕ → List ℕ) (blocks : Blocks) → ((x : ℕ) → new x ≡ sectors x) → UnitStands sure homes u sectors blocks
    → UnitStands sure homes u new blocks
same_unit sure homes u sectors new blocks same s =
    record { hand = same_sectors sure homes (first_block u.drive.kind (in_hand u.service)) (in_hand u.service) u.progress sectors new blocks same s.hand; stage = s.stage }

-- ---- a line that is no end
record Unended (s : Replay) (unit : ℕ) (deed : Deed) : Type 0 where
  service : service_after (s.units unit).service deed ≡ (s.units unit).service
  frames : frames_after s unit deed ≡ s.frames
  counted : outstanding_after s.outstanding deed ≡ s.outstanding

unended : (s : Replay) (unit : ℕ) (deed : Deed) → IsNoEnd deed → Unended s unit deed
unended s unit (End a) none = absurd none
unended s unit other none = record { service = refl; frames = refl; counted = refl }

-- what no block has for its home was not written
not_written : (setup : Setup) (armed : List LiveNoise) (s : Replay) (m : Machine) (line unit id : ℕ) (deed : Deed) → AreTablesOf setup.drives setup.packs setup.tables → Keeps setup s
    → StandsFor setup armed s m → LineMay s line unit id deed → (u x : ℕ) → ((block : ℕ) → home_in setup u block ≢ Some x) → IsUntouched unit deed u x
not_written setup armed s m line unit id (Sector b v) are k h may u x none = λ bytes same here.
    none (first_block (s.units unit).drive.kind (in_hand (s.units unit).service) + (s.units unit).progress.done)
    (ap (λ z. home_in setup z (first_block (s.units unit).drive.kind (in_hand (s.units unit).service) + (s.units unit).progress.done)) same
    ∙ (try_of setup armed s m line unit id b v are k h may).home bytes ∙ ap Some (sym here))
not_written setup armed s m line unit id other are k h may u x none = tt

quiet_stands : (setup : Setup) (armed : List LiveNoise) (s : Replay) (m : Machine) (line unit id : ℕ) (deed : Deed) → AreTablesOf setup.drives setup.packs setup.tables → Keeps setup s
    → StandsFor setup armed s m → LineMay s line unit id deed → IsNoEnd deed → StandsFor setup armed (replay_told s unit deed (unit_after s unit deed)) m
quiet_stands setup armed s m line unit id deed are k h may none = record {
  units = with_each (λ x (u : UnitSeen). UnitStands (is_sure_among armed x) (home_in setup x) u ((surface_after s unit deed).sector x) (m.blocks x)) s.units unit (unit_after s unit deed)
      (own_line setup armed s m line unit id deed are k h may none)
      (λ x apart. same_unit (is_sure_among armed x) (home_in setup x) (s.units x) (s.surface.sector x) ((surface_after s unit deed).sector x) (m.blocks x)
      (λ y. untouched s unit deed x y (untouched_other unit deed x y apart)) (h.units x));
  queues = with_each (λ x (u : UnitSeen). QueueStands setup.drives x m.outstanding u.service.waiting) s.units unit (unit_after s unit deed)
      (subst (λ (z : Service Request). QueueStands setup.drives unit m.outstanding z.waiting) (sym (unended s unit deed none).service) (h.queues unit)) (λ x apart. h.queues x);
  frames = (unended s unit deed none).frames ∙ h.frames;
  counted = (unended s unit deed none).counted ∙ h.counted;
  noise = live_after armed s unit deed h.noise;
  sizes = full_after s unit deed h.sizes;
  others = λ u x homeless. untouched s unit deed u x (not_written setup armed s m line unit id deed are k h may u x homeless) ∙ h.others u x homeless;
}

-- ---- the end of a request
ends_now : (setup : Setup) (armed : List LiveNoise) (s : Replay) (m : Machine) (line unit id : ℕ) (answer : Answer) → AreTablesOf setup.drives setup.packs setup.tables → Keeps setup s
    → StandsFor setup armed s m → LineMay s line unit id (End answer)
    → EndsAs (IsSure (is_sure_among armed unit) (home_in setup unit) (first_block (s.units unit).drive.kind (in_hand (s.units unit).service)) (in_hand (s.units unit).service)) (m.blocks unit)
    (first_block (s.units unit).drive.kind (in_hand (s.units unit).service)) (in_hand (s.units unit).service) (s.units unit).progress answer
ends_now setup armed s m line unit id answer are k h may =
    due_ends (is_sure_among armed unit) (home_in setup unit) (s.units unit).drive (hand_of (s.units unit)) (s.surface.sector unit) (m.blocks unit) (setup.packs unit) (k.lines unit) (End answer) (s.units unit).stage
    (λ b. home_is setup unit (s.units unit).drive.kind (s.units unit).table b (there.0 ∙ ap Some (sym (k.kinds unit))) (k.tables unit)) (k.marked unit) head.good (h.units unit).hand (h.units unit).stage (k.fits unit).fits may.talk
  where
    head : IsOutstanding setup.drives unit m.outstanding (in_hand (s.units unit).service)
    head = (head_is setup.drives unit id m.outstanding (s.units unit).service.waiting may.service (h.queues unit)).0

    there : (setup.drives unit ≡ Some (kind_of setup.drives unit)) × (first_block (kind_of setup.drives unit) (in_hand (s.units unit).service) + (in_hand (s.units unit).service).count ≤ limit_of (kind_of setup.drives unit))
    there = there_is (setup.drives unit) (λ kind. first_block kind (in_hand (s.units unit).service) + (in_hand (s.units unit).service).count ≤ limit_of kind)
        head.inside

-- its answer is a step
may_be : (setup : Setup) (armed : List LiveNoise) (m : Machine) (unit : ℕ) (kind : DriveKind) (r : Request) (answer : Answer) → kind ≡ kind_of setup.drives unit → r.unit ≡ unit
    → MayAnswer (IsSure (is_sure_among armed unit) (home_in setup unit) (first_block kind r) r) (m.blocks unit) (first_block kind r) r answer
    → MayAnswer (IsSure (is_sure_among armed r.unit) (home_in setup r.unit) (first_block (kind_of setup.drives r.unit) r) r) (m.blocks r.unit) (first_block (kind_of setup.drives r.unit) r) r answer
may_be setup armed m unit kind r answer same here may = search rules

-- the machine after the end of the request in hand of a unit
abbrev AfterEnd : Setup → Replay → Machine → ℕ → Answer → Machine
AfterEnd setup s m unit answer = after_answer m (first_block (kind_of setup.drives (in_hand (s.units unit).service).unit) (in_hand (s.units unit).service)) (in_hand (s.units unit).service) answer

end_step : (setup : Setup) (armed : List LiveNoise) (s : Replay) (m : Machine) (line unit id : ℕ) (answer : Answer) → AreTablesOf setup.drives setup.packs setup.tables → Keeps setup s
    → StandsFor setup armed s m → LineMay s line unit id (End answer)
    → Step setup.drives (sure_claims setup armed) m (record { line = line; id = id; answer = answer }) (AfterEnd setup s m unit answer)
end_step setup armed s m line unit id answer are k h may = record {
  request = in_hand (s.units unit).service;
  found = ap (λ z. request_of z m.outstanding) (sym head.1) ∙ head.0.listed;
  may = may_be setup armed m unit (s.units unit).drive.kind (in_hand (s.units unit).service) answer (k.kinds unit) head.0.unit_is (ends_now setup armed s m line unit id answer are k h may).may;
  is = refl;
}
  where
    head : IsOutstanding setup.drives unit m.outstanding (in_hand (s.units unit).service) × ((in_hand (s.units unit).service).id ≡ id)
    head = head_is setup.drives unit id m.outstanding (s.units unit).service.waiting may.service (h.queues unit)

-- and the next one begins
own_blocks : (setup : Setup) (m : Machine) (unit : ℕ) (kind : DriveKind) (r : Request) (answer : Answer) → kind ≡ kind_of setup.drives unit → r.unit ≡ unit
    → blocks_after m.blocks (first_block (kind_of setup.drives r.unit) r) r answer unit ≡ blocks_done (m.blocks unit) (first_block kind r) r (done_in answer r)
own_blocks setup m unit kind r answer same here =
    rw (eq-eqb unit r.unit (sym here)) (ap (λ z. blocks_done (m.blocks unit) (first_block z r) r (done_in answer r)) (ap (kind_of setup.drives) here ∙ sym same))

other_unit : (setup : Setup) (m : Machine) (unit x : ℕ) (r : Request) (answer : Answer) → r.unit ≡ unit → x ≢ unit
    → blocks_after m.blocks (first_block (kind_of setup.drives r.unit) r) r answer x ≡ m.blocks x
other_unit setup m unit x r answer here apart = rw (ne_eqb x r.unit (λ e. apart (e ∙ here))) refl

waiting_left : (drives : ℕ → Option DriveKind) (unit id : ℕ) (rs : List Request) (waiting : List (Waiter Request)) → ids (first_waiting waiting) ≡ Some id → QueueStands drives unit rs waiting
    → QueueStands drives unit (without (request_or_none (first_waiting waiting)).id rs) (drop 1 waiting)
waiting_left drives unit id rs [] is q = absurd (none-some id is)
waiting_left drives unit id rs (w ∷ ws) is q = head_leaves drives unit rs w ws q

end_stands : (setup : Setup) (armed : List LiveNoise) (s : Replay) (m : Machine) (line unit id : ℕ) (answer : Answer) → AreTablesOf setup.drives setup.packs setup.tables → Keeps setup s
    → StandsFor setup armed s m → LineMay s line unit id (End answer)
    → StandsFor setup armed (replay_told s unit (End answer) (unit_after s unit (End answer))) (AfterEnd setup s m unit answer)
end_stands setup armed s m line unit id answer are k h may = record {
  units = with_each (λ x (u : UnitSeen). UnitStands (is_sure_among armed x) (home_in setup x) u (s.surface.sector x) ((AfterEnd setup s m unit answer).blocks x)) s.units unit (unit_after s unit (End answer))
      (subst (λ z. UnitStands (is_sure_among armed unit) (home_in setup unit) (unit_after s unit (End answer)) (s.surface.sector unit) z)
      (sym (own_blocks setup m unit (s.units unit).drive.kind (in_hand (s.units unit).service) answer (k.kinds unit) head.0.unit_is)) own)
      (λ x apart. subst (λ z. UnitStands (is_sure_among armed x) (home_in setup x) (s.units x) (s.surface.sector x) z)
      (sym (other_unit setup m unit x (in_hand (s.units unit).service) answer head.0.unit_is apart)) (h.units x));
  queues = with_each (λ x (u : UnitSeen). QueueStands setup.drives x (without (in_hand (s.units unit).service).id m.outstanding) u.service.waiting) s.units unit (unit_after s unit (End answer))
      (waiting_left setup.drives unit id m.outstanding (s.units unit).service.waiting may.service (h.queues unit))
      (λ x apart. other_stays setup.drives x m.outstanding (in_hand (s.units unit).service) (s.units x).service.waiting (λ e. apart (sym e ∙ head.0.unit_is)) head.0.listed (h.queues x));
  frames = taken s.frames (frames_needed (in_hand (s.units unit).service)) (frames_of m.outstanding) (frames_of (without (in_hand (s.units unit).service).id m.outstanding)) h.frames
      (frames_left (in_hand (s.units unit).service).id m.outstanding (in_hand (s.units unit).service) head.0.listed);
  counted = taken s.outstanding 1 (length m.outstanding) (length (without (in_hand (s.units unit).service).id m.outstanding)) h.counted
      (fewer (in_hand (s.units unit).service).id m.outstanding (in_hand (s.units unit).service) head.0.listed);
  noise = h.noise;
  sizes = h.sizes;
  others = h.others;
}
  where
    head : IsOutstanding setup.drives unit m.outstanding (in_hand (s.units unit).service) × ((in_hand (s.units unit).service).id ≡ id)
    head = head_is setup.drives unit id m.outstanding (s.units unit).service.waiting may.service (h.queues unit)

    taken : (now needed all left : ℕ) → now ≡ all → left + needed ≡ all → now - needed ≡ left
    taken now needed all left a b = omega (arith, a, b)

    own : UnitStands (is_sure_among armed unit) (home_in setup unit) (unit_after s unit (End answer)) (s.surface.sector unit)
        (blocks_done (m.blocks unit) (first_block (s.units unit).drive.kind (in_hand (s.units unit).service)) (in_hand (s.units unit).service) (done_in answer (in_hand (s.units unit).service)))
    own = record {
      hand = next_hand (is_sure_among armed unit) (home_in setup unit) (first_block (s.units unit).drive.kind (in_hand (s.units unit).service)) (in_hand (s.units unit).service) (s.units unit).progress
          (s.surface.sector unit) (m.blocks unit) answer (first_block (s.units unit).drive.kind (in_hand (after_leave (s.units unit).service))) (in_hand (after_leave (s.units unit).service))
          (ends_now setup armed s m line unit id answer are k h may).done (h.units unit).hand;
      stage = next_stage (is_sure_among armed unit) (home_in setup unit) (first_block (s.units unit).drive.kind (in_hand (after_leave (s.units unit).service))) (in_hand (after_leave (s.units unit).service)) not_begun
          (blocks_done (m.blocks unit) (first_block (s.units unit).drive.kind (in_hand (s.units unit).service)) (in_hand (s.units unit).service) (done_in answer (in_hand (s.units unit).service)))
          (s.units unit).drive.work (s.units unit).drive (head_of (after_leave (s.units unit).service));
    }

-- ---- what is owed
calm_wish : (adapters : ℕ → AdapterSeen) (act : Act) (line : ℕ) → IsCalm act → owed_by (wish_in adapters act) line ≡ []
calm_wish adapters act line calm = search rules

pub calm_owes : (adapters : ℕ → AdapterSeen) (e : Event) (goes : Bool) (line : ℕ) → IsCalm e.act → owed_by (wanted adapters e goes) line ≡ []
calm_owes adapters e true line calm = refl
calm_owes adapters e false line calm = calm_wish adapters e.act line calm

pub state_owes : (s : Replay) → IsCalm s.event.act → owed s ≡ []
state_owes s calm = calm_owes s.adapters s.event (goes_on (s.units s.event.speaker).stage) s.event.line calm

-- ---- the event after a line
pub record Eased (line : ℕ) (s : Replay) : Type 0 where
  pub calm : IsCalm s.event.act
  pub number : s.event.line ≡ line

pub line_eases : (setup : Setup) (s : Replay) (line unit id : ℕ) (deed : Deed) → Keeps setup s → LineMay s line unit id deed → Eased s.event.line (drained (replay_told s unit deed (unit_after s unit deed)))
line_eases setup s line unit id deed k may =
    either (Eased s.event.line) (next.event.drains && (is_no_line (next_wish next) && nat_lt 0 next.outstanding)) next (record next { event = record next.event { between = true; act = act_drained next } })
    (record { calm = calm_after deed s.event.act calm; number = refl }) (record { calm = calm_drain next; number = refl })
  where
    next : Replay
    next = replay_told s unit deed (unit_after s unit deed)

    calm : IsCalm s.event.act
    calm = calm_line s.adapters s.event.line s.event.drains s.event.between s.event.speaker s.event.act (goes_on (s.units s.event.speaker).stage) unit deed k.refusing may.wished

-- ---- A LINE
pub record ToldStep (setup : Setup) (armed : List LiveNoise) (s : Replay) (m : Machine) (wish : Wish) (after : Replay) (line unit id : ℕ) (deed : Deed) : Type 0 where
  pub later : List Answered
  pub new : Machine
  pub order : told_by (Told line unit id deed) ++ owed after ≡ owed_by wish s.event.line ++ later
  pub steps : Steps setup.drives (sure_claims setup armed) after.event.line m later new
  pub stands : StandsFor setup armed after new

told_none : (line unit id : ℕ) (deed : Deed) → IsNoEnd deed → told_by (Told line unit id deed) ≡ []
told_none line unit id (End a) none = absurd none
told_none line unit id other none = refl

-- it is an end, or is none
ends_or_not : (P : Deed → Type 0) → ((deed : Deed) → IsNoEnd deed → P deed) → ((answer : Answer) → P (End answer)) → (deed : Deed) → P deed
ends_or_not P none ends (End answer) = ends answer
ends_or_not P none ends other = none other tt

-- of a request that joined; no refusal is owed at it
line_step : (setup : Setup) (armed : List LiveNoise) (s : Replay) (m : Machine) (wish : Wish) (line unit id : ℕ) → AreTablesOf setup.drives setup.packs setup.tables → Keeps setup s
    → StandsFor setup armed s m → owed_by wish s.event.line ≡ [] → (deed : Deed) → LineMay s line unit id deed
    → ToldStep setup armed s m wish (drained (replay_told s unit deed (unit_after s unit deed))) line unit id deed
line_step setup armed s m wish line unit id are k h nothing deed =
    ends_or_not (λ deed. LineMay s line unit id deed → ToldStep setup armed s m wish (drained (replay_told s unit deed (unit_after s unit deed))) line unit id deed) quiet ends deed
  where
    quiet : (deed : Deed) → IsNoEnd deed → LineMay s line unit id deed → ToldStep setup armed s m wish (drained (replay_told s unit deed (unit_after s unit deed))) line unit id deed
    quiet deed none may = record {
      later = [];
      new = m;
      order = ap (λ z. z ++ owed (drained (replay_told s unit deed (unit_after s unit deed)))) (told_none line unit id deed none)
          ∙ state_owes (drained (replay_told s unit deed (unit_after s unit deed))) (line_eases setup s line unit id deed k may).calm ∙ sym (ap (λ z. z ++ []) nothing);
      steps = refl;
      stands = drained_keeps (λ t. StandsFor setup armed t m) (replay_told s unit deed (unit_after s unit deed))
          (λ event. other_event setup armed (replay_told s unit deed (unit_after s unit deed)) m event (quiet_stands setup armed s m line unit id deed are k h may none));
    }

    ends : (answer : Answer) → LineMay s line unit id (End answer) → ToldStep setup armed s m wish (drained (replay_told s unit (End answer) (unit_after s unit (End answer)))) line unit id (End answer)
    ends answer may = record {
      later = record { line = line; id = id; answer = answer } ∷ [];
      new = AfterEnd setup s m unit answer;
      order = ap (λ z. record { line = line; id = id; answer = answer } ∷ z) (state_owes (drained (replay_told s unit (End answer) (unit_after s unit (End answer)))) (line_eases setup s line unit id (End answer) k may).calm)
          ∙ sym (ap (λ z. z ++ record { line = line; id = id; answer = answer } ∷ []) nothing);
      steps = (may.number ∙ sym (line_eases setup s line unit id (End answer) k may).number, AfterEnd setup s m unit answer, end_step setup armed s m line unit id answer are k h may, refl);
      stands = drained_keeps (λ t. StandsFor setup armed t (AfterEnd setup s m unit answer)) (replay_told s unit (End answer) (unit_after s unit (End answer)))
          (λ event. other_event setup armed (replay_told s unit (End answer) (unit_after s unit (End answer))) (AfterEnd setup s m unit answer) event (end_stands setup armed s m line unit id answer are k h may));
    }

-- the end line of a refused request was owed
refusal_step : (setup : Setup) (armed : List LiveNoise) (s : Replay) (m : Machine) (line unit id u i : ℕ) (why : Rejection) (deed : Deed) → StandsFor setup armed s m
    → RefusalMay s line unit id deed u i why → ToldStep setup armed s m (Refusal u i why) (act_done s) line unit id deed
refusal_step setup armed s m line unit id u i why deed h may = subst (λ z. ToldStep setup armed s m (Refusal u i why) (act_done s) line unit id z) (sym may.answered) (record {
  later = [];
  new = m;
  order = ap (λ z. record { line = line; id = id; answer = rejection_answer why } ∷ z) (state_owes (act_done s) tt)
      ∙ ap (λ z. record { line = z; id = id; answer = rejection_answer why } ∷ []) may.number ∙ ap (λ z. record { line = s.event.line; id = z; answer = rejection_answer why } ∷ []) may.same_id;
  steps = refl;
  stands = other_event setup armed s m (record s.event { act = Done }) h;
})

pub told_step : (setup : Setup) (armed : List LiveNoise) (s : Replay) (m : Machine) (wish : Wish) (line unit id : ℕ) (deed : Deed) → AreTablesOf setup.drives setup.packs setup.tables → Keeps setup s
    → StandsFor setup armed s m → ToldMay wish s line unit id deed → ToldStep setup armed s m wish (told_after wish s unit deed) line unit id deed
told_step setup armed s m (Refusal u i why) line unit id deed are k h may = refusal_step setup armed s m line unit id u i why deed h may
told_step setup armed s m other line unit id deed are k h may = line_step setup armed s m other line unit id are k h refl deed may

-- ---- the line's number stays
told_number : (setup : Setup) (wish : Wish) (s : Replay) (line unit id : ℕ) (deed : Deed) → Keeps setup s → ToldMay wish s line unit id deed → (told_after wish s unit deed).event.line ≡ s.event.line
told_number setup (Refusal u i why) s line unit id deed k may = refl
told_number setup other s line unit id deed k may = (line_eases setup s line unit id deed k may).number

pub told_line : (setup : Setup) (s : Replay) (line unit id : ℕ) (deed : Deed) → Keeps setup s → ToldMay (next_wish s) s line unit id deed → (after_moment s (Told line unit id deed)).event.line ≡ s.event.line
told_line setup s line unit id deed k may = told_number setup (next_wish s) s line unit id deed k may
