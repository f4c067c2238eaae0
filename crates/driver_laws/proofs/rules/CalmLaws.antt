-- A calm replay stays so.
use Rattle.std.proofs.Common.{◌≡◌, ℕ, Bool, true, false, [], ◌∷◌, None, Some, refl, sym, subst, rules}
use Rattle.std.specs.Prelude.{if◌then◌else◌, List}
use Rattle.std.proofs.lemmas.Bool.{false≢true}
use Rattle.hardware_table.specs.declared.Moved.{Moved}
use Rattle.hardware_table.specs.Drive.{DriveState}
use Rattle.hardware_table.specs.Events.{turned}
use Rattle.hardware_table.specs.Moves.{stop_of, IsVerdictBy}
use Rattle.trace_replay.specs.requests.Requests.{Request, Answer, Rejection, rejection_answer}
use Rattle.trace_replay.specs.Script.{Input}
use Rattle.trace_replay.specs.Moments.{Deed, End, Played, Told, Idle, Moment}
use Rattle.trace_replay.specs.Packs.{VerdictMay}
use Rattle.trace_replay.specs.Service.{head_of, in_hand, target_of}
use Rattle.trace_replay.specs.Conversation.{Stage, Waiting}
use Rattle.trace_replay.specs.Events.{Event, Wish, Refusal}
use Rattle.trace_replay.specs.Replay.{Replay, UnitSeen, with_state, at_unit, hand_of, next_wish, ToldMay, unit_after, surface_after, replay_told, after_moment, Submission, Refused, Joined, submitted, stage_joined, unit_joined, replay_played, MayCome, Follows, after_moments}
use Rattle.trace_replay.proofs.Unchanged.{told_keeps}
use Rattle.driver_laws.specs.rules.Calm.{IsGood, is_calm_verdict, is_calm_stage, IsCalm}
use Rattle.driver_laws.proofs.rules.Drives.{either_good, IsCalmDeed, after_good}
use Rattle.driver_laws.proofs.rules.WaitedStages.{begun_calm, stage_calm, end_calm}
use Rattle.driver_laws.proofs.rules.Stages.{first_of, second_of}
use Rattle.driver_laws.proofs.rules.CalmInputs.{IsCalmEnd, are_calm, is_calm_input, is_calm_moment}

-- ---- the verdict of a sector that is tried
pub stopped_not : (d : DriveState) → IsGood d → stop_of d ≡ None
stopped_not d g = rw (g.0, g.2) refl

pub verdict_by : (marked write : Bool) (v : Moved) → IsVerdictBy None marked write None v → is_calm_verdict v ≡ true
verdict_by true write v is = rw is refl
verdict_by false true v is = rw is refl
verdict_by false false v is = rw is refl

verdict_calm : (s : Replay) (unit : ℕ) (deed : Deed) → IsCalm s → VerdictMay s.surface unit (s.units unit).drive deed → IsCalmDeed deed
verdict_calm s unit deed calm may = search rules

-- ---- one unit is replaced
each_unit : (P : UnitSeen → Type 0) (units : ℕ → UnitSeen) (k : ℕ) (u : UnitSeen) (x : ℕ) → P u → P (units x) → P (with_state units k u x)
each_unit P units k u x mine other = search rules

-- ---- noise
live_calm : (s : Replay) (unit : ℕ) (deed : Deed) → s.surface.live ≡ [] → (surface_after s unit deed).live ≡ []
live_calm s unit deed none = search rules

-- ---- a line of a unit
unit_good : (s : Replay) (unit : ℕ) (deed : Deed) → IsCalmDeed deed → IsCalm s → IsGood (unit_after s unit deed).drive
unit_good s unit deed is calm =
    after_good (s.units unit).drive (at_unit s unit).state (target_of (s.units unit).drive.kind (in_hand (s.units unit).service)) deed is (calm.drives unit)

told_calm : (s : Replay) (unit : ℕ) (deed : Deed) (event : Event) → IsCalmDeed deed → IsCalm s → IsCalm (record (replay_told s unit deed (unit_after s unit deed)) { event = event })
told_calm s unit deed event is calm = record {
  drives = λ x. each_unit (λ (u : UnitSeen). IsGood u.drive) s.units unit (unit_after s unit deed) x (unit_good s unit deed is calm) (calm.drives x);
  stages = λ x. each_unit (λ (u : UnitSeen). is_calm_stage u.stage ≡ true) s.units unit (unit_after s unit deed) x
      (stage_calm (s.units unit).stage deed (unit_after s unit deed).drive (record (hand_of (s.units unit)) { progress = (unit_after s unit deed).progress })
      (head_of (unit_after s unit deed).service) is (calm.stages unit)) (calm.stages x);
  live = live_calm s unit deed calm.live;
}

pub other_event : (s : Replay) (event : Event) → IsCalm s → IsCalm (record s { event = event })
other_event s event calm = record { drives = calm.drives; stages = calm.stages; live = calm.live }

-- a refusal tells of no sector
refusal_deed : (why : Rejection) → IsCalmDeed (End (rejection_answer why))
refusal_deed why = tt

deed_calm : (wish : Wish) (s : Replay) (line unit id : ℕ) (deed : Deed) → IsCalm s → ToldMay wish s line unit id deed → IsCalmDeed deed
deed_calm (Refusal u i why) s line unit id deed calm may = subst IsCalmDeed (sym may.answered) (refusal_deed why)
deed_calm other s line unit id deed calm may = verdict_calm s unit deed calm may.verdict

-- ---- a line of the script
joined_stage : (stage : Stage) (d : DriveState) (r : Request) → is_calm_stage stage ≡ true → is_calm_stage (stage_joined stage d r) ≡ true
joined_stage Waiting d r calm = begun_calm d (Some r)
joined_stage other d r calm = calm

submitted_calm : (s : Replay) (r : Request) (met : Submission) → IsCalm s → IsCalm (submitted s r met)
submitted_calm s r (Refused why) calm = calm
submitted_calm s r Joined calm = record {
  drives = λ x. each_unit (λ (u : UnitSeen). IsGood u.drive) s.units r.unit (unit_joined (s.units r.unit) r) x (calm.drives r.unit) (calm.drives x);
  stages = λ x. each_unit (λ (u : UnitSeen). is_calm_stage u.stage ≡ true) s.units r.unit (unit_joined (s.units r.unit) r) x
      (joined_stage (s.units r.unit).stage (s.units r.unit).drive r (calm.stages r.unit)) (calm.stages x);
  live = calm.live;
}

turned_good : (b : Bool) (sector : ℕ) (d : DriveState) → IsGood d → IsGood (if b then turned sector d else d)
turned_good b sector d g = either_good b (turned sector d) d g g

pub played_calm : (s : Replay) (input : Input) → is_calm_input input ≡ true → IsCalm s → IsCalm (replay_played s input)
played_calm s input is calm = search (rules, submitted_calm, turned_good, false≢true)

-- ---- ALL OF IT
pub stays_calm : (s : Replay) (m : Moment) → MayCome s m → is_calm_moment m ≡ true → IsCalm s → IsCalm (after_moment s m)
stays_calm s (Played line input) may is calm = other_event (replay_played s input) _ (played_calm s input is calm)
stays_calm s (Told line unit id deed) may is calm =
    told_keeps IsCalm (next_wish s) s unit deed (λ event. other_event s event calm)
    (λ event. told_calm s unit deed event (deed_calm (next_wish s) s line unit id deed calm may) calm)
stays_calm s (Idle line) may is calm = other_event s _ calm

pub runs_stay_calm : (s : Replay) (ms : List Moment) → Follows s ms → are_calm ms ≡ true → IsCalm s → IsCalm (after_moments s ms)
runs_stay_calm s [] follows are calm = calm
runs_stay_calm s (m ∷ ms) follows are calm =
    runs_stay_calm (after_moment s m) ms follows.1 (second_of (is_calm_moment m) (are_calm ms) are)
    (stays_calm s m follows.0 (first_of (is_calm_moment m) (are_calm ms) are) calm)

refused_end : (answer : Answer) (why : Rejection) → End answer ≡ End (rejection_answer why) → IsCalmEnd answer
refused_end answer why is none = search rules

end_by : (wish : Wish) (s : Replay) (line unit id : ℕ) (answer : Answer) → IsCalm s → ToldMay wish s line unit id (End answer) → IsCalmEnd answer
end_by (Refusal u i why) s line unit id answer calm may none = refused_end answer why may.answered none
end_by other s line unit id answer calm may none = end_calm (s.units unit).drive (hand_of (s.units unit)) (s.units unit).stage answer (calm.drives unit) (calm.stages unit) may.talk

pub ends_are_calm : (s : Replay) (line unit id : ℕ) (answer : Answer) → IsCalm s → MayCome s (Told line unit id (End answer)) → IsCalmEnd answer
ends_are_calm s line unit id answer calm may = end_by (next_wish s) s line unit id answer calm may
