-- Refusals, answers that are taken, another speaker, and the start.
use Rattle.std.proofs.Common.{◌≡◌, ℕ, zero, suc, ◌<◌, Bool, true, false, List, [], ◌∷◌, replicate, Option, Some, None, refl, sym, ap, subst, arith, ◌∙◌, get_or-set_other, rules}
use Rattle.std.proofs.lemmas.List.Elements.{Contains-get_or}
use Rattle.std.proofs.lemmas.Bool.Decides.{eqb_tells}
use Rattle.std.specs.Prelude.{slice_set, slice_index_or, unwrap_or, Contains}
use Rattle.std.specs.Option.{option_map_or}
use Rattle.partitions.specs.Partitions.{admission}
use Rattle.partitions.specs.declared.Admission.{Admission}
use Rattle.hardware_table.specs.Adapter.{new_adapter}
use Rattle.disksort.specs.declared.Waiter.{Waiter}
use Rattle.trace_replay.specs.requests.Requests.{Request, Rejection, rejection_answer}
use Rattle.trace_replay.specs.Script as script
use Rattle.trace_replay.specs.Conversation as told
use Rattle.trace_replay.specs.Replay.{UnitSeen, Replay, Refused, Joined, Submission, submission, submission_by, submitted, new_replay, replay_played}
use Rattle.trace_replay.specs.declared.requests.answers.AnswerKind.{AnswerKind}
use Rattle.driver_machine.specs.declared.Made.{Made}
use Rattle.driver_machine.specs.declared.Phase.{Phase}
use Rattle.driver_machine.specs.declared.Phase.TheVariants as phases
use Rattle.driver_machine.specs.World.{World, AdapterView, Held, new_world, no_held, new_adapter_view, adapter_of, unit_at, adapter_at, held_in, slot_in_hand, Setup}
use Rattle.driver_machine.specs.Acts.{Refuse, Submit, Taken, after, freed, Change, Nothing}
use Rattle.driver_machine.specs.Events.{refusal_by, is_room, refusal_of}
use Rattle.driver_machine.specs.Lines.{answer_told}
use Rattle.driver_machine.specs.Guards.{IsSetUp, Allowed, IsHeldFor}
use Rattle.driver_machine.specs.Sound.{Sound, IsOutstanding, IsMade}
use Rattle.driver_laws.specs.shown.Shows.{IsUnitSeen, IsAdapterSeen, counted_by, outstanding_in}
use Rattle.driver_laws.specs.shown.Acts.{AreSetUp}
use Rattle.driver_laws.proofs.shown.Frame.{progress_stays, same_transfer}
use Rattle.driver_laws.proofs.shown.Queues.{each_of, match_same}
use Rattle.driver_laws.proofs.shown.Joins.{joined_shows}
use Rattle.driver_laws.proofs.shown.Changes.{turn_shows, arm_shows, online_shows, locked_shows, noise_shows}
use Rattle.driver_laws.proofs.answers.Ids.{replicate_at}
use Rattle.driver_laws.proofs.rules.Lookups.{true_false}
use Rattle.driver_laws.proofs.shown.Facts.{some_one}
use Rattle.trace_replay.specs.Script.{Input}
use Rattle.trace_replay.proofs.requests.ServiceOrderRuns.{IsService}
use Rattle.trace_replay.specs.Service.{cylinder_of}
use Rattle.pack_geometry.specs.declared.DriveKind.{DriveKind}
use Rattle.pack_geometry.specs.TableSpelling.{Table}
use Rattle.trace_replay.specs.Packs.{Surface}
use Rattle.driver_laws.proofs.shown.Showing.{Shows, is_coming, with_coming, IsAtWorkFor, IsRefused}

-- A REFUSAL
pub record IsRefusal (kind : AnswerKind) (met : Submission) : Type 0 where
  pub why : Rejection
  pub is : met ≡ Refused why
  pub answer : answer_told kind [] ≡ rejection_answer why

refused_by : (adm : Admission) (room : Bool) (kind : AnswerKind) → refusal_by adm room ≡ Some kind → IsRefusal kind (submission_by adm room)
refused_by adm room kind e = search rules

pub joins_by : (adm : Admission) (room : Bool) → refusal_by adm room ≡ None → submission_by adm room ≡ Joined
joins_by adm room e = search rules

same_submission : (u : ℕ) (r : Request) (w : World) (s : Replay) → Shows u w s → IsSetUp w r.unit
    → submission s r ≡ submission_by (admission (unit_at w r.unit).drive.kind r.part r.block r.count) (is_room r w)
same_submission u r w s shows set = rw ((shows.units r.unit set).drive, shows.frames) refl

refuse_shows : (u line : ℕ) (r : Request) (kind : AnswerKind) (w : World) (s : Replay) → Shows u w s → Shows u (after w (Refuse line r kind)) s
refuse_shows u line r kind w s shows = search rules

pub refusals_show : (u line : ℕ) (r : Request) (kind : AnswerKind) (w : World) (s : Replay) → Shows u w s → Allowed w (Refuse line r kind)
    → IsRefused u line r kind w s
refusals_show u line r kind w s shows allowed =
    let is : IsRefusal kind (submission_by (admission (unit_at w r.unit).drive.kind r.part r.block r.count) (is_room r w)) =
    refused_by (admission (unit_at w r.unit).drive.kind r.part r.block r.count) (is_room r w) kind allowed.2 in
    let met : submission s r ≡ Refused is.why = same_submission u r w s shows allowed.0 ∙ is.is in
    record {
      why = is.why;
      met = met;
      answer = is.answer;
      shows = subst (λ m. Shows u (after w (Refuse line r kind)) (submitted s r m)) (sym met) (refuse_shows u line r kind w s shows);
    }

-- A JOIN
pub joins_show : (line p : ℕ) (h : Held) (r : Request) (w : World) (s : Replay) → Sound w → Shows h.unit w s → Allowed w (Submit line p h)
    → IsHeldFor (unit_at w h.unit).drive.kind r h → refusal_of r w ≡ None
    → IsService (cylinder_of (s.units h.unit).drive.kind) (s.units h.unit).service
    → Shows h.unit (after w (Submit line p h)) (replay_played s (script.Submit r))
joins_show line p h r w s sound shows allowed is inside sorted =
    let set : IsSetUp w r.unit = subst (IsSetUp w) is.unit allowed.unit in
    let met : submission s r ≡ Joined =
    same_submission h.unit r w s shows set ∙ joins_by (admission (unit_at w r.unit).drive.kind r.part r.block r.count) (is_room r w) inside in
    subst (λ m. Shows h.unit (after w (Submit line p h)) (submitted s r m)) (sym met) (joined_shows line p h r w s sound allowed is sorted shows)

-- CONDITIONS
pub changes_show : (u : ℕ) (input : Input) (w : World) (s : Replay) → Sound w → Shows u w s → Allowed w (Change input) → IsAtWorkFor w input
    → Shows u (after w (Change input)) (replay_played s input)
changes_show u (script.Turn x sector) w s sound shows allowed work = turn_shows u x sector w s sound allowed.0 work shows
changes_show u (script.Noise noise) w s sound shows allowed work = noise_shows u noise w s shows
changes_show u (script.Arm x kind times) w s sound shows allowed work = arm_shows u x kind times w s sound allowed.0 work shows
changes_show u (script.SetOnline x on) w s sound shows allowed work = online_shows u x on w s sound allowed work shows
changes_show u (script.SetLocked x on) w s sound shows allowed work = locked_shows u x on w s sound allowed work shows
changes_show u other w s sound shows allowed work = absurd allowed

-- AN ANSWER IS TAKEN: its slot is free, and all that is outstanding stays.
record IsFreed (slots now : List (Option Held)) : Type 0 where
  keeps : (q : ℕ) (h : Held) → slice_index_or slots q None ≡ Some h → h.ended ≡ false → slice_index_or now q None ≡ Some h
  count : outstanding_in slots ≡ outstanding_in now

outstanding_freed : (slots : List (Option Held)) (p : ℕ) (h : Held) → slice_index_or slots p None ≡ Some h → h.ended ≡ true
    → outstanding_in slots ≡ outstanding_in (slice_set slots p None)
outstanding_freed [] p h is over = refl
outstanding_freed (None ∷ slots) zero h is over = refl
outstanding_freed (Some x ∷ slots) zero h is over =
    let one : x ≡ h = grind (arith, is) in
    ap (λ b. counted_by b (outstanding_in slots)) (ap (λ (y : Held). y.ended) one ∙ over)
outstanding_freed (None ∷ slots) (suc p) h is over = outstanding_freed slots p h is over
outstanding_freed (Some x ∷ slots) (suc p) h is over = ap (counted_by x.ended) (outstanding_freed slots p h is over)

freed_slot : (slot : Option ℕ) (slots : List (Option Held)) → ((p : ℕ) → slot ≡ Some p → (h : Held) × (slice_index_or slots p None ≡ Some h) × (h.ended ≡ true))
    → IsFreed slots (option_map_or (λ p. slice_set slots p None) slot slots)
freed_slot slot slots over = search (rules, eqb_tells, true_false, some_one, get_or-set_other, outstanding_freed)

made_over : (answers : List Made) (slots : List (Option Held))
    → ((made : Made) (p : ℕ) → Contains answers made → made.slot ≡ Some p → (h : Held) × (slice_index_or slots p None ≡ Some h) × (h.ended ≡ true))
    → IsFreed slots (freed answers slots)
made_over [] slots over = record { keeps = λ q h is going. is; count = refl }
made_over (made ∷ rest) slots over = freed_slot made.slot slots (λ p is. over made p (0, omega arith, refl) is)

taken_freed : (w : World) → Sound w → IsFreed w.slots (freed w.answers w.slots)
taken_freed w sound =
    made_over w.answers w.slots (λ made p inside is.
    let at : IsMade w made p = sound.answers made p inside is in
    (at.held, at.slot, at.over))

held_kept : (w : World) (x : ℕ) (y : Waiter) → Sound w → IsOutstanding w x y → held_in w y.number ≡ held_in (after w Taken) y.number
held_kept w x y sound out =
    let later : slice_index_or (freed w.answers w.slots) y.number None ≡ Some out.held = (taken_freed w sound).keeps y.number out.held out.slot out.going_on in
    ap (λ o. unwrap_or o no_held) (out.slot ∙ sym later)

taken_seen : (w : World) (x : ℕ) (seen : UnitSeen) → Sound w → x < 32 → IsUnitSeen (held_in w) (unit_at w x) (adapter_at w (adapter_of x)).state seen
    → IsUnitSeen (held_in (after w Taken)) (unit_at w x) (adapter_at w (adapter_of x)).state seen
taken_seen w x seen sound small is = record {
  drive = is.drive;
  table = is.table;
  queue =
      match_same (held_in w) (held_in (after w Taken)) (unit_at w x).drive.kind (unit_at w x).queue seen.service.waiting
      (each_of (λ (y : Waiter). held_in w y.number ≡ held_in (after w Taken) y.number) (unit_at w x).queue
      (λ y c. held_kept w x y sound ((sound.each_unit x small).queue y c))) is.queue;
  stage = is.stage;
  progress =
      progress_stays (unit_at w x).phase (unit_at w x) (adapter_at w (adapter_of x)).state (adapter_at w (adapter_of x)).state
      (held_in w (slot_in_hand (unit_at w x))) (held_in (after w Taken) (slot_in_hand (unit_at w x))) seen.progress
      (λ e. same_transfer (adapter_at w (adapter_of x)).state)
      (λ going. held_kept w x _ sound ((sound.each_unit x small).queue _
      (Contains-get_or (unit_at w x).queue 0 (record { number = 0; cylinder = 0 }) ((sound.each_unit x small).head going)))) is.progress;
}

-- an event that finds nothing, and an answer that is taken, change nothing that is seen
pub rest_shows : (u line : ℕ) (w : World) (s : Replay) → Sound w → Shows u w s → Shows u (after w (Nothing line)) s × Shows u (after w Taken) s
rest_shows u line w s sound shows = (
  shows,
  record {
    units = λ x set. taken_seen w x (s.units x) sound set.unit (shows.units x (record { unit = set.unit; declared = set.declared }));
    adapters = shows.adapters;
    own_ready = shows.own_ready;
    other_ready = shows.other_ready;
    noise = shows.noise;
    frames = shows.frames;
    outstanding = shows.outstanding ∙ (taken_freed w sound).count;
  },
)

-- THE START
none_outstanding : (n : ℕ) → 0 ≡ outstanding_in (replicate n None)
none_outstanding zero = refl
none_outstanding (suc n) = none_outstanding n

pub waiting_calm : (phase : Phase) → is_coming phase told.Waiting ≡ false
waiting_calm phases.Waiting = refl
waiting_calm other = refl

new_adapters : IsAdapterSeen new_adapter new_adapter
new_adapters = search rules

pub start_is_shown : (u : ℕ) (drives : ℕ → Option DriveKind) (tables : ℕ → Option Table) (surface : Surface) (setups : List Setup) (outstanding noises : ℕ)
    → AreSetUp drives tables (new_world setups outstanding noises) → surface.live ≡ []
    → Shows u (new_world setups outstanding noises) (new_replay drives tables surface)
start_is_shown u drives tables surface setups outstanding noises start quiet = record {
  units = λ x set.
      subst (λ v. IsUnitSeen (held_in (new_world setups outstanding noises)) v (adapter_at (new_world setups outstanding noises) (adapter_of x)).state
      ((new_replay drives tables surface).units x)) (sym (start x set))
      (record { drive = refl; table = refl; queue = tt; stage = refl; progress = refl });
  adapters = λ a less. subst (λ (v : AdapterView). IsAdapterSeen v.state new_adapter) (sym (replicate_at 4 a new_adapter_view)) new_adapters;
  own_ready =
      sym (ap (λ (v : AdapterView). v.queue) (replicate_at 4 (adapter_of u) new_adapter_view))
      ∙ sym (ap (λ b. with_coming b u (adapter_at (new_world setups outstanding noises) (adapter_of u)).queue)
      (waiting_calm (unit_at (new_world setups outstanding noises) u).phase));
  other_ready = λ a less other. sym (ap (λ (v : AdapterView). v.queue) (replicate_at 4 a new_adapter_view));
  noise = quiet;
  frames = refl;
  outstanding = none_outstanding outstanding;
}
