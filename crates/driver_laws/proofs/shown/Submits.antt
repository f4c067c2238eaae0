-- A condition that changes, and a request that is refused or joins.
use Rattle.std.proofs.Common.{◌≡◌, ◌≢◌, ℕ, ◌+◌, ◌<◌, Bool, false, ◌&&◌, List, [], ◌∷◌, length, None, refl, sym, ap, subst, ◌∙◌, get_or-set_same, rules}
use Rattle.std.specs.Prelude.{nat_lt}
use Rattle.pack_geometry.specs.Pack.{Pack}
use Rattle.hardware_table.specs.Drive.{DriveState}
use Rattle.hardware_table.specs.Events.{turned, fault_armed, online_set, locked_set}
use Rattle.trace_replay.proofs.requests.ServiceOrderRuns.{IsService}
use Rattle.trace_replay.specs.requests.Requests.{Request, Rejection, rejection_answer}
use Rattle.trace_replay.specs.Moments as moment
use Rattle.trace_replay.specs.Moments.{Moment, Played}
use Rattle.trace_replay.specs.Script as script
use Rattle.trace_replay.specs.Script.{Input}
use Rattle.trace_replay.specs.Service.{cylinder_of}
use Rattle.trace_replay.specs.Conversation.{goes_on}
use Rattle.trace_replay.specs.Events.{Wish, Refusal, wanted, Done, Refusing, Serving, Event}
use Rattle.trace_replay.specs.Replay.{Replay, Submission, Refused, Joined, ToldMay, next_wish, act_done, told_after, drained, after_moment, after_moments, act_of, act_submitted, event_of, is_drain, replay_played, submitted, submission, unit_joined}
use Rattle.trace_replay.specs.declared.requests.answers.AnswerKind.{AnswerKind}
use Rattle.driver_machine.specs.World.{World, UnitView, Held, adapter_of, unit_at, adapter_at, held_in, no_unit}
use Rattle.driver_machine.specs.Acts as deed
use Rattle.driver_machine.specs.Acts.{Act as MachineAct, Refuse, Submit, Change, joined, after, after_all}
use Rattle.driver_machine.specs.Lines.{lines_of_all, answer_told}
use Rattle.driver_machine.specs.Events.{followed, and_then, choose_acts, adapter_start, due_acts, joined_acts, refusal_of}
use Rattle.driver_machine.specs.Guards.{Allowed, IsSetUp, IsHeldFor, MayChange}
use Rattle.driver_machine.specs.Sound.{Sound, AtWork}
use Rattle.driver_machine.specs.Runs.{Run}
use Rattle.driver_laws.proofs.invariant.Leads.{run_split}
use Rattle.driver_laws.proofs.invariant.Start.{until_stop}
use Rattle.driver_laws.proofs.invariant.Sound.{sound_after}
use Rattle.driver_laws.specs.answers.Packs.{packs_after_all}
use Rattle.driver_laws.proofs.shown.Rest.{refusals_show, joins_show, changes_show}
use Rattle.driver_laws.specs.shown.Within.{ShowsAll, Rests}
use Rattle.driver_laws.proofs.shown.Telling.{within_all, Speaks, Tells, IsTold}
use Rattle.driver_laws.specs.shown.Calls.{IsSurfaceOf, Stands, IsOverWithin, Ends}
use Rattle.driver_laws.proofs.shown.Joined.{Followed, lines_follow, then_tells, drained_by}
use Rattle.driver_laws.proofs.shown.Due.{IsQuiet}
use Rattle.driver_laws.proofs.shown.Speaking.{quiet_after}
use Rattle.driver_laws.proofs.shown.Resting.{Rested, shows_one, shows_all, due_told}
use Rattle.driver_laws.proofs.shown.Starting.{wish_resting, start_told}
use Rattle.driver_laws.proofs.shown.Events.{not_drained, same_packs, drained_there}
use Rattle.driver_laws.proofs.invariant.Calls.{eighth}
use Rattle.driver_laws.proofs.shown.Showing.{Shows, IsAtWorkFor, IsRefused}

-- OUTSIDE A DRAIN behind its lines an event is over.
not_in_drain : (s : Replay) → s.event.drains ≡ false → drained s ≡ s
not_in_drain s plain = not_drained s (ap (λ (d : Bool). d && nat_lt 0 s.outstanding) plain)

any_told : (ms : List Moment) (s : Replay) → s.event.drains ≡ false → drained_by ms s ≡ drained s
any_told [] s plain = sym (not_in_drain s plain)
any_told (m ∷ ms) s plain = refl

pub ends_plain : (line : ℕ) (held : ℕ → Pack) (w : World) (s : Replay) → IsOverWithin line false w s → IsSurfaceOf held s → Ends line false held w s
ends_plain line held w s over packs = search rules

pub is_told_plain : (line : ℕ) (held : ℕ → Pack) (w : World) (s : Replay) (acts : List MachineAct) → IsSurfaceOf held s
    → Tells (IsOverWithin line false) w s acts → IsTold line false held w s acts
is_told_plain line held w s acts packs tells =
    let lines : Followed s (lines_of_all w acts) = lines_follow (lines_of_all w acts) s tells.follow in
    let is : after_moments s (lines_of_all w acts) ≡ drained (within_all s (lines_of_all w acts)) =
    lines.after ∙ any_told (lines_of_all w acts) (within_all s (lines_of_all w acts)) tells.holds.rests.event.drains_is in
    record {
      follows = lines.follows;
      ends = record {
        last = within_all s (lines_of_all w acts);
        is = is;
        over = tells.holds;
        packs = same_packs held (packs_after_all w held acts) s (within_all s (lines_of_all w acts)) tells.surface (tells.packs held) packs;
      };
      there = ap (λ (r : Replay). r.there) is ∙ drained_there (within_all s (lines_of_all w acts)) ∙ tells.there;
    }

-- A DRIVER AT WORK: each unit rests, and no adapter starts.
pub calm : (w : World) (s : Replay) (x : ℕ) → AtWork w → IsSetUp w x
    → Rattle.driver_laws.specs.shown.Shows.IsUnitSeen (held_in w) (unit_at w x) (adapter_at w (adapter_of x)).state (s.units x)
    → IsQuiet (unit_at w x).phase (s.units x).stage
calm w s x work unit seen = search rules

none_chosen : (line a : ℕ) (busy : Bool) (w : World) → AtWork w → a < 4 → (adapter_at w a).state.busy ≡ busy → choose_acts line a w ≡ []
none_chosen line a busy w work four is = search rules

pub start_none : (line a : ℕ) (w : World) → AtWork w → a < 4 → adapter_start line a w ≡ []
start_none line a w work four = until_stop (2 + length w.slots) (choose_acts line a) w (none_chosen line a (adapter_at w a).state.busy w work four refl)

-- the same replay with another event
other_event : (e : Event) (w : World) (r : Replay) → ShowsAll w r → ShowsAll w (record r { event = e })
other_event e w r shows = search rules

-- A CONDITION CHANGES.
changed_told : (line x : ℕ) (input : Input) (held : ℕ → Pack) (w : World) (s : Replay) → IsSetUp w x → IsSetUp (after w (Change input)) x
    → Stands held w s → Allowed w (Change input) → IsAtWorkFor w input → AtWork (after w (Change input))
    → act_of s input ≡ Done → is_drain input ≡ false
    → ((y : ℕ) → ((replay_played s input).units y).stage ≡ (s.units y).stage)
    → IsSurfaceOf held (replay_played s input) → (replay_played s input).there ≡ s.there
    → IsTold line false held w (after_moment s (Played line input)) (Change input ∷ [])
changed_told line x input held w s unit later stands allowed at work done plain stages packs there =
    let one : Shows x w s = shows_one x w s unit.unit stands.shows (calm w s x stands.work unit (stands.shows.units x unit)).coming in
    let shows : Shows x (after w (Change input)) (replay_played s input) = changes_show x input w s stands.sound one allowed at in
    let all : ShowsAll (after w (Change input)) (replay_played s input) =
    shows_all x (after w (Change input)) (replay_played s input) shows
    (calm (after w (Change input)) (replay_played s input) x work later (shows.units x later)).coming in
    let rests : Rests line false Done (after w (Change input)) (after_moment s (Played line input)) = record {
      sound = sound_after w (Change input) stands.sound allowed;
      shows = other_event (event_of s line input) (after w (Change input)) (replay_played s input) all;
      event = record { line_is = refl; drains_is = plain; act_is = done; work = tt };
      quiet = λ y. ap goes_on (stages y) ∙ stands.quiet y;
    } in
    record {
      follows = tt;
      ends = ends_plain line held (after w (Change input)) (after_moment s (Played line input))
          (record { act = Done; rests = rests; over = wish_resting line false Done (after w (Change input)) (after_moment s (Played line input)) rests })
          (record { sectors = packs.sectors; marks = packs.marks });
      there = refl;
    }

same_set_up : (w : World) (x : ℕ) (f : DriveState → DriveState) → Sound w → IsSetUp w x → IsSetUp (deed.with_unit_drive x f w) x
same_set_up w x f sound unit = search rules

same_surface : (held : ℕ → Pack) (s r : Replay) → IsSurfaceOf held s → r.surface.sector ≡ s.surface.sector → r.surface.is_marked ≡ s.surface.is_marked
    → IsSurfaceOf held r
same_surface held s r packs sectors marks = search rules

pub change_played : (line : ℕ) (input : Input) (held : ℕ → Pack) (w : World) (s : Replay) → Stands held w s → MayChange w input
    → AtWork (after w (Change input)) → IsTold line false held w (after_moment s (Played line input)) (Change input ∷ [])
change_played line (script.Turn u sector) held w s stands may work =
    changed_told line u (script.Turn u sector) held w s may.0 (same_set_up w u (turned sector) stands.sound may.0) stands may
    (stands.work.units u may.0.unit) work refl refl (λ y. refl) (same_surface held s _ stands.packs refl refl) refl
change_played line (script.Arm u kind times) held w s stands may work =
    changed_told line u (script.Arm u kind times) held w s may.0 (same_set_up w u (fault_armed kind times) stands.sound may.0) stands may
    (stands.work.units u may.0.unit) work refl refl (λ y. refl) (same_surface held s _ stands.packs refl refl) refl
change_played line (script.SetOnline u on) held w s stands may work =
    changed_told line u (script.SetOnline u on) held w s may (same_set_up w u (online_set on) stands.sound may) stands may
    (stands.work.units u may.unit) work refl refl (λ y. refl) (same_surface held s _ stands.packs refl refl) refl
change_played line (script.SetLocked u on) held w s stands may work =
    changed_told line u (script.SetLocked u on) held w s may (same_set_up w u (locked_set on) stands.sound may) stands may
    (stands.work.units u may.unit) work refl refl (λ y. refl) (same_surface held s _ stands.packs refl refl) refl
change_played line (script.Noise noise) held w s stands may work =
    changed_told line noise.unit (script.Noise noise) held w s may.0 (record { unit = may.0.unit; declared = may.0.declared }) stands may
    tt work refl refl (λ y. refl) (same_surface held s _ stands.packs refl refl) refl
change_played line other held w s stands may work = absurd may

-- A REQUEST IS REFUSED. The event that answers it
abbrev refusing : ℕ → Request → Rejection → Event
refusing line r why = record { line = line; drains = false; between = false; act = Refusing r.unit r.id why; speaker = r.unit }

refused_told : (line : ℕ) (r : Request) (kind : AnswerKind) (why : Rejection) (held : ℕ → Pack) (w : World) (s : Replay) → Stands held w s
    → Sound (after w (Refuse line r kind)) → answer_told kind [] ≡ rejection_answer why
    → IsTold line false held w (record s { event = refusing line r why }) (Refuse line r kind ∷ [])
refused_told line r kind why held w s stands sound answer = record {
  follows = (
    subst (λ (wish : Wish). ToldMay wish asks line r.unit r.id (moment.End (answer_told kind []))) (sym wish)
        (record { number = refl; same_unit = refl; same_id = refl; answered = ap moment.End answer }),
    tt,
  );
  ends = subst (Ends line false held (after w (Refuse line r kind))) (sym after_is)
      (ends_plain line held (after w (Refuse line r kind)) (act_done asks)
      (record { act = Done; rests = rests; over = wish_resting line false Done (after w (Refuse line r kind)) (act_done asks) rests })
      (record { sectors = stands.packs.sectors; marks = stands.packs.marks }));
  there = ap (λ (x : Replay). x.there) after_is;
}
  where
    asks : Replay
    asks = record s { event = refusing line r why }

    wish : next_wish (record s { event = refusing line r why }) ≡ Refusal r.unit r.id why
    wish = ap (λ (b : Bool). wanted s.adapters (refusing line r why) b) (stands.quiet r.unit)

    after_is : told_after (next_wish (record s { event = refusing line r why })) (record s { event = refusing line r why }) r.unit (moment.End (answer_told kind []))
        ≡ act_done (record s { event = refusing line r why })
    after_is =
        ap (λ (x : Wish). told_after x (record s { event = refusing line r why }) r.unit (moment.End (answer_told kind [])))
        (ap (λ (b : Bool). wanted s.adapters (refusing line r why) b) (stands.quiet r.unit))

    rests : Rests line false Done (after w (Refuse line r kind)) (act_done (record s { event = refusing line r why }))
    rests = record {
      sound = sound;
      shows = record {
        units = λ x unit. stands.shows.units x (record { unit = unit.unit; declared = unit.declared });
        adapters = stands.shows.adapters;
        ready = stands.shows.ready;
        noise = stands.shows.noise;
        frames = stands.shows.frames;
        outstanding = stands.shows.outstanding;
      };
      event = record { line_is = refl; drains_is = refl; act_is = refl; work = tt };
      quiet = stands.quiet;
    }

pub refused_played : (line : ℕ) (r : Request) (kind : AnswerKind) (held : ℕ → Pack) (w : World) (s : Replay) → Stands held w s
    → Allowed w (Refuse line r kind)
    → IsTold line false held w (after_moment s (Played line (script.Submit r))) (followed (Refuse line r kind ∷ []) (adapter_start line (adapter_of r.unit)) w)
refused_played line r kind held w s stands allowed =
    let one : Shows r.unit w s =
    shows_one r.unit w s allowed.0.unit stands.shows (calm w s r.unit stands.work allowed.0 (stands.shows.units r.unit allowed.0)).coming in
    let is : IsRefused r.unit line r kind w s = refusals_show r.unit line r kind w s one allowed in
    let at : after_moment s (Played line (script.Submit r)) ≡ record s { event = refusing line r is.why } =
    ap (λ (met : Submission). record (submitted s r met) { event = record { line = line; drains = false; between = false; act = act_submitted r met; speaker = r.unit } }) is.met in
    let none : adapter_start line (adapter_of r.unit) (after w (Refuse line r kind)) ≡ [] =
    start_none line (adapter_of r.unit) (after w (Refuse line r kind)) (record { units = stands.work.units; adapters = stands.work.adapters })
    (eighth r.unit allowed.0.unit) in
    subst (λ (acts : List MachineAct). IsTold line false held w (after_moment s (Played line (script.Submit r))) (Refuse line r kind ∷ acts)) (sym none)
    (subst (λ (x : Replay). IsTold line false held w x (Refuse line r kind ∷ [])) (sym at)
    (refused_told line r kind is.why held w s stands (sound_after w (Refuse line r kind) stands.sound allowed) is.answer))

-- A REQUEST JOINS.
joins : (r : Request) (w : World) (s : Replay) → ShowsAll w s → IsSetUp w r.unit → refusal_of r w ≡ None → submission s r ≡ Joined
joins r w s shows unit none = search rules

abbrev joining : ℕ → Request → Event
joining line r = record { line = line; drains = false; between = false; act = Serving (adapter_of r.unit) false []; speaker = r.unit }

pub record MayJoin (p : ℕ) (h : Held) (r : Request) (w : World) (s : Replay) : Type 0 where
  pub allowed : Allowed w (Submit 0 p h)
  pub for : IsHeldFor (unit_at w h.unit).drive.kind r h
  pub met : refusal_of r w ≡ None
  pub order : IsService (cylinder_of (s.units h.unit).drive.kind) (s.units h.unit).service

joined_speaks : (line p : ℕ) (h : Held) (r : Request) (held : ℕ → Pack) (w : World) (s : Replay) → Stands held w s → MayJoin p h r w s
    → Speaks line false (Serving (adapter_of h.unit) false []) (unit_at (after w (Submit line p h)))
    (adapter_at (after w (Submit line p h)) (adapter_of h.unit)).state.attentions h.unit (after w (Submit line p h))
    (record (replay_played s (script.Submit r)) { event = joining line r })
joined_speaks line p h r held w s stands may =
    let one : Shows h.unit w s =
    shows_one h.unit w s may.allowed.unit.unit stands.shows
    (calm w s h.unit stands.work may.allowed.unit (stands.shows.units h.unit may.allowed.unit)).coming in
    let shows : Shows h.unit (after w (Submit line p h)) (replay_played s (script.Submit r)) =
    joins_show line p h r w s stands.sound one may.allowed may.for may.met may.order in
    let met : submission s r ≡ Joined =
    joins r w s stands.shows (subst (λ (u : ℕ). IsSetUp w u) may.for.unit may.allowed.unit) may.met in
    record {
      sound = sound_after w (Submit line p h) stands.sound may.allowed;
      unit = record {
        unit = may.allowed.unit.unit;
        declared = ap (λ (v : UnitView). v.declared) (get_or-set_same w.units h.unit (joined p h (unit_at w h.unit)) no_unit
            (subst (λ (k : ℕ). h.unit < k) (sym stands.sound.units) may.allowed.unit.unit)) ∙ may.allowed.unit.declared;
      };
      shows = record {
        units = shows.units;
        adapters = shows.adapters;
        own_ready = shows.own_ready;
        other_ready = shows.other_ready;
        noise = shows.noise;
        frames = shows.frames;
        outstanding = shows.outstanding;
      };
      event = record { line_is = refl; drains_is = refl; act_is = ap (λ (u : ℕ). Serving (adapter_of u) false []) (sym may.for.unit); work = tt };
      speaker = sym may.for.unit;
      quiet = λ x. λ other. quiet_joined x other met;
      others_are = λ x. λ other. refl;
      raised_is = refl;
    }
  where
    quiet_joined : (x : ℕ) → x ≢ h.unit → submission s r ≡ Joined → goes_on ((replay_played s (script.Submit r)).units x).stage ≡ false
    quiet_joined x other met =
        ap (λ (m : Submission). goes_on ((submitted s r m).units x).stage) met
        ∙ quiet_after s r.unit (unit_joined (s.units r.unit) r) x (λ same. other (same ∙ sym may.for.unit)) (stands.quiet x)

pub joined_played : (line p : ℕ) (h : Held) (r : Request) (held : ℕ → Pack) (w : World) (s : Replay) → Stands held w s → MayJoin p h r w s
    → Run w (joined_acts line p h w) → IsTold line false held w (after_moment s (Played line (script.Submit r))) (joined_acts line p h w)
joined_played line p h r held w s stands may run =
    let met : submission s r ≡ Joined =
    joins r w s stands.shows (subst (λ (u : ℕ). IsSetUp w u) may.for.unit may.allowed.unit) may.met in
    let at : after_moment s (Played line (script.Submit r)) ≡ record (replay_played s (script.Submit r)) { event = joining line r } =
    ap (λ (m : Submission). record (replay_played s (script.Submit r)) { event = record { line = line; drains = false; between = false; act = act_submitted r m; speaker = r.unit } }) met in
    subst (λ (x : Replay). IsTold line false held w x (joined_acts line p h w)) (sym at) (of_told (later run.1))
  where
    x : World
    x = after w (Submit line p h)

    asks : Replay
    asks = record (replay_played s (script.Submit r)) { event = joining line r }

    later : Run (after w (Submit line p h)) (and_then (due_acts line h.unit) (adapter_start line (adapter_of h.unit)) (after w (Submit line p h)))
        → Tells (IsOverWithin line false) (after w (Submit line p h)) (record (replay_played s (script.Submit r)) { event = joining line r })
        (and_then (due_acts line h.unit) (adapter_start line (adapter_of h.unit)) (after w (Submit line p h)))
    later run =
        let both : Run x (due_acts line h.unit x) × Run (after_all x (due_acts line h.unit x)) _ = run_split x (due_acts line h.unit x) _ run in
        then_tells (Rested line false (Serving (adapter_of h.unit) false []) (unit_at x) (adapter_at x (adapter_of h.unit)).state.attentions h.unit)
        (IsOverWithin line false) x asks (due_acts line h.unit x) (adapter_start line (adapter_of h.unit))
        (due_told line h.unit false (Serving (adapter_of h.unit) false []) x asks (unit_at x) (adapter_at x (adapter_of h.unit)).state.attentions
        (joined_speaks line p h r held w s stands may) both.0)
        (λ at. start_told line (adapter_of h.unit) false _ _ (eighth h.unit may.allowed.unit.unit) at.rests both.1)

    of_told : Tells (IsOverWithin line false) (after w (Submit line p h)) (record (replay_played s (script.Submit r)) { event = joining line r })
        (and_then (due_acts line h.unit) (adapter_start line (adapter_of h.unit)) (after w (Submit line p h)))
        → IsTold line false held w (record (replay_played s (script.Submit r)) { event = joining line r }) (joined_acts line p h w)
    of_told tells =
        let told : IsTold line false held x asks (and_then (due_acts line h.unit) (adapter_start line (adapter_of h.unit)) x) =
        is_told_plain line held x asks (and_then (due_acts line h.unit) (adapter_start line (adapter_of h.unit)) x) packs tells in
        record { follows = told.follows; ends = told.ends; there = told.there }
      where
        packs : IsSurfaceOf held (record (replay_played s (script.Submit r)) { event = joining line r })
        packs = by_met (submission s r)
          where
            by_met : (m : Submission) → IsSurfaceOf held (record (submitted s r m) { event = joining line r })
            by_met (Refused why) = record { sectors = stands.packs.sectors; marks = stands.packs.marks }
            by_met Joined = record { sectors = stands.packs.sectors; marks = stands.packs.marks }
