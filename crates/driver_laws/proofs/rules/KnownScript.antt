-- What is known stays known behind a line of the script, and so behind all moments.
use Rattle.std.proofs.Common.{◌≡◌, ℕ, ◌==◌, Bool, true, false, List, [], ◌∷◌, ◌++◌, Option, refl, sym, ap, ◌∙◌, subst, nat_lt, rules}
use Rattle.std.specs.Prelude.{if◌then◌else◌}
use Rattle.std.proofs.lemmas.List.{append_assoc, append-nil}
use Rattle.std.proofs.lemmas.List.Elements.{All-cons}
use Rattle.std.proofs.lemmas.Bool.{false≢true, eqb-false, eqb-true}
use Rattle.pack_geometry.specs.declared.DriveKind.{DriveKind}
use Rattle.hardware_table.specs.declared.FaultKind.{FaultKind}
use Rattle.hardware_table.specs.Drive.{DriveState}
use Rattle.hardware_table.specs.Events.{times_armed, fault_armed, online_set, locked_set, turned}
use Rattle.hardware_table.specs.Noise.{LiveNoise, with_noise}
use Rattle.hardware_table.proofs.NoiseLaws.{among_armed}
use Rattle.trace_replay.specs.requests.ServiceOrder.{Waiting as Waiter}
use Rattle.trace_replay.proofs.requests.ServiceOrderRuns.{newcomer, after_join-waiting, each-put}
use Rattle.trace_replay.specs.requests.Requests.{Request, Rejection, rejection_answer}
use Rattle.trace_replay.specs.Script.{Input, Submit, ArriveAt, MoveAt, AttendTo, Drain, Turn, Noise, Arm, SetOnline, SetLocked}
use Rattle.trace_replay.specs.Moments.{Deed, End, Moment, Played, Told, Idle}
use Rattle.trace_replay.specs.Drives.{drive_played}
use Rattle.trace_replay.specs.Packs.{Surface, surface_of, surface_played}
use Rattle.trace_replay.specs.Events.{Wish, Refusal}
use Rattle.trace_replay.specs.Causes.{AskSome}
use Rattle.trace_replay.proofs.Unchanged.{drained_keeps}
use Rattle.trace_replay.proofs.Following.{follow_on}
use Rattle.trace_replay.proofs.AsSaid.{is_as_said}
use Rattle.trace_replay.proofs.Histories.{Fits}
use Rattle.pack_geometry.specs.Pack as model
use Rattle.pack_geometry.specs.TableSpelling.{Table}
use Rattle.trace_replay.specs.Service.{first_waiting, in_hand, request_or_none, cylinder_of}
use Rattle.trace_replay.specs.Conversation.{Hand, Stage, Waiting, is_waiting}
use Rattle.trace_replay.specs.Conditions.{online_behind}
use Rattle.trace_replay.specs.History.{with_deed, lines_after, lines_of, last_tried}
use Rattle.trace_replay.specs.Replay.{Replay, UnitSeen, hand_of, with_state, LineMay, ToldMay, MayCome, Follows, unit_after, unit_joined, conditions_after, Submission, Refused, Joined, submission, submitted, replay_played, drained, replay_told, told_after, after_moment, after_moments, new_replay, next_wish}
use Rattle.trace_replay.proofs.Kept.{UnitFits, AllFit, head_stays, refused_is, moments_all, starts}
use Rattle.driver_laws.specs.rules.Grounds.{WasPlayed, Submits, ArmsFault, WasOffline}
use Rattle.driver_laws.proofs.rules.Known.{more, newest, offline_more, lines_on, ArmsLike, AnyFails, IsAsked, AreAsked, OffAt, ArmedAt, LiveKnown, Known, asked_more, ground_more, live_more, known_more, all_alike, tried_tag}
use Rattle.driver_laws.proofs.rules.KnownLines.{line_known}
use Rattle.driver_laws.proofs.answers.Drives.{online_armed}

-- ---- a line that says something of drives
same_of_either : (b : Bool) (j : FaultKind) (x d : DriveState) → x.armed ≡ d.armed → nat_lt 0 (times_armed j (if b then x else d).armed) ≡ true → nat_lt 0 (times_armed j d.armed) ≡ true
same_of_either true j x d is e = subst (λ z. nat_lt 0 (times_armed j z) ≡ true) is e
same_of_either false j x d is e = e

arm_known : (b : Bool) (x u : ℕ) (k j : FaultKind) (n line : ℕ) (d : DriveState) (ms : List Moment) → (x == u) ≡ b
    → ((kind : FaultKind) → nat_lt 0 (times_armed kind d.armed) ≡ true → WasPlayed (ArmsFault x) ms)
    → nat_lt 0 (times_armed j (if b then fault_armed k n d else d).armed) ≡ true → WasPlayed (ArmsFault x) (ms ++ Played line (Arm u k n) ∷ [])
arm_known true x u k j n line d ms is old e = newest (ArmsFault x) ms line (Arm u k n) (sym (eqb-true x u is))
arm_known false x u k j n line d ms is old e = more (ArmsFault x) ms (Played line (Arm u k n)) (old j e)

said_armed : (x line : ℕ) (d : DriveState) (input : Input) (ms : List Moment) → ((kind : FaultKind) → nat_lt 0 (times_armed kind d.armed) ≡ true → WasPlayed (ArmsFault x) ms)
    → (kind : FaultKind) → nat_lt 0 (times_armed kind (drive_played x d input).armed) ≡ true → WasPlayed (ArmsFault x) (ms ++ Played line input ∷ [])
said_armed x line d (Turn u y) ms old kind e = more (ArmsFault x) ms (Played line (Turn u y)) (old kind (same_of_either (x == u) kind (turned y d) d refl e))
said_armed x line d (Arm u k n) ms old kind e = arm_known (x == u) x u k kind n line d ms refl old e
said_armed x line d (SetOnline u on) ms old kind e = more (ArmsFault x) ms (Played line (SetOnline u on)) (old kind (same_of_either (x == u) kind (online_set on d) d (online_armed on d) e))
said_armed x line d (SetLocked u on) ms old kind e = more (ArmsFault x) ms (Played line (SetLocked u on)) (old kind (same_of_either (x == u) kind (locked_set on d) d refl e))
said_armed x line d other ms old kind e = more (ArmsFault x) ms (Played line other) (old kind e)

noise_known : (live : List LiveNoise) (n : LiveNoise) (ms : List Moment) (line : ℕ) → LiveKnown live ms → LiveKnown (with_noise n live) (ms ++ Played line (Noise n) ∷ [])
noise_known live n ms line all =
    all_alike (n ∷ live) (with_noise n live) (ms ++ Played line (Noise n) ∷ [])
    (All-cons (λ (z : LiveNoise). WasPlayed (ArmsLike z) (ms ++ Played line (Noise n) ∷ [])) n live (newest (ArmsLike n) ms line (Noise n) (refl, refl, refl)) (live_more live ms (Played line (Noise n)) all))
    (among_armed live n)

said_live : (s : Surface) (input : Input) (ms : List Moment) (line : ℕ) → LiveKnown s.live ms → LiveKnown (surface_played s input).live (ms ++ Played line input ∷ [])
said_live s (Noise n) ms line all = noise_known s.live n ms line all
said_live s other ms line all = live_more s.live ms (Played line other) all

conditions_known : (s : Replay) (input : Input) (line : ℕ) (ms : List Moment) (lines : ℕ → List Deed) → Known s.units s.surface.live ms lines
    → Known (conditions_after s input).units (conditions_after s input).surface.live (ms ++ Played line input ∷ []) lines
conditions_known s input line ms lines k = record {
  asked = λ x. asked_more x ms (Played line input) (s.units x).service.waiting (k.asked x);
  offline = λ x block e. offline_more (in_hand (s.units x).service) ms (Played line input) (k.offline x block e);
  armed = λ x. said_armed x line (s.units x).drive input ms (k.armed x);
  noise = said_live s.surface input ms line k.noise;
  failed = λ x any. ground_more x ms (Played line input) (k.failed x any);
}

-- ---- a request joins
waiting_none : (stage : Stage) (h : Hand) (lines : List Deed) → is_waiting stage ≡ true → Fits h stage lines → lines ≡ []
waiting_none Waiting h lines is f = f
waiting_none other h lines is f = absurd (false≢true is)

joined_off : (u : UnitSeen) (r : Request) (lines : List Deed) (ms : List Moment) (m : Moment) → UnitFits u lines → OffAt u lines ms → OffAt (unit_joined u r) lines (ms ++ m ∷ [])
joined_off u r lines ms m fit off block e = at (is_waiting u.stage) refl
  where
    at : (b : Bool) → is_waiting u.stage ≡ b → WasOffline (in_hand (unit_joined u r).service) (ms ++ m ∷ [])
    at true is = absurd (eqb-false 0 1 refl (ap tried_tag (sym (ap last_tried (waiting_none u.stage (hand_of u) lines is fit.fits)) ∙ e)))
    at false is =
        subst (λ z. WasOffline (request_or_none z) (ms ++ m ∷ []))
        (sym (ap first_waiting (after_join-waiting (cylinder_of u.drive.kind) r u.service fit.order)
        ∙ head_stays (cylinder_of u.drive.kind) r u.service.joined u.service.waiting fit.order (fit.held is)))
        (offline_more (in_hand u.service) ms m (off block e))

joined_asked : (u : UnitSeen) (r : Request) (lines : List Deed) (ms : List Moment) (line : ℕ) → UnitFits u lines → AreAsked r.unit ms u.service.waiting
    → AreAsked r.unit (ms ++ Played line (Submit r) ∷ []) (unit_joined u r).service.waiting
joined_asked u r lines ms line fit all =
    subst (AreAsked r.unit (ms ++ Played line (Submit r) ∷ [])) (sym (after_join-waiting (cylinder_of u.drive.kind) r u.service fit.order))
    (each-put (λ (w : Waiter Request). IsAsked r.unit (ms ++ Played line (Submit r) ∷ []) w) (newcomer (cylinder_of u.drive.kind) r u.service.joined u.service.waiting) u.service.waiting
    (refl, newest (Submits r) ms line (Submit r) refl) (asked_more r.unit ms (Played line (Submit r)) u.service.waiting all))

unit_or : (P : ℕ → UnitSeen → Type 0) (units : ℕ → UnitSeen) (n : ℕ) (u : UnitSeen) (x : ℕ) → P n u → P x (units x) → P x (with_state units n u x)
unit_or P units n u x mine other = search rules

submitted_known : (s : Replay) (r : Request) (met : Submission) (line : ℕ) (ms : List Moment) (lines : ℕ → List Deed) → UnitFits (s.units r.unit) (lines r.unit)
    → Known s.units s.surface.live ms lines → Known (submitted s r met).units (submitted s r met).surface.live (ms ++ Played line (Submit r) ∷ []) lines
submitted_known s r (Refused why) line ms lines fit k = known_more s.units s.surface.live ms (Played line (Submit r)) lines k
submitted_known s r Joined line ms lines fit k = record {
  asked = λ x. unit_or (λ y u. AreAsked y (ms ++ Played line (Submit r) ∷ []) u.service.waiting) s.units r.unit (unit_joined (s.units r.unit) r) x
      (joined_asked (s.units r.unit) r (lines r.unit) ms line fit (k.asked r.unit)) (asked_more x ms (Played line (Submit r)) (s.units x).service.waiting (k.asked x));
  offline = λ x. unit_or (λ y u. OffAt u (lines y) (ms ++ Played line (Submit r) ∷ [])) s.units r.unit (unit_joined (s.units r.unit) r) x
      (joined_off (s.units r.unit) r (lines r.unit) ms (Played line (Submit r)) fit (k.offline r.unit))
      (λ block e. offline_more (in_hand (s.units x).service) ms (Played line (Submit r)) (k.offline x block e));
  armed = λ x. unit_or (λ y u. ArmedAt y u (ms ++ Played line (Submit r) ∷ [])) s.units r.unit (unit_joined (s.units r.unit) r) x
      (λ kind e. more (ArmsFault r.unit) ms (Played line (Submit r)) (k.armed r.unit kind e)) (λ kind e. more (ArmsFault x) ms (Played line (Submit r)) (k.armed x kind e));
  noise = live_more s.surface.live ms (Played line (Submit r)) k.noise;
  failed = λ x any. ground_more x ms (Played line (Submit r)) (k.failed x any);
}

pub script_known : (s : Replay) (input : Input) (line : ℕ) (ms : List Moment) (lines : ℕ → List Deed) → AllFit s lines → Known s.units s.surface.live ms lines
    → Known (replay_played s input).units (replay_played s input).surface.live (ms ++ Played line input ∷ []) lines
script_known s (Submit r) line ms lines fit k = submitted_known s r (submission s r) line ms lines (fit r.unit) k
script_known s (ArriveAt u) line ms lines fit k = known_more s.units s.surface.live ms (Played line (ArriveAt u)) lines k
script_known s (MoveAt a) line ms lines fit k = known_more s.units s.surface.live ms (Played line (MoveAt a)) lines k
script_known s (AttendTo a) line ms lines fit k = known_more s.units s.surface.live ms (Played line (AttendTo a)) lines k
script_known s Drain line ms lines fit k = known_more s.units s.surface.live ms (Played line Drain) lines k
script_known s other line ms lines fit k = conditions_known s other line ms lines k

-- ---- any line of the trace
abbrev pub KnownIn : Replay → List Moment → (ℕ → List Deed) → Type 0
KnownIn s ms lines = Known s.units s.surface.live ms lines

refused_known : (s : Replay) (line unit id : ℕ) (why : Rejection) (ms : List Moment) (lines : ℕ → List Deed) → KnownIn s ms lines
    → KnownIn s (ms ++ Told line unit id (End (rejection_answer why)) ∷ []) (λ x. lines_after x (Told line unit id (End (rejection_answer why))) (lines x))
refused_known s line unit id why ms lines k = record {
  asked = λ x. asked_more x ms (Told line unit id (End (rejection_answer why))) (s.units x).service.waiting (k.asked x);
  offline = λ x block e. offline_more (in_hand (s.units x).service) ms (Told line unit id (End (rejection_answer why))) (k.offline x block (sym (ap last_tried (kept x)) ∙ e));
  armed = λ x kind e. more (ArmsFault x) ms (Told line unit id (End (rejection_answer why))) (k.armed x kind e);
  noise = live_more s.surface.live ms (Told line unit id (End (rejection_answer why))) k.noise;
  failed = λ x any. ground_more x ms (Told line unit id (End (rejection_answer why))) (k.failed x (subst AnyFails (kept x) any));
}
  where
    either : (b : Bool) (l : List Deed) → (if b then with_deed (End (rejection_answer why)) l else l) ≡ l
    either true l = ap (λ z. if z then l else []) (refused_is why)
    either false l = refl

    kept : (x : ℕ) → lines_after x (Told line unit id (End (rejection_answer why))) (lines x) ≡ lines x
    kept x = either (x == unit) (lines x)

told_line : (s : Replay) (line unit id : ℕ) (deed : Deed) (ms : List Moment) (lines : ℕ → List Deed) → LineMay s line unit id deed → UnitFits (s.units unit) (lines unit)
    → (s.units unit).drive.online ≡ online_behind unit true ms → KnownIn s ms lines
    → KnownIn (drained (replay_told s unit deed (unit_after s unit deed))) (ms ++ Told line unit id deed ∷ []) (λ x. lines_after x (Told line unit id deed) (lines x))
told_line s line unit id deed ms lines may fit said k =
    drained_keeps (λ t. KnownIn t (ms ++ Told line unit id deed ∷ []) (λ x. lines_after x (Told line unit id deed) (lines x))) (replay_told s unit deed (unit_after s unit deed))
    (λ event. line_known s line unit id ms lines k fit said deed may)

pub told_known : (wish : Wish) (s : Replay) (line unit id : ℕ) (deed : Deed) (ms : List Moment) (lines : ℕ → List Deed) → ToldMay wish s line unit id deed
    → UnitFits (s.units unit) (lines unit) → (s.units unit).drive.online ≡ online_behind unit true ms → KnownIn s ms lines
    → KnownIn (told_after wish s unit deed) (ms ++ Told line unit id deed ∷ []) (λ x. lines_after x (Told line unit id deed) (lines x))
told_known (Refusal u i why) s line unit id deed ms lines may fit said k =
    subst (λ z. KnownIn s (ms ++ Told line unit id z ∷ []) (λ x. lines_after x (Told line unit id z) (lines x))) (sym may.answered) (refused_known s line unit id why ms lines k)
told_known other s line unit id deed ms lines may fit said k = told_line s line unit id deed ms lines may fit said k

pub moment_known : (s : Replay) (m : Moment) (ms : List Moment) (lines : ℕ → List Deed) → MayCome s m → AllFit s lines
    → ((x : ℕ) → (s.units x).drive.online ≡ online_behind x true ms) → KnownIn s ms lines → KnownIn (after_moment s m) (ms ++ m ∷ []) (λ x. lines_after x m (lines x))
moment_known s (Played line input) ms lines may fit said k = script_known s input line ms lines fit k
moment_known s (Told line unit id deed) ms lines may fit said k = told_known (next_wish s) s line unit id deed ms lines may (fit unit) (said unit) k
moment_known s (Idle line) ms lines may fit said k = known_more s.units s.surface.live ms (Idle line) lines k

-- ---- all moments, from the start
pub last_of : (s : Replay) (ms : List Moment) (m : Moment) → after_moments s (ms ++ m ∷ []) ≡ after_moment (after_moments s ms) m
last_of s [] m = refl
last_of s (n ∷ ms) m = last_of (after_moment s n) ms m

module _ (drives : ℕ → Option DriveKind) (tables : ℕ → Option Table) (packs : ℕ → model.Pack) where
  abbrev pub Start : Replay
  Start = new_replay drives tables (surface_of packs)

  start_known : KnownIn Start [] (λ x. [])
  start_known = search rules

  abbrev pub KnownBehind : List Moment → Type 0
  KnownBehind ms = KnownIn (after_moments Start ms) ms (λ x. lines_of x ms)

  next_known : (ms : List Moment) (m : Moment) → AskSome ms → Follows Start ms → MayCome (after_moments Start ms) m → KnownBehind ms → KnownBehind (ms ++ m ∷ [])
  next_known ms m some follows may k =
      subst (λ t. KnownIn t (ms ++ m ∷ []) (λ x. lines_of x (ms ++ m ∷ []))) (sym (last_of Start ms m))
      (subst (λ f. KnownIn (after_moment (after_moments Start ms) m) (ms ++ m ∷ []) f) (fun_ext (λ x. lines_after x m (lines_of x ms)) (λ x. lines_of x (ms ++ m ∷ [])) (λ x. sym (lines_on x [] ms m)))
      (moment_known (after_moments Start ms) m ms (λ x. lines_of x ms) may (moments_all Start ms (λ x. []) some follows (starts drives tables (surface_of packs)))
      (λ x. (is_as_said drives tables (surface_of packs) ms x).0) k))
    where
      fun_ext : (f g : ℕ → List Deed) → ((x : ℕ) → f x ≡ g x) → f ≡ g
      fun_ext f g h = λ i. λ x. h x i

  asks_front : (ms ns : List Moment) → AskSome (ms ++ ns) → AskSome ms
  asks_front [] ns some = tt
  asks_front (Played line input ∷ ms) ns some = (some.0, asks_front ms ns some.1)
  asks_front (Told line unit id deed ∷ ms) ns some = asks_front ms ns some
  asks_front (Idle line ∷ ms) ns some = asks_front ms ns some

  known_on : (ms ns : List Moment) → AskSome (ms ++ ns) → Follows Start (ms ++ ns) → KnownBehind ms → KnownBehind (ms ++ ns)
  known_on ms [] some follows k = subst KnownBehind (sym (append-nil ms)) k
  known_on ms (n ∷ ns) some follows k =
      subst KnownBehind (append_assoc ms (n ∷ []) ns)
      (known_on (ms ++ n ∷ []) ns (subst AskSome (sym (append_assoc ms (n ∷ []) ns)) some) (subst (Follows Start) (sym (append_assoc ms (n ∷ []) ns)) follows)
      (next_known ms n (asks_front ms (n ∷ ns) some) parts.0 parts.1.0 k))
    where
      parts : Follows Start ms × Follows (after_moments Start ms) (n ∷ ns)
      parts = (follow_on Start ms (n ∷ ns)).0 follows

  pub always_known : (ms : List Moment) → AskSome ms → Follows Start ms → KnownBehind ms
  always_known ms some follows = known_on [] ms some follows start_known
