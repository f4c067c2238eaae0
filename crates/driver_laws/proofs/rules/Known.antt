-- What the moments so far tell of each unit: who asked for its requests, whether it was offline, and what was armed.
use Rattle.std.proofs.Common.{◌≡◌, ◌⊎◌, inl, inr, ℕ, Bool, true, false, List, [], ◌∷◌, ◌++◌, refl, sym, ◌∙◌, subst, nat_lt, All, rules}
use Rattle.std.specs.Prelude.{drop}
use Rattle.std.specs.List.{AllByRecursion}
use Rattle.std.proofs.lemmas.List.{append_assoc}
use Rattle.std.proofs.lemmas.List.Elements.{All-weaker, All-contains}
use Rattle.hardware_table.specs.declared.FaultKind.{FaultKind}
use Rattle.hardware_table.specs.declared.Moved.{Moved}
use Rattle.hardware_table.specs.declared.Moved.TheVariants as verdict
use Rattle.hardware_table.specs.Drive.{DriveState}
use Rattle.hardware_table.specs.Events.{times_armed}
use Rattle.hardware_table.specs.Moves.{was_read, was_written}
use Rattle.hardware_table.specs.Noise.{LiveNoise, after_strike, IsAmong}
use Rattle.hardware_table.proofs.NoiseLaws.{among_struck}
use Rattle.trace_replay.specs.requests.ServiceOrder.{Waiting as Waiter, Service}
use Rattle.trace_replay.specs.requests.Requests.{Request}
use Rattle.trace_replay.specs.Script.{Input, Submit, ArriveAt, MoveAt, AttendTo, Drain, Turn, Noise, Arm, SetOnline, SetLocked}
use Rattle.trace_replay.specs.Moments.{Deed, Sector, End, Moment, Played, Told, Idle}
use Rattle.trace_replay.specs.Packs.{Surface, surface_written, surface_read}
use Rattle.trace_replay.specs.Service.{first_waiting, in_hand, request_or_none, service_after}
use Rattle.trace_replay.specs.History.{lines_after, lines_behind, Tried, Untried, TriedAt, last_tried, fails}
use Rattle.trace_replay.specs.Replay.{Replay, UnitSeen, surface_after}
use Rattle.trace_replay.proofs.Kept.{IsHeld}
use Rattle.driver_laws.specs.rules.Grounds.{WasPlayed, Submits, ArmsFault, ArmsShownNoise, WasOffline}

-- ---- more moments
pub more : (P : Input → Type 0) (ms : List Moment) (m : Moment) → WasPlayed P ms → WasPlayed P (ms ++ m ∷ [])
more P [] m was = absurd was
more P (Played line input ∷ ms) m (inl is) = inl is
more P (Played line input ∷ ms) m (inr was) = inr (more P ms m was)
more P (Told line unit id deed ∷ ms) m was = more P ms m was
more P (Idle line ∷ ms) m was = more P ms m was

pub newest : (P : Input → Type 0) (ms : List Moment) (line : ℕ) (input : Input) → P input → WasPlayed P (ms ++ Played line input ∷ [])
newest P [] line input is = inl is
newest P (Played l i ∷ ms) line input is = inr (newest P ms line input is)
newest P (Told l unit id deed ∷ ms) line input is = newest P ms line input is
newest P (Idle l ∷ ms) line input is = newest P ms line input is

pub weaker : (P Q : Input → Type 0) (ms : List Moment) → ((input : Input) → P input → Q input) → WasPlayed P ms → WasPlayed Q ms
weaker P Q [] f was = absurd was
weaker P Q (Played line input ∷ ms) f (inl is) = inl (f input is)
weaker P Q (Played line input ∷ ms) f (inr was) = inr (weaker P Q ms f was)
weaker P Q (Told line unit id deed ∷ ms) f was = weaker P Q ms f was
weaker P Q (Idle line ∷ ms) f was = weaker P Q ms f was

pub offline_more : (r : Request) (ms : List Moment) (m : Moment) → WasOffline r ms → WasOffline r (ms ++ m ∷ [])
offline_more r ms m w = search (rules, append_assoc)

-- the lines of a unit, one moment further
pub lines_on : (x : ℕ) (lines : List Deed) (ms : List Moment) (m : Moment) → lines_behind x lines (ms ++ m ∷ []) ≡ lines_after x m (lines_behind x lines ms)
lines_on x lines [] m = refl
lines_on x lines (n ∷ ms) m = lines_on x (lines_after x n lines) ms m

-- ---- WHAT IS KNOWN
abbrev pub ArmsLike : LiveNoise → Input → Type 0
ArmsLike n (Noise q) = (q.unit ≡ n.unit) × (q.block ≡ n.block) × (q.places ≡ n.places)
ArmsLike n input = ⊥

abbrev pub AnyFails : List Deed → Type 0
AnyFails [] = ⊥
AnyFails (Sector b v ∷ lines) = (fails v ≡ true) ⊎ AnyFails lines
AnyFails (deed ∷ lines) = AnyFails lines

abbrev pub Ground : ℕ → List Moment → Type 0
Ground x ms = WasPlayed (ArmsFault x) ms ⊎ WasPlayed (ArmsShownNoise x) ms

abbrev pub IsAsked : ℕ → List Moment → Waiter Request → Type 0
IsAsked x ms w = (w.request.unit ≡ x) × WasPlayed (Submits w.request) ms

abbrev pub AreAsked : ℕ → List Moment → List (Waiter Request) → Type 0
AreAsked x ms ws = AllByRecursion (λ (w : Waiter Request). IsAsked x ms w) ws

abbrev pub OffAt : UnitSeen → List Deed → List Moment → Type 0
OffAt u lines ms = (block : ℕ) → last_tried lines ≡ TriedAt block verdict.Offline → WasOffline (in_hand u.service) ms

abbrev pub ArmedAt : ℕ → UnitSeen → List Moment → Type 0
ArmedAt x u ms = (kind : FaultKind) → nat_lt 0 (times_armed kind u.drive.armed) ≡ true → WasPlayed (ArmsFault x) ms

abbrev pub FailedAt : ℕ → List Deed → List Moment → Type 0
FailedAt x lines ms = AnyFails lines → Ground x ms

abbrev pub LiveKnown : List LiveNoise → List Moment → Type 0
LiveKnown live ms = All (λ (n : LiveNoise). WasPlayed (ArmsLike n) ms) live

pub record Known (units : ℕ → UnitSeen) (live : List LiveNoise) (ms : List Moment) (lines : ℕ → List Deed) : Type 0 where
  pub asked : (x : ℕ) → AreAsked x ms (units x).service.waiting
  pub offline : (x : ℕ) → OffAt (units x) (lines x) ms
  pub armed : (x : ℕ) → ArmedAt x (units x) ms
  pub noise : LiveKnown live ms
  pub failed : (x : ℕ) → FailedAt x (lines x) ms

pub asked_more : (x : ℕ) (ms : List Moment) (m : Moment) (ws : List (Waiter Request)) → AreAsked x ms ws → AreAsked x (ms ++ m ∷ []) ws
asked_more x ms m [] all = tt
asked_more x ms m (w ∷ ws) all = ((all.0.0, more (Submits w.request) ms m all.0.1), asked_more x ms m ws all.1)

pub ground_more : (x : ℕ) (ms : List Moment) (m : Moment) → Ground x ms → Ground x (ms ++ m ∷ [])
ground_more x ms m (inl was) = inl (more (ArmsFault x) ms m was)
ground_more x ms m (inr was) = inr (more (ArmsShownNoise x) ms m was)

pub live_more : (live : List LiveNoise) (ms : List Moment) (m : Moment) → LiveKnown live ms → LiveKnown live (ms ++ m ∷ [])
live_more live ms m all = All-weaker (λ (n : LiveNoise). WasPlayed (ArmsLike n) ms) (λ (n : LiveNoise). WasPlayed (ArmsLike n) (ms ++ m ∷ [])) (λ n was. more (ArmsLike n) ms m was) live all

pub known_more : (units : ℕ → UnitSeen) (live : List LiveNoise) (ms : List Moment) (m : Moment) (lines : ℕ → List Deed) → Known units live ms lines → Known units live (ms ++ m ∷ []) lines
known_more units live ms m lines k = record {
  asked = λ x. asked_more x ms m (units x).service.waiting (k.asked x);
  offline = λ x block e. offline_more (in_hand (units x).service) ms m (k.offline x block e);
  armed = λ x kind e. more (ArmsFault x) ms m (k.armed x kind e);
  noise = live_more live ms m k.noise;
  failed = λ x any. ground_more x ms m (k.failed x any);
}

-- ---- noise
alike : (live : List LiveNoise) (ms : List Moment) (n : LiveNoise) → LiveKnown live ms → IsAmong live n → WasPlayed (ArmsLike n) ms
alike live ms n all a =
    weaker (ArmsLike a.kin) (ArmsLike n) ms fit (All-contains (λ (z : LiveNoise). WasPlayed (ArmsLike z) ms) live a.kin all a.listed)
  where
    fit : (input : Input) → ArmsLike a.kin input → ArmsLike n input
    fit (Noise q) like = (like.0 ∙ sym a.unit, like.1 ∙ sym a.block, like.2 ∙ sym a.places)
    fit (Submit r) like = like
    fit (ArriveAt u) like = like
    fit (MoveAt b) like = like
    fit (AttendTo b) like = like
    fit Drain like = like
    fit (Turn u y) like = like
    fit (Arm u kind n) like = like
    fit (SetOnline u on) like = like
    fit (SetLocked u on) like = like

pub all_alike : (live new : List LiveNoise) (ms : List Moment) → LiveKnown live ms → All (IsAmong live) new → LiveKnown new ms
all_alike live new ms all are = All-weaker (IsAmong live) (λ (n : LiveNoise). WasPlayed (ArmsLike n) ms) (λ n a. alike live ms n all a) new are

pub written_live : (b : Bool) (s : Surface) (unit block : ℕ) (r : Request) (k : ℕ) → (surface_written b s unit block r k).live ≡ s.live
written_live true s unit block r k = refl
written_live false s unit block r k = refl

read_live : (b : Bool) (s : Surface) (unit : ℕ) (d : DriveState) (block : ℕ) (ms : List Moment) → LiveKnown s.live ms → LiveKnown (surface_read b s unit d block).live ms
read_live true s unit d block ms all = all_alike s.live (after_strike unit block d.offset s.live) ms all (among_struck s.live unit block d.offset)
read_live false s unit d block ms all = all

pub line_live : (s : Replay) (unit : ℕ) (deed : Deed) (ms : List Moment) → LiveKnown s.surface.live ms → LiveKnown (surface_after s unit deed).live ms
line_live s unit (Sector b v) ms all =
    subst (λ z. LiveKnown z ms) (sym (written_live (was_written (s.units unit).drive v) (surface_read (was_read (s.units unit).drive v) s.surface unit (s.units unit).drive b) unit b (in_hand (s.units unit).service) (s.units unit).progress.done))
    (read_live (was_read (s.units unit).drive v) s.surface unit (s.units unit).drive b ms all)
line_live s unit other ms all = all

-- ---- the request in hand
pub head_asked : (x : ℕ) (ms : List Moment) (ws : List (Waiter Request)) → IsHeld ws → AreAsked x ms ws
    → ((request_or_none (first_waiting ws)).unit ≡ x) × WasPlayed (Submits (request_or_none (first_waiting ws))) ms
head_asked x ms [] held all = absurd held
head_asked x ms (w ∷ ws) held all = all.0

rest_asked : (x : ℕ) (ms : List Moment) (ws : List (Waiter Request)) → AreAsked x ms ws → AreAsked x ms (drop 1 ws)
rest_asked x ms [] all = tt
rest_asked x ms (w ∷ ws) all = all.1

pub line_asked : (x : ℕ) (ms : List Moment) (service : Service Request) (deed : Deed) → AreAsked x ms service.waiting → AreAsked x ms (service_after service deed).waiting
line_asked x ms service (End a) all = rest_asked x ms service.waiting all
line_asked x ms service other all = all

-- ---- the last sector
abbrev pub tried_tag : Tried → ℕ
tried_tag Untried = 0
tried_tag (TriedAt b v) = 1

abbrev pub verdict_of : Tried → Moved
verdict_of Untried = verdict.Clean
verdict_of (TriedAt b v) = v
