-- What is known of each cause of a legal run's answers.
use Rattle.std.proofs.Common.{◌≡◌, ◌⊎◌, inl, inr, ℕ, ◌≤◌, ◌+◌, Bool, true, false, List, [], ◌∷◌, ◌++◌, Option, None, Some, zero, suc, refl, sym, ap, ◌∙◌, subst, arith}
use Rattle.std.proofs.lemmas.List.{append-nil}
use Rattle.std.proofs.lemmas.Bool.{false≢true, true≢false}
use Rattle.pack_geometry.specs.declared.DriveKind.{DriveKind}
use Rattle.pack_geometry.specs.Pack as model
use Rattle.pack_geometry.specs.TableSpelling.{Table}
use Rattle.pack_geometry.specs.Homes.{home_of}
use Rattle.trace_replay.specs.requests.Requests.{Failed, Cause, Offline, Locked, Unforwarded, Fault, first_block, Request}
use Rattle.trace_replay.specs.Script.{Script, drives_of}
use Rattle.trace_replay.specs.Moments.{Deed, Search, Seek, Recal, Offset, Centre, Clear, Pack, Transfer, Arrive, Sector, Intr, Try, Attn, End, Moment, Told}
use Rattle.trace_replay.specs.Packs.{surface_of}
use Rattle.trace_replay.specs.Service.{ServiceMay, head_of, in_hand}
use Rattle.trace_replay.specs.Conditions.{online_behind, locked_behind}
use Rattle.trace_replay.specs.Events.{Wish, Refusal}
use Rattle.trace_replay.specs.History.{is_refusal, lines_of, AreFailures}
use Rattle.trace_replay.specs.Causes.{AskSome, IsExplained, IsCutOff, WasTriedOffline, IsLockedOut, AreAllTries}
use Rattle.trace_replay.specs.Replay.{Replay, after_moments, next_wish, Follows, MayCome, ToldMay}
use Rattle.trace_replay.specs.Runs.{start_of, IsLegalRun}
use Rattle.trace_replay.proofs.Following.{follow_on}
use Rattle.trace_replay.proofs.AsSaid.{is_as_said}
use Rattle.trace_replay.proofs.Kept.{held_by, refused_is}
use Rattle.trace_replay.proofs.RunExplained.{run_explained}
use Rattle.trace_replay.proofs.Unusable.{are_unusable}
use Rattle.driver_laws.specs.rules.Grounds.{WasPlayed, Submits, IsAskedAt, WasOffline, ArmsFault, ArmsShownNoise}
use Rattle.driver_laws.proofs.rules.Known.{AnyFails, head_asked}
use Rattle.driver_laws.proofs.rules.KnownScript.{KnownBehind, always_known}
use Rattle.trace_replay.proofs.Asking.{run_asks}
use Rattle.driver_laws.proofs.rules.Commands.{id_of}
use Rattle.std.specs.Prelude.{◌<◌, is_some}

-- an end that names a cause is no refusal's
is_refused : Deed → Bool
is_refused (End answer) = is_refusal answer
is_refused deed = false

named : (wish : Wish) (s : Replay) (line unit id done : ℕ) (cause : Cause) → ToldMay wish s line unit id (End (Failed cause done)) → ServiceMay (s.units unit).service id
unfolding is_refused
named (Refusal u i why) s line unit id done cause may = absurd (false≢true (ap is_refused may.answered ∙ refused_is why))
named other s line unit id done cause may = may.service

-- tries that failed met failures
any_failed : (owed : Bool) (n block : ℕ) (lines : List Deed) → (owed ≡ false → 1 ≤ n) → AreFailures owed n block lines → AnyFails lines
any_failed false zero block lines some f = absurd (omega (arith, some refl))
any_failed false (suc n) block [] some f = absurd f
any_failed false (suc n) block (Search c y ∷ lines) some f = any_failed false (suc n) block lines some f
any_failed false (suc n) block (Seek c ∷ lines) some f = any_failed false (suc n) block lines some f
any_failed false (suc n) block (Recal ∷ lines) some f = any_failed false (suc n) block lines some f
any_failed false (suc n) block (Offset o ∷ lines) some f = any_failed false (suc n) block lines some f
any_failed false (suc n) block (Centre ∷ lines) some f = any_failed false (suc n) block lines some f
any_failed false (suc n) block (Clear ∷ lines) some f = any_failed false (suc n) block lines some f
any_failed false (suc n) block (Pack ∷ lines) some f = any_failed false (suc n) block lines some f
any_failed false (suc n) block (Transfer w b k ∷ lines) some f = any_failed false (suc n) block lines some f
any_failed false (suc n) block (Arrive ∷ lines) some f = any_failed false (suc n) block lines some f
any_failed false (suc n) block (Sector b v ∷ lines) some f = absurd f
any_failed false (suc n) block (Intr ∷ lines) some f = any_failed false (suc n) block lines some f
any_failed false (suc n) block (Try b t ∷ lines) some f = any_failed true n block lines (λ e. absurd (true≢false e)) f.2
any_failed false (suc n) block (Attn ∷ lines) some f = any_failed false (suc n) block lines some f
any_failed false (suc n) block (End a ∷ lines) some f = any_failed false (suc n) block lines some f
any_failed true n block [] some f = absurd f
any_failed true n block (Search c y ∷ lines) some f = absurd f
any_failed true n block (Seek c ∷ lines) some f = absurd f
any_failed true n block (Recal ∷ lines) some f = absurd f
any_failed true n block (Offset o ∷ lines) some f = absurd f
any_failed true n block (Centre ∷ lines) some f = any_failed true n block lines some f
any_failed true n block (Clear ∷ lines) some f = any_failed true n block lines some f
any_failed true n block (Pack ∷ lines) some f = absurd f
any_failed true n block (Transfer w b k ∷ lines) some f = absurd f
any_failed true n block (Arrive ∷ lines) some f = absurd f
any_failed true n block (Sector b v ∷ lines) some f = inl f.1
any_failed true n block (Intr ∷ lines) some f = any_failed true n block lines some f
any_failed true n block (Try b t ∷ lines) some f = absurd f
any_failed true n block (Attn ∷ lines) some f = absurd f
any_failed true n block (End a ∷ lines) some f = absurd f

-- ---- a run that answers with a cause
module _ (script : Script) (tables : ℕ → Option Table) (old new : ℕ → model.Pack) (ms ns : List Moment) (line unit id done : ℕ) (cause : Cause)
    (run : IsLegalRun script tables old new (ms ++ Told line unit id (End (Failed cause done)) ∷ ns)) where
  abbrev Then : Replay
  Then = after_moments (start_of script tables old) ms

  asks : AskSome ms
  asks = run_asks script tables old new ms (Told line unit id (End (Failed cause done)) ∷ ns) run

  parts : Follows (start_of script tables old) ms × Follows Then (Told line unit id (End (Failed cause done)) ∷ ns)
  parts = (follow_on (start_of script tables old) ms (Told line unit id (End (Failed cause done)) ∷ ns)).0 run.trace.follows

  known : KnownBehind (drives_of script) tables old ms
  known = always_known (drives_of script) tables old ms asks parts.0

  explained : IsExplained (Then.units unit) (lines_of unit ms) (Failed cause done)
  explained = run_explained script tables old new ms ns line unit id (Failed cause done) run refl

  serves : ServiceMay (Then.units unit).service id
  serves = named (next_wish Then) Then line unit id done cause parts.1.0

  asked : ((in_hand (Then.units unit).service).unit ≡ unit) × WasPlayed (Submits (in_hand (Then.units unit).service)) ms
  asked = head_asked unit ms (Then.units unit).service.waiting (held_by (Then.units unit).service.waiting id serves) (known.asked unit)

  is_asked : IsAskedAt (in_hand (Then.units unit).service) unit id ms
  is_asked = record { unit_is = asked.0; id_is = id_of (head_of (Then.units unit).service) id serves; submitted = asked.1 }

  said : ((Then.units unit).drive.online ≡ online_behind unit true ms) × ((Then.units unit).drive.locked ≡ locked_behind unit false ms)
  said = is_as_said (drives_of script) tables (surface_of old) ms unit

  was_offline : IsCutOff (Then.units unit) ⊎ WasTriedOffline (lines_of unit ms) → WasOffline (in_hand (Then.units unit).service) ms
  was_offline (inl cut) = record {
    before = ms;
    after = [];
    parts = sym (append-nil ms);
    submitted = asked.1;
    offline = ap (λ z. online_behind z true ms) asked.0 ∙ sym said.0 ∙ cut.offline;
  }
  was_offline (inr tried) = known.offline unit tried.block tried.last

  was_locked : IsLockedOut (Then.units unit) → (online_behind unit true ms ≡ true) × (locked_behind unit false ms ≡ true)
  was_locked out = (sym said.0 ∙ out.online, sym said.1 ∙ out.locked)

  homeless : cause ≡ Unforwarded → (kind : DriveKind) → drives_of script unit ≡ Some kind
      → home_of kind (tables unit) (old unit) (first_block kind (in_hand (Then.units unit).service) + done) ≡ None
  homeless is kind there =
      are_unusable (drives_of script) tables old ms line unit id done asks
      ((follow_on (start_of script tables old) ms (Told line unit id (End (Failed Unforwarded done)) ∷ [])).1
      (parts.0, (subst (λ z. MayCome Then (Told line unit id (End (Failed z done)))) is parts.1.0, tt))) kind there

-- A request ends offline only where its unit was offline at some moment from its submission to its answer.
abbrev pub OfflineIsTold : Type 0
OfflineIsTold = (script : Script) (tables : ℕ → Option Table) (old new : ℕ → model.Pack) (ms ns : List Moment) (line unit id done : ℕ)
    → IsLegalRun script tables old new (ms ++ Told line unit id (End (Failed Offline done)) ∷ ns)
    → (r : Request) × IsAskedAt r unit id ms × WasOffline r ms

pub offline_is_told : OfflineIsTold
offline_is_told script tables old new ms ns line unit id done run = (
  in_hand ((after_moments (start_of script tables old) ms).units unit).service,
  is_asked script tables old new ms ns line unit id done Offline run,
  was_offline script tables old new ms ns line unit id done Offline run ((explained script tables old new ms ns line unit id done Offline run).cause Offline done refl),
)

-- It ends locked only where it writes, and its unit is online and locked at the answer.
abbrev pub LockedIsTold : Type 0
LockedIsTold = (script : Script) (tables : ℕ → Option Table) (old new : ℕ → model.Pack) (ms ns : List Moment) (line unit id done : ℕ)
    → IsLegalRun script tables old new (ms ++ Told line unit id (End (Failed Locked done)) ∷ ns)
    → (r : Request) × IsAskedAt r unit id ms × (is_some r.written ≡ true) × (online_behind unit true ms ≡ true) × (locked_behind unit false ms ≡ true)

pub locked_is_told : LockedIsTold
locked_is_told script tables old new ms ns line unit id done run = (
  in_hand ((after_moments (start_of script tables old) ms).units unit).service,
  is_asked script tables old new ms ns line unit id done Locked run,
  out.writes,
  locked.0,
  locked.1,
)
  where
    out : IsLockedOut ((after_moments (start_of script tables old) ms).units unit)
    out = (explained script tables old new ms ns line unit id done Locked run).cause Locked done refl

    locked : (online_behind unit true ms ≡ true) × (locked_behind unit false ms ≡ true)
    locked = was_locked script tables old new ms ns line unit id done Locked run out

-- It ends unforwarded only where its first block not done is one of its blocks, and has no home on its pack.
abbrev pub UnforwardedIsHomeless : Type 0
UnforwardedIsHomeless = (script : Script) (tables : ℕ → Option Table) (old new : ℕ → model.Pack) (ms ns : List Moment) (line unit id done : ℕ) (kind : DriveKind)
    → IsLegalRun script tables old new (ms ++ Told line unit id (End (Failed Unforwarded done)) ∷ ns) → drives_of script unit ≡ Some kind
    → (r : Request) × IsAskedAt r unit id ms × (done < r.count) × (home_of kind (tables unit) (old unit) (first_block kind r + done) ≡ None)

pub unforwarded_is_homeless : UnforwardedIsHomeless
unforwarded_is_homeless script tables old new ms ns line unit id done kind run there = (
  in_hand ((after_moments (start_of script tables old) ms).units unit).service,
  is_asked script tables old new ms ns line unit id done Unforwarded run,
  ((explained script tables old new ms ns line unit id done Unforwarded run).counted Unforwarded done refl).1,
  homeless script tables old new ms ns line unit id done Unforwarded run refl kind there,
)

-- It ends by a fault only where a line before the answer armed a fault at its unit, or noise of its unit that shows.
pub fault_is_told : (script : Script) (tables : ℕ → Option Table) (old new : ℕ → model.Pack) (ms ns : List Moment) (line unit id done : ℕ)
    → IsLegalRun script tables old new (ms ++ Told line unit id (End (Failed Fault done)) ∷ ns)
    → WasPlayed (ArmsFault unit) ms ⊎ WasPlayed (ArmsShownNoise unit) ms
fault_is_told script tables old new ms ns line unit id done run =
    (known script tables old new ms ns line unit id done Fault run).failed unit
    (any_failed false 28 all.block (lines_of unit ms) (λ e. omega arith) all.tries)
  where
    all : AreAllTries (lines_of unit ms)
    all = (explained script tables old new ms ns line unit id done Fault run).tries done refl
