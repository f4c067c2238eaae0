-- A request ends unforwarded only where its first block not done has no home.
use Rattle.std.proofs.Common.{◌≡◌, ◌⊎◌, inl, inr, ℕ, ◌==◌, Bool, true, false, List, [], ◌∷◌, Option, None, Some, refl, sym, ap, ◌∙◌, subst, arith, ◌+◌, nat_lt}
use Rattle.std.specs.Prelude.{if◌then◌else◌, option_map, unwrap_or}
use Rattle.std.proofs.lemmas.Option.{same_Some, none-some}
use Rattle.std.proofs.lemmas.Bool.Decides.{eqb_tells}
use Rattle.pack_geometry.specs.declared.DriveKind.{DriveKind}
use Rattle.pack_geometry.specs.declared.DriveKind.TheVariants.{Rp06}
use Rattle.pack_geometry.specs.TableSpelling.{Table}
use Rattle.drive_registers.specs.declared.Function.TheVariants as function
use Rattle.hardware_table.specs.declared.FaultKind.{FaultKind}
use Rattle.hardware_table.specs.declared.Moved.{Moved}
use Rattle.hardware_table.specs.declared.Moved.TheVariants as verdict
use Rattle.hardware_table.specs.Drive.{DriveState, is_writing, new_drive}
use Rattle.hardware_table.specs.Functions.{performed}
use Rattle.trace_replay.specs.requests.Requests.{Request, Failed, Unforwarded, Rejection, rejection_answer, first_block}
use Rattle.trace_replay.specs.Script.{Input, Submit, ArriveAt, MoveAt, AttendTo, Drain}
use Rattle.trace_replay.specs.Moments.{Deed, Search, Seek, Recal, Offset, Centre, Clear, Pack, Transfer, Arrive, Sector, Intr, Try, Attn, End, Moment, Played, Told, Idle}
use Rattle.trace_replay.specs.Service.{in_hand, target_of}
use Rattle.trace_replay.specs.Conversation.{Hand, OwnBlocks, entry_of, start_of}
use Rattle.trace_replay.specs.Events.{Wish, Refusal, Event}
use Rattle.trace_replay.specs.Replay.{Replay, new_replay, next_wish, hand_of, at_unit, LineMay, ToldMay, Follows, after_moment, after_moments, unit_after, told_after, replay_told, Submission, Refused, Joined, submission, submitted, replay_played}
use Rattle.trace_replay.specs.History.{is_refusal, with_deed, lines_after, lines_behind, marks_in}
use Rattle.trace_replay.proofs.Histories.{IsListed, EndsFailed, WasMarked}
use Rattle.trace_replay.proofs.Unchanged.{drained_keeps, surface_marks}
use Rattle.trace_replay.proofs.Following.{follow_on}
use Rattle.trace_replay.proofs.Kept.{moments_all, starts, refused_is, after_kind, played_kind, performed_kind}
use Rattle.pack_geometry.specs.Geometry.{limit_of}
use Rattle.pack_geometry.specs.Pack as model
use Rattle.pack_geometry.specs.Homes.{home_of, replacement_home}
use Rattle.drive_registers.specs.declared.Function.TheVariants as function
use Rattle.hardware_table.specs.Moves.{stop_of, first_armed, IsVerdict, IsVerdictBy, IsReadVerdict}
use Rattle.trace_replay.specs.Drives.{attached}
use Rattle.trace_replay.specs.Packs.{VerdictMay, flips_at, surface_of}
use Rattle.trace_replay.specs.Causes.{AreUnusable}
use Rattle.trace_replay.proofs.Explained.{told_ends}

-- ---- a verdict mark is of a marked sector
moved_sort : Moved → ℕ
moved_sort verdict.Clean = 0
moved_sort (verdict.Burst at q) = 1
moved_sort verdict.Hard = 2
moved_sort verdict.Marked = 3
moved_sort (verdict.Faulted k) = 4
moved_sort verdict.Offline = 5

stop_is_none : (online : Bool) (armed : Option FaultKind) (stop : Moved) → (if online then option_map verdict.Faulted armed else Some verdict.Offline) ≡ Some stop → moved_sort stop ≡ 3 → ⊥
unfolding moved_sort
stop_is_none true None stop is three = none-some stop is
stop_is_none true (Some k) stop is three = omega (arith, three, ap moved_sort (same_Some (verdict.Faulted k) stop is))
stop_is_none false armed stop is three = omega (arith, three, ap moved_sort (same_Some verdict.Offline stop is))

pub read_is_none : (places : Option (List ℕ)) → IsReadVerdict places verdict.Marked → ⊥
unfolding moved_sort
read_is_none None is = omega (arith, ap moved_sort is)
read_is_none (Some places) is = is

marked_by : (stop : Option Moved) (marked write : Bool) (places : Option (List ℕ)) → ((v : Moved) → stop ≡ Some v → moved_sort v ≡ 3 → ⊥)
    → IsVerdictBy stop marked write places verdict.Marked → marked ≡ true
unfolding moved_sort
marked_by (Some stop) marked write places never is = absurd (never stop refl (ap moved_sort (sym is)))
marked_by None true write places never is = refl
marked_by None false true places never is = absurd (omega (arith, ap moved_sort is))
marked_by None false false places never is = absurd (read_is_none places is)

pub marked_only : (d : DriveState) (marked : Bool) (places : Option (List ℕ)) → IsVerdict d marked places verdict.Marked → marked ≡ true
marked_only d marked places is = marked_by (stop_of d) marked (is_writing d.work) places (λ v stop three. stop_is_none d.online (first_armed d.armed) v stop three) is

-- ---- what stays through a run: kinds, tables and marks; and that lines tell of marked sectors alone
record Steady (kinds : ℕ → DriveKind) (tables : ℕ → Option Table) (marked : ℕ → ℕ → Bool) (s : Replay) : Type 0 where
  kind : (x : ℕ) → (s.units x).drive.kind ≡ kinds x
  table : (x : ℕ) → (s.units x).table ≡ tables x
  marks : s.surface.is_marked ≡ marked

abbrev AreTrue : (ℕ → ℕ → Bool) → (ℕ → List Deed) → Type 0
AreTrue marked lines = (x b : ℕ) → WasMarked b (lines x) → marked x b ≡ true

pub was_told : (deed : Deed) (lines : List Deed) (b : ℕ) → WasMarked b (with_deed deed lines) → (deed ≡ Sector b verdict.Marked) ⊎ WasMarked b lines
was_told (Search c y) lines b w = w
was_told (Seek c) lines b w = w
was_told Recal lines b w = w
was_told (Offset o) lines b w = w
was_told Centre lines b w = w
was_told Clear lines b w = w
was_told Pack lines b w = w
was_told (Transfer k l m) lines b w = w
was_told Arrive lines b w = w
was_told (Sector k v) lines b w = w
was_told Intr lines b w = w
was_told (Try k t) lines b w = w
was_told Attn lines b w = w
was_told (End answer) lines b w = at (is_refusal answer) w
  where
    at : (r : Bool) → WasMarked b (if r then lines else []) → (End answer ≡ Sector b verdict.Marked) ⊎ WasMarked b lines
    at true w = inr w
    at false w = absurd w

told_true : (s : Replay) (line unit id : ℕ) (deed : Deed) (lines : ℕ → List Deed) (marked : ℕ → ℕ → Bool) → s.surface.is_marked ≡ marked → LineMay s line unit id deed → AreTrue marked lines
    → AreTrue marked (λ x. lines_after x (Told line unit id deed) (lines x))
told_true s line unit id deed lines marked is may all x b = elim (eqb_tells x unit) [
  | inl same ↦ rw same.0 (λ w. at same.1 (was_told deed (lines x) b w))
  | inr other ↦ rw other.0 (all x b)
]
  where
    at : x ≡ unit → (deed ≡ Sector b verdict.Marked) ⊎ WasMarked b (lines x) → marked x b ≡ true
    at here (inl sector) =
        ap (λ z. marked z b) here ∙ ap (λ m. m unit b) (sym is)
        ∙ marked_only (s.units unit).drive (s.surface.is_marked unit b) (flips_at s.surface unit (s.units unit).drive b) (subst (λ z. VerdictMay s.surface unit (s.units unit).drive z) sector may.verdict)
    at here (inr before) = all x b before

line_steady : (s : Replay) (unit : ℕ) (deed : Deed) (kinds : ℕ → DriveKind) (tables : ℕ → Option Table) (marked : ℕ → ℕ → Bool) → Steady kinds tables marked s
    → Steady kinds tables marked (replay_told s unit deed (unit_after s unit deed))
line_steady s unit deed kinds tables marked h = record {
  kind = λ x. elim (eqb_tells x unit) [
    | inl same ↦ rw same.0 (after_kind (s.units unit).drive (at_unit s unit).state (target_of (s.units unit).drive.kind (in_hand (s.units unit).service)) deed ∙ h.kind unit ∙ ap kinds (sym same.1))
    | inr other ↦ rw other.0 (h.kind x)
  ];
  table = λ x. elim (eqb_tells x unit) [
    | inl same ↦ rw same.0 (h.table unit ∙ ap tables (sym same.1))
    | inr other ↦ rw other.0 (h.table x)
  ];
  marks = surface_marks s unit deed ∙ h.marks;
}

refusal_true : (line unit id : ℕ) (why : Rejection) (lines : ℕ → List Deed) (marked : ℕ → ℕ → Bool) → AreTrue marked lines
    → AreTrue marked (λ x. lines_after x (Told line unit id (End (rejection_answer why))) (lines x))
refusal_true line unit id why lines marked all x b = at (x == unit)
  where
    at : (c : Bool) → WasMarked b (if c then with_deed (End (rejection_answer why)) (lines x) else lines x) → marked x b ≡ true
    at true = subst (λ z. WasMarked b (if z then lines x else []) → marked x b ≡ true) (sym (refused_is why)) (all x b)
    at false = all x b

again : {kinds : ℕ → DriveKind} {tables : ℕ → Option Table} {marked : ℕ → ℕ → Bool} {s : Replay} {event : Event} → Steady kinds tables marked s → Steady kinds tables marked (record s { event = event })
again h = record { kind = h.kind; table = h.table; marks = h.marks }

told_both : (wish : Wish) (s : Replay) (line unit id : ℕ) (deed : Deed) (lines : ℕ → List Deed) (kinds : ℕ → DriveKind) (tables : ℕ → Option Table) (marked : ℕ → ℕ → Bool)
    → ToldMay wish s line unit id deed → Steady kinds tables marked s → AreTrue marked lines
    → Steady kinds tables marked (told_after wish s unit deed) × AreTrue marked (λ x. lines_after x (Told line unit id deed) (lines x))
told_both (Refusal u i why) s line unit id deed lines kinds tables marked may h all = (
  record { kind = h.kind; table = h.table; marks = h.marks },
  subst (λ z. AreTrue marked (λ x. lines_after x (Told line unit id z) (lines x))) (sym may.answered) (refusal_true line unit id why lines marked all),
)
told_both other s line unit id deed lines kinds tables marked may h all = (
  drained_keeps (λ t. Steady kinds tables marked t) (replay_told s unit deed (unit_after s unit deed)) (λ event. again (line_steady s unit deed kinds tables marked h)),
  told_true s line unit id deed lines marked h.marks may all,
)

submitted_steady : (s : Replay) (r : Request) (met : Submission) (kinds : ℕ → DriveKind) (tables : ℕ → Option Table) (marked : ℕ → ℕ → Bool) → Steady kinds tables marked s
    → Steady kinds tables marked (submitted s r met)
submitted_steady s r (Refused why) kinds tables marked h = h
submitted_steady s r Joined kinds tables marked h = record {
  kind = λ x. elim (eqb_tells x r.unit) [
    | inl same ↦ rw same.0 (h.kind r.unit ∙ ap kinds (sym same.1))
    | inr other ↦ rw other.0 (h.kind x)
  ];
  table = λ x. elim (eqb_tells x r.unit) [
    | inl same ↦ rw same.0 (h.table r.unit ∙ ap tables (sym same.1))
    | inr other ↦ rw other.0 (h.table x)
  ];
  marks = h.marks;
}

played_steady : (s : Replay) (input : Input) (kinds : ℕ → DriveKind) (tables : ℕ → Option Table) (marked : ℕ → ℕ → Bool) → Steady kinds tables marked s
    → Steady kinds tables marked (replay_played s input)
played_steady s (Submit r) kinds tables marked h = submitted_steady s r (submission s r) kinds tables marked h
played_steady s (ArriveAt u) kinds tables marked h = h
played_steady s (MoveAt a) kinds tables marked h = h
played_steady s (AttendTo a) kinds tables marked h = h
played_steady s Drain kinds tables marked h = h
played_steady s other kinds tables marked h = record { kind = λ x. played_kind x (s.units x).drive other ∙ h.kind x; table = h.table; marks = h.marks }

moments_both : (s : Replay) (ms : List Moment) (lines : ℕ → List Deed) (kinds : ℕ → DriveKind) (tables : ℕ → Option Table) (marked : ℕ → ℕ → Bool) → Follows s ms
    → Steady kinds tables marked s → AreTrue marked lines → Steady kinds tables marked (after_moments s ms) × AreTrue marked (λ x. lines_behind x (lines x) ms)
moments_both s [] lines kinds tables marked follows h all = (h, all)
moments_both s (Played line input ∷ ms) lines kinds tables marked follows h all =
    moments_both (after_moment s (Played line input)) ms lines kinds tables marked follows.1 (again (played_steady s input kinds tables marked h)) all
moments_both s (Told line unit id deed ∷ ms) lines kinds tables marked follows h all =
    let next : Steady kinds tables marked (told_after (next_wish s) s unit deed) × AreTrue marked (λ x. lines_after x (Told line unit id deed) (lines x)) =
    told_both (next_wish s) s line unit id deed lines kinds tables marked follows.0 h all in
    moments_both (after_moment s (Told line unit id deed)) ms (λ x. lines_after x (Told line unit id deed) (lines x)) kinds tables marked follows.1 next.0 next.1
moments_both s (Idle line ∷ ms) lines kinds tables marked follows h all =
    moments_both (after_moment s (Idle line)) ms lines kinds tables marked follows.1 (again h) all

-- ---- no home
pub no_home : (h : Hand) (done : ℕ) (pack : model.Pack) (lines : List Deed) → ((b : ℕ) → WasMarked b lines → model.is_marked pack b ≡ true) → EndsFailed h Unforwarded done lines
    → home_of h.kind h.table pack (first_block h.kind h.request + done) ≡ None
no_home h done pack lines true_marks e =
    subst (λ z. home_of h.kind h.table pack (first_block h.kind h.request + z) ≡ None) (sym e.is_done) (below (nat_lt (start_of OwnBlocks h) (limit_of h.kind)) e.by.2)
  where
    below : (b : Bool) → ((marks_in lines ≡ 2) × IsListed h e.by.0 lines) ⊎ ((entry_of h (start_of OwnBlocks h) ≡ None) × (e.by.0 ≡ start_of OwnBlocks h))
        → (if b then (if model.is_marked pack (start_of OwnBlocks h) then replacement_home h.kind pack (entry_of h (start_of OwnBlocks h)) else Some (start_of OwnBlocks h)) else None) ≡ None
    below true (inl two) =
        rw (true_marks (start_of OwnBlocks h) two.1.own)
        (rw two.1.listed (rw (ap (λ z. model.is_marked pack z) (sym two.1.replacement) ∙ true_marks e.by.0 e.by.4) refl))
    below true (inr none) = rw (ap (λ z. model.is_marked pack z) (sym none.1) ∙ true_marks e.by.0 e.by.4) (rw none.0 refl)
    below false helpless = refl

pub attached_kind : (kind : DriveKind) (unit : ℕ) → (attached kind unit).kind ≡ kind
attached_kind kind unit = performed_kind function.Pack (performed function.Preset (new_drive kind unit)) ∙ performed_kind function.Preset (new_drive kind unit)

pub are_unusable : AreUnusable
are_unusable drives tables packs ms line unit id done some follows kind there =
    subst (λ t. home_of kind t (packs unit) (first_block kind (in_hand ((after_moments (new_replay drives tables (surface_of packs)) ms).units unit).service) + done) ≡ None) (steady.0.table unit)
    (subst (λ k. home_of k ((after_moments (new_replay drives tables (surface_of packs)) ms).units unit).table (packs unit)
    (first_block k (in_hand ((after_moments (new_replay drives tables (surface_of packs)) ms).units unit).service) + done) ≡ None) same_kind
    (no_home (hand_of ((after_moments (new_replay drives tables (surface_of packs)) ms).units unit)) done (packs unit) (lines_behind unit [] ms) (λ b w. steady.1 unit b w)
    (told_ends (next_wish (after_moments (new_replay drives tables (surface_of packs)) ms)) (after_moments (new_replay drives tables (surface_of packs)) ms) line unit id done (lines_behind unit [] ms)
    parts.1.0 (moments_all (new_replay drives tables (surface_of packs)) ms (λ x. []) some parts.0 (starts drives tables (surface_of packs)) unit))))
  where
    parts : Follows (new_replay drives tables (surface_of packs)) ms × Follows (after_moments (new_replay drives tables (surface_of packs)) ms) (Told line unit id (End (Failed Unforwarded done)) ∷ [])
    parts = (follow_on (new_replay drives tables (surface_of packs)) ms (Told line unit id (End (Failed Unforwarded done)) ∷ [])).0 follows

    steady : Steady (λ x. unwrap_or (drives x) Rp06) tables (λ x b. model.is_marked (packs x) b) (after_moments (new_replay drives tables (surface_of packs)) ms)
        × AreTrue (λ x b. model.is_marked (packs x) b) (λ x. lines_behind x [] ms)
    steady = moments_both (new_replay drives tables (surface_of packs)) ms (λ x. []) (λ x. unwrap_or (drives x) Rp06) tables (λ x b. model.is_marked (packs x) b) parts.0
        (record { kind = λ x. attached_kind (unwrap_or (drives x) Rp06) x; table = λ x. refl; marks = refl }) (λ x b w. absurd w)

    same_kind : ((after_moments (new_replay drives tables (surface_of packs)) ms).units unit).drive.kind ≡ kind
    same_kind = steady.0.kind unit ∙ ap (λ z. unwrap_or z Rp06) there
