-- The first transfer of a request is for all its blocks, and each writes as it does.
use Rattle.std.proofs.Common.{◌≡◌, ◌⊎◌, inl, inr, ℕ, ◌-◌, ◌≤◌, ◌==◌, ◌&&◌, Bool, true, false, cond, List, [], ◌∷◌, Option, None, Some, refl, sym, ap, ◌∙◌, subst, arith, drop}
use Rattle.std.specs.Prelude.{if◌then◌else◌, is_some}
use Rattle.std.proofs.lemmas.Option.{same_Some, none-some}
use Rattle.std.proofs.lemmas.Bool.Decides.{nat_tests, eqb_tells}
use Rattle.hardware_table.specs.declared.Moved.{Moved}
use Rattle.hardware_table.specs.Drive.{DriveState}
use Rattle.pack_geometry.specs.declared.DriveKind.{DriveKind}
use Rattle.pack_geometry.specs.TableSpelling.{Table}
use Rattle.trace_replay.specs.requests.ServiceOrder.{Waiting as Waiter, put, Service, after_leave}
use Rattle.trace_replay.proofs.requests.ServiceOrderRuns.{newcomer, after_join-waiting}
use Rattle.trace_replay.specs.requests.Requests.{Request, Rejection, rejection_answer}
use Rattle.trace_replay.specs.Script.{Input, Submit}
use Rattle.trace_replay.specs.Moments.{Deed, Search, Seek, Recal, Offset, Centre, Clear, Pack, Transfer, Arrive, Sector, Intr, Try, Attn, End, Moment, Played, Told, Idle}
use Rattle.trace_replay.specs.Drives.{drive_after}
use Rattle.trace_replay.specs.Packs.{Surface}
use Rattle.trace_replay.specs.Service.{cylinder_of, first_waiting, head_of, in_hand, request_or_none, service_after, target_of}
use Rattle.trace_replay.specs.Conversation.{Positioning, SearchFor, Recalibrate, SeekTo, OffsetBy, Segment, OwnBlocks, Replacement, Hand, is_write, length_of, transfer_of, command_of, needs_unlocked, guarded, due, Stage, Waiting, Steps, UnderWay, AtOnce, Moving, Saying, Ending, saying, interrupted_by, stage_after, is_under_way, sector_may, intr_may, Progress, not_begun, TalkMay, begun, progress_after}
use Rattle.trace_replay.specs.Events.{Wish, Refusal}
use Rattle.trace_replay.specs.Replay.{Replay, UnitSeen, new_replay, next_wish, hand_of, at_unit, LineMay, ToldMay, Follows, after_moment, after_moments, unit_after, bytes_of, told_after, replay_told, Submission, Refused, Joined, submission, submitted, stage_joined, unit_joined, replay_played}
use Rattle.trace_replay.specs.History.{Untried, last_tried, with_deed, lines_after, lines_behind}
use Rattle.trace_replay.specs.Causes.{AskSome}
use Rattle.trace_replay.proofs.Histories.{AreSaid, Fits, guard_holds}
use Rattle.trace_replay.proofs.Kept.{UnitFits, UnitTold, AskSomeBlocks, IsHeld, AllFit, held_by, told_all, played_all, end_kept, head_stays, refused_is, no}
use Rattle.trace_replay.proofs.Smooth.{IsOwn}
use Rattle.trace_replay.proofs.Unchanged.{drained_keeps}

-- the count of the first transfer, and whether the last one writes
abbrev pub want_in : List Deed → ℕ
want_in [] = 0
want_in (Transfer write block count ∷ lines) = if want_in lines == 0 then count else want_in lines
want_in (deed ∷ lines) = want_in lines

abbrev pub wrote_in : List Deed → Option Bool
wrote_in [] = None
wrote_in (Transfer write block count ∷ lines) = Some write
wrote_in (deed ∷ lines) = wrote_in lines

pub record Began (r : Request) (lines : List Deed) : Type 0 where
  pub whole : want_in lines ≡ r.count
  pub write : wrote_in lines ≡ Some (is_some r.written)

pub record NotYet (segment : Segment) (done : ℕ) (lines : List Deed) : Type 0 where
  pub own : IsOwn segment
  pub none : want_in lines ≡ 0
  pub zero_done : done ≡ 0
  pub untried : last_tried lines ≡ Untried

abbrev pub Waits : Request → ℕ → Segment → List Deed → Type 0
Waits r done segment lines = NotYet segment done lines ⊎ Began r lines

-- WHERE A REQUEST STANDS, by its transfers
abbrev pub Wants : Request → ℕ → Stage → List Deed → Type 0
Wants r done Waiting lines = Unit {0}
Wants r done (Steps left segment) lines = Waits r done segment lines
Wants r done (UnderWay left segment) lines = Waits r done segment lines
Wants r done (AtOnce segment) lines = Waits r done segment lines
Wants r done (Moving segment left last) lines = Began r lines
Wants r done (Saying rest next) lines = Began r lines
Wants r done (Ending answer) lines = Began r lines

began_any : (r : Request) (done : ℕ) (stage : Stage) (lines : List Deed) → Began r lines → Wants r done stage lines
began_any r done Waiting lines b = tt
began_any r done (Moving segment left last) lines b = b
began_any r done (Saying rest next) lines b = b
began_any r done (Ending answer) lines b = b
began_any r done other lines b = inr b

-- a line that is no transfer
record Plain (deed : Deed) (lines : List Deed) : Type 0 where
  want : want_in (deed ∷ lines) ≡ want_in lines
  wrote : wrote_in (deed ∷ lines) ≡ wrote_in lines

began_more : (deed : Deed) (r : Request) (lines : List Deed) → Plain deed lines → Began r lines → Began r (deed ∷ lines)
began_more deed r lines p b = record { whole = p.want ∙ b.whole; write = p.wrote ∙ b.write }

waits_more : (deed : Deed) (r : Request) (done : ℕ) (segment : Segment) (lines : List Deed) → Plain deed lines → last_tried (deed ∷ lines) ≡ last_tried lines → Waits r done segment lines
    → Waits r done segment (deed ∷ lines)
waits_more deed r done segment lines p t (inl n) = inl (record { own = n.own; none = p.want ∙ n.none; zero_done = n.zero_done; untried = t ∙ n.untried })
waits_more deed r done segment lines p t (inr b) = inr (began_more deed r lines p b)

first_count : (w d c : ℕ) → w ≡ 0 → d ≡ 0 → cond (w == 0) (c - d) w ≡ c
first_count w d c e z = ap (λ (x : ℕ). cond (x == 0) (c - d) x) e ∙ less c d z
  where
    less : (c d : ℕ) → d ≡ 0 → c - d ≡ c
    less c d z = omega (arith, z)

later_count : (w n c : ℕ) → w ≡ c → 1 ≤ c → cond (w == 0) n w ≡ c
later_count w n c e some = grind (arith, nat_tests)

transfer_wants : (h : Hand) (segment : Segment) (lines : List Deed) → 1 ≤ h.request.count → Waits h.request h.progress.done segment lines → Began h.request (transfer_of segment h ∷ lines)
transfer_wants h OwnBlocks lines some (inl n) = record { whole = first_count (want_in lines) h.progress.done h.request.count n.none n.zero_done; write = refl }
transfer_wants h (Replacement block) lines some (inl n) = absurd n.own
transfer_wants h segment lines some (inr b) = record { whole = later_count (want_in lines) (length_of segment h) h.request.count b.whole some; write = refl }

-- EACH LINE keeps it
abbrev AfterWants : DriveState → Hand → Option Request → Stage → List Deed → Deed → Type 0
AfterWants d h next stage lines (End answer) = Unit {0}
AfterWants d h next stage lines deed = Wants h.request h.progress.done (stage_after stage deed d h next) (deed ∷ lines)

step_wants : (d' : DriveState) (h : Hand) (next : Option Request) (step : Positioning) (left : List Positioning) (segment : Segment) (lines : List Deed)
    → Waits h.request h.progress.done segment lines → AfterWants d' h next (Steps (step ∷ left) segment) lines (command_of step)
step_wants d' h next (SearchFor c y) left segment lines w = waits_more (Search c y) h.request h.progress.done segment lines (record { want = refl; wrote = refl }) refl w
step_wants d' h next Recalibrate left segment lines w = waits_more Recal h.request h.progress.done segment lines (record { want = refl; wrote = refl }) refl w
step_wants d' h next (SeekTo c) left segment lines w = waits_more (Seek c) h.request h.progress.done segment lines (record { want = refl; wrote = refl }) refl w
step_wants d' h next (OffsetBy code) left segment lines w = waits_more (Offset code) h.request h.progress.done segment lines (record { want = refl; wrote = refl }) refl w

line_wants : (d' : DriveState) (h : Hand) (next : Option Request) (line : Deed) (rest : List Deed) (then_stage : Stage) (lines : List Deed)
    → AreSaid (line ∷ rest) → Began h.request lines → AfterWants d' h next (Saying (line ∷ rest) then_stage) lines line
line_wants d' h next Clear rest then_stage lines a b = began_any h.request h.progress.done (saying rest then_stage) (Clear ∷ lines) (began_more Clear h.request lines (record { want = refl; wrote = refl }) b)
line_wants d' h next Centre rest then_stage lines a b = began_any h.request h.progress.done (saying rest then_stage) (Centre ∷ lines) (began_more Centre h.request lines (record { want = refl; wrote = refl }) b)
line_wants d' h next (Try k t) rest then_stage lines a b =
    began_any h.request h.progress.done (saying rest then_stage) (Try k t ∷ lines) (began_more (Try k t) h.request lines (record { want = refl; wrote = refl }) b)
line_wants d' h next line rest then_stage lines a b = absurd a

due_wants : (d d' : DriveState) (h : Hand) (next : Option Request) (stage : Stage) (deed : Deed) (lines : List Deed) → 1 ≤ h.request.count
    → due d h stage ≡ Some deed → Fits h stage lines → Wants h.request h.progress.done stage lines → AfterWants d' h next stage lines deed
due_wants d d' h next Waiting deed lines some is f w = absurd (none-some deed is)
due_wants d d' h next (Steps [] segment) deed lines some is f w =
    guard_holds (AfterWants d' h next (Steps [] segment) lines) d.online (is_write h && d.locked) d.valid h.progress.done (transfer_of segment h) deed
    (same_Some (guarded d h (transfer_of segment h)) deed is) tt tt (waits_more Pack h.request h.progress.done segment lines (record { want = refl; wrote = refl }) refl w)
    (transfer_wants h segment lines some w)
due_wants d d' h next (Steps (step ∷ left) segment) deed lines some is f w =
    guard_holds (AfterWants d' h next (Steps (step ∷ left) segment) lines) d.online (needs_unlocked (command_of step) && d.locked) d.valid h.progress.done (command_of step) deed
    (same_Some (guarded d h (command_of step)) deed is) tt tt (waits_more Pack h.request h.progress.done segment lines (record { want = refl; wrote = refl }) refl w)
    (step_wants d' h next step left segment lines w)
due_wants d d' h next (UnderWay left segment) deed lines some is f w = absurd (none-some deed is)
due_wants d d' h next (AtOnce segment) deed lines some is f w =
    guard_holds (AfterWants d' h next (AtOnce segment) lines) d.online (is_write h && d.locked) d.valid h.progress.done (transfer_of segment h) deed
    (same_Some (guarded d h (transfer_of segment h)) deed is) tt tt (waits_more Pack h.request h.progress.done segment lines (record { want = refl; wrote = refl }) refl w)
    (transfer_wants h segment lines some w)
due_wants d d' h next (Moving segment left last) deed lines some is f w = absurd (none-some deed is)
due_wants d d' h next (Saying [] then_stage) deed lines some is f w = absurd (none-some deed is)
due_wants d d' h next (Saying (line ∷ rest) then_stage) deed lines some is f w =
    subst (AfterWants d' h next (Saying (line ∷ rest) then_stage) lines) (same_Some line deed is) (line_wants d' h next line rest then_stage lines f.0 w)
due_wants d d' h next (Ending answer) deed lines some is f w = subst (AfterWants d' h next (Ending answer) lines) (same_Some (End answer) deed is) tt

arrive_wants : (r : Request) (done : ℕ) (stage : Stage) (lines : List Deed) → is_under_way stage ≡ true → Wants r done stage lines → Wants r done stage (Arrive ∷ lines)
arrive_wants r done (UnderWay left segment) lines is w = waits_more Arrive r done segment lines (record { want = refl; wrote = refl }) refl w
arrive_wants r done Waiting lines is w = tt
arrive_wants r done stage lines is w = absurd (no is)

attn_wants : (r : Request) (done : ℕ) (d : DriveState) (h : Hand) (next : Option Request) (stage : Stage) (lines : List Deed) → is_under_way stage ≡ true → Wants r done stage lines
    → Wants r done (stage_after stage Attn d h next) (Attn ∷ lines)
attn_wants r done d h next (UnderWay left segment) lines is w = waits_more Attn r done segment lines (record { want = refl; wrote = refl }) refl w
attn_wants r done d h next stage lines is w = absurd (no is)

sector_wants : (r : Request) (done done' : ℕ) (h : Hand) (stage : Stage) (block : ℕ) (v : Moved) (d : DriveState) (h' : Hand) (next : Option Request) (lines : List Deed)
    → sector_may h stage block ≡ true → Wants r done stage lines → Wants r done' (stage_after stage (Sector block v) d h' next) (Sector block v ∷ lines)
sector_wants r done done' h (Moving segment left last) block v d h' next lines is w = began_more (Sector block v) r lines (record { want = refl; wrote = refl }) w
sector_wants r done done' h stage block v d h' next lines is w = absurd (no is)

intr_wants : (r : Request) (done done' : ℕ) (d : DriveState) (h' : Hand) (next : Option Request) (stage : Stage) (lines : List Deed) → intr_may stage ≡ true → Wants r done stage lines
    → Wants r done' (stage_after stage Intr d h' next) (Intr ∷ lines)
intr_wants r done done' d h' next (Moving segment left last) lines is w =
    began_any r done' (interrupted_by last d h' segment) (Intr ∷ lines) (began_more Intr r lines (record { want = refl; wrote = refl }) w)
intr_wants r done done' d h' next other lines is w = absurd (no is)

-- A UNIT
abbrev pub UnitWants : UnitSeen → List Deed → Type 0
UnitWants u lines = Wants (in_hand u.service) u.progress.done u.stage lines

pub some_asked : (waiting : List (Waiter Request)) → AskSomeBlocks waiting → IsHeld waiting → 1 ≤ (request_or_none (first_waiting waiting)).count
some_asked [] all held = absurd held
some_asked (w ∷ rest) all held = all.0

begun_wants : (d : DriveState) (waiting : List (Waiter Request)) → Wants (request_or_none (first_waiting waiting)) 0 (begun d (first_waiting waiting)) []
begun_wants d [] = tt
begun_wants d (w ∷ rest) = inl (record { own = tt; none = refl; zero_done = refl; untried = refl })

told_wants : (u : UnitSeen) (deed : Deed) (d : DriveState) (bytes : List ℕ) (lines : List Deed) → UnitFits u lines → IsHeld u.service.waiting → UnitWants u lines
    → TalkMay u.drive (hand_of u) u.stage deed
    → UnitWants (UnitTold u deed d (progress_after u.stage deed bytes u.progress) (service_after u.service deed)) (with_deed deed lines)
told_wants u Arrive d bytes lines f held w may = arrive_wants (in_hand u.service) u.progress.done u.stage lines may w
told_wants u (Sector k v) d bytes lines f held w may =
    sector_wants (in_hand u.service) u.progress.done (progress_after u.stage (Sector k v) bytes u.progress).done (hand_of u) u.stage k v d
    (record (hand_of u) { progress = progress_after u.stage (Sector k v) bytes u.progress }) (head_of u.service) lines may w
told_wants u Intr d bytes lines f held w may =
    intr_wants (in_hand u.service) u.progress.done (progress_after u.stage Intr bytes u.progress).done d (record (hand_of u) { progress = progress_after u.stage Intr bytes u.progress }) (head_of u.service) u.stage lines may w
told_wants u Attn d bytes lines f held w may = attn_wants (in_hand u.service) u.progress.done d (hand_of u) (head_of u.service) u.stage lines may w
told_wants u (End answer) d bytes lines f held w may =
    subst (λ z. UnitWants (UnitTold u (End answer) d not_begun (after_leave u.service)) (if z then lines else [])) (sym (end_kept u.drive (hand_of u) u.stage (End answer) lines may f.fits))
    (begun_wants d (drop 1 u.service.waiting))
told_wants u other d bytes lines f held w may = due_wants u.drive d (hand_of u) (head_of u.service) u.stage other lines (some_asked u.service.waiting f.some held) may f.fits w

joined_at : (stage : Stage) (d : DriveState) (service : Service Request) (p : Progress) (table : Option Table) (r : Request) (lines : List Deed)
    → UnitFits (record { drive = d; service = service; stage = stage; progress = p; table = table }) lines
    → Wants (in_hand service) p.done stage lines
    → Wants (request_or_none (first_waiting (put (newcomer (cylinder_of d.kind) r service.joined service.waiting) service.waiting))) p.done (stage_joined stage d r) lines
joined_at Waiting d service p table r lines f w = fresh f.fresh
  where
    fresh : (p ≡ not_begun) ⊎ (true ≡ false) → Wants (request_or_none (first_waiting (put (newcomer (cylinder_of d.kind) r service.joined service.waiting) service.waiting))) p.done (begun d (Some r)) lines
    fresh (inl is) = inl (record { own = tt; none = ap want_in f.fits; zero_done = ap (λ (q : Progress). q.done) is; untried = ap last_tried f.fits })
    fresh (inr waits) = absurd (no (sym waits))
joined_at (Steps left segment) d service p table r lines f w =
    subst (λ z. Wants (request_or_none z) p.done (Steps left segment) lines) (sym (head_stays (cylinder_of d.kind) r service.joined service.waiting f.order (f.held refl))) w
joined_at (UnderWay left segment) d service p table r lines f w =
    subst (λ z. Wants (request_or_none z) p.done (UnderWay left segment) lines) (sym (head_stays (cylinder_of d.kind) r service.joined service.waiting f.order (f.held refl))) w
joined_at (AtOnce segment) d service p table r lines f w =
    subst (λ z. Wants (request_or_none z) p.done (AtOnce segment) lines) (sym (head_stays (cylinder_of d.kind) r service.joined service.waiting f.order (f.held refl))) w
joined_at (Moving segment left last) d service p table r lines f w =
    subst (λ z. Wants (request_or_none z) p.done (Moving segment left last) lines) (sym (head_stays (cylinder_of d.kind) r service.joined service.waiting f.order (f.held refl))) w
joined_at (Saying rest next) d service p table r lines f w =
    subst (λ z. Wants (request_or_none z) p.done (Saying rest next) lines) (sym (head_stays (cylinder_of d.kind) r service.joined service.waiting f.order (f.held refl))) w
joined_at (Ending answer) d service p table r lines f w =
    subst (λ z. Wants (request_or_none z) p.done (Ending answer) lines) (sym (head_stays (cylinder_of d.kind) r service.joined service.waiting f.order (f.held refl))) w

joined_wants : (u : UnitSeen) (r : Request) (lines : List Deed) → UnitFits u lines → UnitWants u lines → UnitWants (unit_joined u r) lines
joined_wants u r lines f w =
    subst (λ z. Wants (request_or_none (first_waiting z)) u.progress.done (stage_joined u.stage u.drive r) lines)
    (sym (after_join-waiting (cylinder_of u.drive.kind) r u.service f.order)) (joined_at u.stage u.drive u.service u.progress u.table r lines f w)

-- ALL UNITS
abbrev pub AllWant : Replay → (ℕ → List Deed) → Type 0
AllWant s lines = (x : ℕ) → UnitWants (s.units x) (lines x)

line_wants_all : (s : Replay) (line u id : ℕ) (deed : Deed) (lines : ℕ → List Deed) → LineMay s line u id deed → AllFit s lines → AllWant s lines
    → AllWant (replay_told s u deed (unit_after s u deed)) (λ x. lines_after x (Told line u id deed) (lines x))
line_wants_all s line u id deed lines may all want x = elim (eqb_tells x u) [
  | inl same ↦ rw same.0 (subst (λ z. UnitWants (unit_after s u deed) (with_deed deed (lines z))) (sym same.1)
      (told_wants (s.units u) deed (drive_after (s.units u).drive (at_unit s u).state (target_of (s.units u).drive.kind (in_hand (s.units u).service)) deed) (bytes_of s u deed) (lines u)
      (all u) (held_by (s.units u).service.waiting id may.service) (want u) may.talk))
  | inr other ↦ rw other.0 (want x)
]

refusal_wants : (s : Replay) (line u id : ℕ) (why : Rejection) (lines : ℕ → List Deed) → AllWant s lines
    → AllWant s (λ x. lines_after x (Told line u id (End (rejection_answer why))) (lines x))
refusal_wants s line u id why lines all x = at (x == u)
  where
    at : (b : Bool) → UnitWants (s.units x) (if b then with_deed (End (rejection_answer why)) (lines x) else lines x)
    at true = subst (λ z. UnitWants (s.units x) (if z then lines x else [])) (sym (refused_is why)) (all x)
    at false = all x

told_want : (wish : Wish) (s : Replay) (line u id : ℕ) (deed : Deed) (lines : ℕ → List Deed) → ToldMay wish s line u id deed → AllFit s lines → AllWant s lines
    → AllWant (told_after wish s u deed) (λ x. lines_after x (Told line u id deed) (lines x))
told_want (Refusal v i why) s line u id deed lines may all want =
    subst (λ z. AllWant (told_after (Refusal v i why) s u deed) (λ x. lines_after x (Told line u id z) (lines x))) (sym may.answered) (refusal_wants s line u id why lines want)
told_want other s line u id deed lines may all want =
    drained_keeps (λ t. AllWant t (λ x. lines_after x (Told line u id deed) (lines x))) (replay_told s u deed (unit_after s u deed)) (λ event. line_wants_all s line u id deed lines may all want)

submitted_want : (s : Replay) (r : Request) (met : Submission) (lines : ℕ → List Deed) → AllFit s lines → AllWant s lines → AllWant (submitted s r met) lines
submitted_want s r (Refused why) lines all want = want
submitted_want s r Joined lines all want = λ x. elim (eqb_tells x r.unit) [
  | inl same ↦ rw same.0 (subst (λ z. UnitWants (unit_joined (s.units r.unit) r) (lines z)) (sym same.1) (joined_wants (s.units r.unit) r (lines r.unit) (all r.unit) (want r.unit)))
  | inr other ↦ rw other.0 (want x)
]

played_want : (s : Replay) (input : Input) (lines : ℕ → List Deed) → AllFit s lines → AllWant s lines → AllWant (replay_played s input) lines
played_want s (Submit r) lines all want = submitted_want s r (submission s r) lines all want
played_want s input lines all want = want

pub moments_want : (s : Replay) (ms : List Moment) (lines : ℕ → List Deed) → AskSome ms → Follows s ms → AllFit s lines → AllWant s lines
    → AllWant (after_moments s ms) (λ x. lines_behind x (lines x) ms)
moments_want s [] lines some follows all want = want
moments_want s (Played line input ∷ ms) lines some follows all want =
    moments_want (after_moment s (Played line input)) ms lines some.1 follows.1 (played_all s input lines some.0 all) (played_want s input lines all want)
moments_want s (Told line u id deed ∷ ms) lines some follows all want =
    moments_want (after_moment s (Told line u id deed)) ms (λ x. lines_after x (Told line u id deed) (lines x)) some follows.1
    (told_all (next_wish s) s line u id deed lines follows.0 all) (told_want (next_wish s) s line u id deed lines follows.0 all want)
moments_want s (Idle line ∷ ms) lines some follows all want = moments_want (after_moment s (Idle line)) ms lines some follows.1 all want

pub starts_want : (drives : ℕ → Option DriveKind) (tables : ℕ → Option Table) (surface : Surface) → AllWant (new_replay drives tables surface) (λ x. [])
starts_want drives tables surface x = tt
