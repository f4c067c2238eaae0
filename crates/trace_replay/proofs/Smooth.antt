-- A request whose sectors are all clean takes one transfer and at most one search.
use Rattle.std.proofs.Common.{◌≡◌, inl, inr, ℕ, zero, suc, ◌+◌, ◌-◌, ◌≤◌, ◌==◌, ◌&&◌, ◌||◌, Bool, true, false, not, List, [], ◌∷◌, ◌++◌, Option, Some, refl, sym, ap, subst, arith, drop}
use Rattle.std.specs.Prelude.{if◌then◌else◌}
use Rattle.std.proofs.lemmas.Option.{same_Some, none-some}
use Rattle.std.proofs.lemmas.Bool.Decides.{nat_tests, eqb_tells}
use Rattle.drive_registers.specs.Codes.{offset_field}
use Rattle.hardware_table.specs.declared.Moved.{Moved}
use Rattle.hardware_table.specs.declared.Moved.TheVariants as verdict
use Rattle.hardware_table.specs.Drive.{DriveState}
use Rattle.trace_replay.specs.requests.Requests.{Request, Answer, Failed, Offline, Locked, NoFrames, Rejection, AtEnd, rejection_answer}
use Rattle.trace_replay.specs.Moments.{Deed, Search, Seek, Recal, Offset, Centre, Clear, Pack, Transfer, Arrive, Sector, Intr, Try, Attn, End, Moment, Played, Told, Idle}
use Rattle.trace_replay.specs.Conversation.{Positioning, SearchFor, Recalibrate, SeekTo, OffsetBy, Segment, OwnBlocks, Replacement, Hand, is_write, start_of, length_of, transfer_of, command_of, needs_unlocked, guarded, due, Stage, Waiting, Steps, UnderWay, AtOnce, Moving, Saying, Ending, saying, continued, ok_answer, interrupted_by, stage_after, is_under_way, is_clean, last_of, sector_may, intr_may, progress_tried, Progress, not_begun, TalkMay, begun, progress_after, starts_at_once}
use Rattle.trace_replay.specs.History.{with_deed, lines_after, lines_behind}
use Rattle.pack_geometry.specs.declared.DriveKind.{DriveKind}
use Rattle.pack_geometry.specs.TableSpelling.{Table}
use Rattle.trace_replay.specs.requests.ServiceOrder.{Waiting as Waiter, put, Service, after_leave}
use Rattle.trace_replay.proofs.requests.ServiceOrderRuns.{newcomer, after_join-waiting}
use Rattle.trace_replay.specs.Script.{Input, Submit, ArriveAt, MoveAt, AttendTo, Drain}
use Rattle.trace_replay.specs.Drives.{drive_after, drive_played}
use Rattle.trace_replay.specs.Packs.{Surface}
use Rattle.trace_replay.specs.Service.{cylinder_of, first_waiting, head_of, in_hand, request_or_none, service_after, target_of}
use Rattle.trace_replay.specs.Events.{Wish, Refusal}
use Rattle.trace_replay.specs.Replay.{Replay, UnitSeen, new_replay, next_wish, hand_of, at_unit, LineMay, ToldMay, Follows, after_moment, after_moments, unit_after, bytes_of, told_after, replay_told, Submission, Refused, Joined, submission, submitted, stage_joined, unit_joined, replay_played}
use Rattle.trace_replay.specs.Causes.{AskSome, IsOk}
use Rattle.trace_replay.proofs.Histories.{Fits, AreSaid, guard_holds, or_zero, said_onto, MoveFits, Open, interrupted}
use Rattle.trace_replay.proofs.Unchanged.{drained_keeps}
use Rattle.trace_replay.specs.Bounds.{transfer_by, transfers_in, search_by, searches_in, IsCleanLine, AreClean, OneTransfer}
use Rattle.trace_replay.proofs.Kept.{UnitFits, UnitTold, HandOver, AllFit, told_all, played_all, after_kind, played_kind, end_kept, head_stays, refused_is, moments_all, no, starts}
use Rattle.trace_replay.proofs.Following.{follow_on}
use Rattle.pack_geometry.specs.Geometry.{sectors_of}
use Rattle.trace_replay.specs.Seek.{sector_before}

-- a segment of the request's own blocks
abbrev pub IsOwn : Segment → Type 0
IsOwn OwnBlocks = Unit {0}
IsOwn (Replacement block) = ⊥

abbrev pub search_step : Positioning → ℕ
search_step (SearchFor c y) = 1
search_step step = 0

abbrev pub to_come : List Positioning → ℕ
to_come [] = 0
to_come (step ∷ left) = search_step step + to_come left

pub record Early (segment : Segment) (left : List Positioning) (lines : List Deed) : Type 0 where
  pub own : IsOwn segment
  pub none : transfers_in lines ≡ 0
  pub few : searches_in lines + to_come left ≤ 1

pub record Once (lines : List Deed) : Type 0 where
  pub one : transfers_in lines ≡ 1
  pub few : searches_in lines ≤ 1

pub record MovesOnce (h : Hand) (segment : Segment) (left : ℕ) (lines : List Deed) : Type 0 where
  pub own : IsOwn segment
  pub once : Once lines
  pub whole : h.progress.done + left ≡ h.request.count

-- WHERE A REQUEST STANDS whose sectors were all clean
abbrev pub Smooth : Hand → Stage → List Deed → Type 0
Smooth h Waiting lines = Unit {0}
Smooth h (Steps left segment) lines = Early segment left lines
Smooth h (UnderWay left segment) lines = Early segment left lines
Smooth h (AtOnce segment) lines = ⊥
Smooth h (Moving segment left last) lines = MovesOnce h segment left lines
Smooth h (Saying rest next) lines = Smooth h next (said_onto rest lines)
Smooth h (Ending answer) lines = Once lines

-- a line that is neither a transfer nor a search
abbrev pub IsCheap : Deed → Type 0
IsCheap deed = (transfer_by deed ≡ 0) × (search_by deed ≡ 0)

early_more : (deed : Deed) (segment : Segment) (left : List Positioning) (lines : List Deed) → IsCheap deed → Early segment left lines → Early segment left (deed ∷ lines)
early_more deed segment left lines cheap e = record { own = e.own; none = omega (arith, cheap.0, e.none); few = omega (arith, cheap.1, e.few) }

once_more_line : (deed : Deed) (lines : List Deed) → IsCheap deed → Once lines → Once (deed ∷ lines)
once_more_line deed lines cheap o = record { one = omega (arith, cheap.0, o.one); few = omega (arith, cheap.1, o.few) }

abbrev pub AfterSmooth : DriveState → Hand → Option Request → Stage → List Deed → Deed → Type 0
AfterSmooth d h next stage lines (End answer) = Unit {0}
AfterSmooth d h next stage lines deed = AreClean (deed ∷ lines) → Smooth h (stage_after stage deed d h next) (deed ∷ lines)

transfer_smooth : (h : Hand) (segment : Segment) (lines : List Deed) → Open h segment 1 lines → Early segment [] lines
    → MovesOnce h segment (length_of segment h) (transfer_of segment h ∷ lines)
transfer_smooth h OwnBlocks lines o e = record {
  own = tt;
  once = record { one = omega (arith, e.none); few = omega (arith, e.few) };
  whole = omega (arith, o.room);
}
transfer_smooth h (Replacement block) lines o e = absurd e.own

step_smooth : (d' : DriveState) (h : Hand) (next : Option Request) (step : Positioning) (left : List Positioning) (segment : Segment) (lines : List Deed)
    → (AreClean lines → Early segment (step ∷ left) lines) → AfterSmooth d' h next (Steps (step ∷ left) segment) lines (command_of step)
step_smooth d' h next (SearchFor c y) left segment lines b = λ clean. at (b clean.1)
  where
    at : Early segment (SearchFor c y ∷ left) lines → Early segment left (Search c y ∷ lines)
    at e = record { own = e.own; none = omega (arith, e.none); few = omega (arith, e.few) }
step_smooth d' h next Recalibrate left segment lines b = λ clean. at (b clean.1)
  where
    at : Early segment (Recalibrate ∷ left) lines → Early segment left (Recal ∷ lines)
    at e = record { own = e.own; none = omega (arith, e.none); few = omega (arith, e.few) }
step_smooth d' h next (SeekTo c) left segment lines b = λ clean. at (b clean.1)
  where
    at : Early segment (SeekTo c ∷ left) lines → Early segment left (Seek c ∷ lines)
    at e = record { own = e.own; none = omega (arith, e.none); few = omega (arith, e.few) }
step_smooth d' h next (OffsetBy code) left segment lines b = λ clean. at (b clean.1)
  where
    at : Early segment (OffsetBy code ∷ left) lines → Early segment left (Offset code ∷ lines)
    at e = record { own = e.own; none = omega (arith, e.none); few = omega (arith, e.few) }

saying_smooth : (h : Hand) (rest : List Deed) (next : Stage) (lines : List Deed) → Smooth h next (said_onto rest lines) → Smooth h (saying rest next) lines
saying_smooth h [] next lines s = s
saying_smooth h (line ∷ rest) next lines s = s

line_smooth : (d' : DriveState) (h : Hand) (next : Option Request) (line : Deed) (rest : List Deed) (then_stage : Stage) (lines : List Deed)
    → AreSaid (line ∷ rest) → (AreClean lines → Smooth h then_stage (said_onto rest (line ∷ lines))) → AfterSmooth d' h next (Saying (line ∷ rest) then_stage) lines line
line_smooth d' h next Clear rest then_stage lines a b = λ clean. saying_smooth h rest then_stage (Clear ∷ lines) (b clean.1)
line_smooth d' h next Centre rest then_stage lines a b = λ clean. saying_smooth h rest then_stage (Centre ∷ lines) (b clean.1)
line_smooth d' h next (Try k t) rest then_stage lines a b = λ clean. saying_smooth h rest then_stage (Try k t ∷ lines) (b clean.1)
line_smooth d' h next line rest then_stage lines a b = absurd a

due_smooth : (d d' : DriveState) (h : Hand) (next : Option Request) (stage : Stage) (deed : Deed) (lines : List Deed)
    → due d h stage ≡ Some deed → Fits h stage lines → (AreClean lines → Smooth h stage lines) → AfterSmooth d' h next stage lines deed
due_smooth d d' h next Waiting deed lines is f b = absurd (none-some deed is)
due_smooth d d' h next (Steps [] segment) deed lines is f b =
    guard_holds (AfterSmooth d' h next (Steps [] segment) lines) d.online (is_write h && d.locked) d.valid h.progress.done (transfer_of segment h) deed
    (same_Some (guarded d h (transfer_of segment h)) deed is) tt tt (λ clean. early_more Pack segment [] lines (refl, refl) (b clean.1))
    (λ clean. transfer_smooth h segment lines f (b clean.1))
due_smooth d d' h next (Steps (step ∷ left) segment) deed lines is f b =
    guard_holds (AfterSmooth d' h next (Steps (step ∷ left) segment) lines) d.online (needs_unlocked (command_of step) && d.locked) d.valid h.progress.done (command_of step) deed
    (same_Some (guarded d h (command_of step)) deed is) tt tt (λ clean. early_more Pack segment (step ∷ left) lines (refl, refl) (b clean.1))
    (step_smooth d' h next step left segment lines b)
due_smooth d d' h next (UnderWay left segment) deed lines is f b = absurd (none-some deed is)
due_smooth d d' h next (AtOnce segment) deed lines is f b =
    guard_holds (AfterSmooth d' h next (AtOnce segment) lines) d.online (is_write h && d.locked) d.valid h.progress.done (transfer_of segment h) deed
    (same_Some (guarded d h (transfer_of segment h)) deed is) tt tt (λ clean. absurd (b clean.1)) (λ clean. absurd (b clean.1))
due_smooth d d' h next (Moving segment left last) deed lines is f b = absurd (none-some deed is)
due_smooth d d' h next (Saying [] then_stage) deed lines is f b = absurd (none-some deed is)
due_smooth d d' h next (Saying (line ∷ rest) then_stage) deed lines is f b =
    subst (AfterSmooth d' h next (Saying (line ∷ rest) then_stage) lines) (same_Some line deed is) (line_smooth d' h next line rest then_stage lines f.0 b)
due_smooth d d' h next (Ending answer) deed lines is f b = subst (AfterSmooth d' h next (Ending answer) lines) (same_Some (End answer) deed is) tt

arrive_smooth : (h : Hand) (stage : Stage) (lines : List Deed) → is_under_way stage ≡ true → (AreClean lines → Smooth h stage lines) → AreClean (Arrive ∷ lines) → Smooth h stage (Arrive ∷ lines)
arrive_smooth h (UnderWay left segment) lines is b clean = early_more Arrive segment left lines (refl, refl) (b clean.1)
arrive_smooth h Waiting lines is b clean = tt
arrive_smooth h other lines is b clean = absurd (no is)

attn_smooth : (d : DriveState) (h : Hand) (next : Option Request) (stage : Stage) (lines : List Deed) → is_under_way stage ≡ true → (AreClean lines → Smooth h stage lines)
    → AreClean (Attn ∷ lines) → Smooth h (stage_after stage Attn d h next) (Attn ∷ lines)
attn_smooth d h next (UnderWay left segment) lines is b clean = early_more Attn segment left lines (refl, refl) (b clean.1)
attn_smooth d h next other lines is b clean = absurd (no is)

clean_moved : (h : Hand) (bytes : List ℕ) (segment : Segment) (n block : ℕ) (lines : List Deed) → MovesOnce h segment (suc n) lines
    → MovesOnce (record h { progress = progress_tried verdict.Clean bytes h.progress }) segment (suc n - 1) (Sector block verdict.Clean ∷ lines)
clean_moved h bytes segment n block lines m = record { own = m.own; once = once_more_line (Sector block verdict.Clean) lines (refl, refl) m.once; whole = omega (arith, m.whole) }

sector_smooth : (h : Hand) (bytes : List ℕ) (stage : Stage) (block : ℕ) (v : Moved) (d : DriveState) (next : Option Request) (lines : List Deed)
    → sector_may h stage block ≡ true → (AreClean lines → Smooth h stage lines) → AreClean (Sector block v ∷ lines)
    → Smooth (record h { progress = progress_tried v bytes h.progress })
    (stage_after stage (Sector block v) d (record h { progress = progress_tried v bytes h.progress }) next) (Sector block v ∷ lines)
sector_smooth h bytes (Moving segment (suc n) verdict.Clean) block verdict.Clean d next lines is b clean = clean_moved h bytes segment n block lines (b clean.1)
sector_smooth h bytes (Moving segment (suc n) verdict.Clean) block (verdict.Burst at q) d next lines is b clean = absurd clean.0
sector_smooth h bytes (Moving segment (suc n) verdict.Clean) block verdict.Hard d next lines is b clean = absurd clean.0
sector_smooth h bytes (Moving segment (suc n) verdict.Clean) block verdict.Marked d next lines is b clean = absurd clean.0
sector_smooth h bytes (Moving segment (suc n) verdict.Clean) block (verdict.Faulted k) d next lines is b clean = absurd clean.0
sector_smooth h bytes (Moving segment (suc n) verdict.Clean) block verdict.Offline d next lines is b clean = absurd clean.0
sector_smooth h bytes (Moving segment zero verdict.Clean) block v d next lines is b clean = absurd (no is)
sector_smooth h bytes (Moving segment left (verdict.Burst at q)) block w d next lines is b clean = absurd (no is)
sector_smooth h bytes (Moving segment left verdict.Hard) block w d next lines is b clean = absurd (no is)
sector_smooth h bytes (Moving segment left verdict.Marked) block w d next lines is b clean = absurd (no is)
sector_smooth h bytes (Moving segment left (verdict.Faulted k)) block w d next lines is b clean = absurd (no is)
sector_smooth h bytes (Moving segment left verdict.Offline) block w d next lines is b clean = absurd (no is)
sector_smooth h bytes Waiting block v d next lines is b clean = absurd (no is)
sector_smooth h bytes (Steps left segment) block v d next lines is b clean = absurd (no is)
sector_smooth h bytes (UnderWay left segment) block v d next lines is b clean = absurd (no is)
sector_smooth h bytes (AtOnce segment) block v d next lines is b clean = absurd (no is)
sector_smooth h bytes (Saying rest then_stage) block v d next lines is b clean = absurd (no is)
sector_smooth h bytes (Ending answer) block v d next lines is b clean = absurd (no is)

ended_once : (b : Bool) (h : Hand) (lines : List Deed) → h.progress.done == h.request.count ≡ b → h.progress.done ≡ h.request.count → Once lines
    → Smooth h (if b then Ending (ok_answer h) else AtOnce OwnBlocks) lines
ended_once true h lines is whole o = o
ended_once false h lines is whole o = absurd (unequal h.progress.done h.request.count is whole)
  where
    unequal : (a c : ℕ) → a == c ≡ false → a ≡ c → ⊥
    unequal a c h e = grind (arith, nat_tests)

clean_ended : (b : Bool) (h : Hand) (lines : List Deed) → h.progress.done ≡ h.request.count → Once lines
    → Smooth h (saying (([] ++ (if b then [] else Centre ∷ [])) ++ []) (continued h)) (Intr ∷ lines)
clean_ended true h lines whole o = ended_once (h.progress.done == h.request.count) h (Intr ∷ lines) refl whole (once_more_line Intr lines (refl, refl) o)
clean_ended false h lines whole o =
    ended_once (h.progress.done == h.request.count) h (Centre ∷ Intr ∷ lines) refl whole (once_more_line Centre (Intr ∷ lines) (refl, refl) (once_more_line Intr lines (refl, refl) o))

none_left : (a c : ℕ) → a + 0 ≡ c → a ≡ c
none_left a c h = omega arith

unclean : (start : ℕ) (v : Moved) (before lines : List Deed) → lines ≡ Sector start v ∷ before → (IsCleanLine (Sector start v) → ⊥) → AreClean lines → ⊥
unclean start v before lines is never clean = never (subst AreClean is clean).0

intr_smooth : (d : DriveState) (h : Hand) (segment : Segment) (left : ℕ) (v : Moved) (lines : List Deed) → (left == 0) || not (is_clean v) ≡ true → MoveFits h segment left v lines
    → (AreClean lines → MovesOnce h segment left lines) → AreClean (Intr ∷ lines) → Smooth (interrupted h v) (interrupted_by v d (interrupted h v) segment) (Intr ∷ lines)
intr_smooth d h segment zero verdict.Clean lines is f b clean =
    clean_ended (offset_field d.offset == 0) h lines (none_left h.progress.done h.request.count (b clean.1).whole) (b clean.1).once
intr_smooth d h segment (suc n) verdict.Clean lines is f b clean = absurd (omega (arith, or_zero (suc n) is))
intr_smooth d h segment left (verdict.Burst at q) lines is f b clean = absurd (unclean (start_of segment h) (verdict.Burst at q) f.before lines f.is (λ c. c) clean.1)
intr_smooth d h segment left verdict.Hard lines is f b clean = absurd (unclean (start_of segment h) verdict.Hard f.before lines f.is (λ c. c) clean.1)
intr_smooth d h segment left verdict.Marked lines is f b clean = absurd (unclean (start_of segment h) verdict.Marked f.before lines f.is (λ c. c) clean.1)
intr_smooth d h segment left (verdict.Faulted k) lines is f b clean = absurd (unclean (start_of segment h) (verdict.Faulted k) f.before lines f.is (λ c. c) clean.1)
intr_smooth d h segment left verdict.Offline lines is f b clean = absurd (unclean (start_of segment h) verdict.Offline f.before lines f.is (λ c. c) clean.1)

pub intr_stage : (d : DriveState) (h : Hand) (next : Option Request) (stage : Stage) (lines : List Deed) → intr_may stage ≡ true → Fits h stage lines
    → (AreClean lines → Smooth h stage lines) → AreClean (Intr ∷ lines) → Smooth (interrupted h (last_of stage)) (stage_after stage Intr d (interrupted h (last_of stage)) next) (Intr ∷ lines)
intr_stage d h next (Moving segment left last) lines is f b clean = intr_smooth d h segment left last lines is f b clean
intr_stage d h next other lines is f b clean = absurd (no is)

-- ---- a unit
abbrev pub UnitSmooth : UnitSeen → List Deed → Type 0
UnitSmooth u lines = AreClean lines → Smooth (hand_of u) u.stage lines

smooth_with : (u : UnitSeen) (deed : Deed) (d : DriveState) (p : Progress) (lines : List Deed) → d.kind ≡ u.drive.kind
    → (AreClean (deed ∷ lines) → Smooth (record (hand_of u) { progress = p }) (stage_after u.stage deed d (record (hand_of u) { progress = p }) (head_of u.service)) (deed ∷ lines))
    → UnitSmooth (UnitTold u deed d p u.service) (deed ∷ lines)
smooth_with u deed d p lines is b =
    λ clean. subst (λ k. Smooth (record (hand_of u) { kind = k; progress = p }) (stage_after u.stage deed d (record (hand_of u) { progress = p }) (head_of u.service)) (deed ∷ lines)) (sym is) (b clean)

few_steps : (b : Bool) (c y : ℕ) → 0 + to_come (if b then [] else SearchFor c y ∷ []) ≤ 1
few_steps true c y = omega arith
few_steps false c y = omega arith

begun_smooth : (kind : DriveKind) (d : DriveState) (p : Progress) (table : Option Table) (waiting : List (Waiter Request))
    → Smooth (record { kind = kind; request = request_or_none (first_waiting waiting); progress = p; table = table }) (begun d (first_waiting waiting)) []
begun_smooth kind d p table [] = tt
begun_smooth kind d p table (w ∷ rest) = record { own = tt; none = refl; few = few_steps (starts_at_once d (target_of d.kind w.request)) (target_of d.kind w.request).cylinder (sector_before (sectors_of d.kind) 3 (target_of d.kind w.request).sector) }

told_smooth : (u : UnitSeen) (deed : Deed) (d : DriveState) (bytes : List ℕ) (lines : List Deed) → d.kind ≡ u.drive.kind → UnitFits u lines → UnitSmooth u lines
    → TalkMay u.drive (hand_of u) u.stage deed
    → UnitSmooth (UnitTold u deed d (progress_after u.stage deed bytes u.progress) (service_after u.service deed)) (with_deed deed lines)
told_smooth u Arrive d bytes lines is f b may = smooth_with u Arrive d u.progress lines is (arrive_smooth (hand_of u) u.stage lines may b)
told_smooth u (Sector k v) d bytes lines is f b may =
    smooth_with u (Sector k v) d (progress_after u.stage (Sector k v) bytes u.progress) lines is (sector_smooth (hand_of u) bytes u.stage k v d (head_of u.service) lines may b)
told_smooth u Intr d bytes lines is f b may =
    smooth_with u Intr d (progress_after u.stage Intr bytes u.progress) lines is (intr_stage d (hand_of u) (head_of u.service) u.stage lines may f.fits b)
told_smooth u Attn d bytes lines is f b may = smooth_with u Attn d u.progress lines is (attn_smooth d (hand_of u) (head_of u.service) u.stage lines may b)
told_smooth u (End answer) d bytes lines is f b may =
    subst (λ z. UnitSmooth (UnitTold u (End answer) d not_begun (after_leave u.service)) (if z then lines else [])) (sym (end_kept u.drive (hand_of u) u.stage (End answer) lines may f.fits))
    (λ clean. begun_smooth d.kind d not_begun u.table (drop 1 u.service.waiting))
told_smooth u other d bytes lines is f b may = smooth_with u other d u.progress lines is (due_smooth u.drive d (hand_of u) (head_of u.service) u.stage other lines may f.fits b)

joined_at : (stage : Stage) (d : DriveState) (service : Service Request) (p : Progress) (table : Option Table) (r : Request) (lines : List Deed)
    → UnitFits (record { drive = d; service = service; stage = stage; progress = p; table = table }) lines
    → UnitSmooth (record { drive = d; service = service; stage = stage; progress = p; table = table }) lines → AreClean lines
    → Smooth (HandOver d.kind p table (put (newcomer (cylinder_of d.kind) r service.joined service.waiting) service.waiting)) (stage_joined stage d r) lines
joined_at Waiting d service p table r lines f b clean =
    subst (λ z. Smooth (HandOver d.kind p table (put (newcomer (cylinder_of d.kind) r service.joined z) z)) (begun d (Some r)) lines) (sym (f.empty refl))
    (subst (λ z. Smooth (HandOver d.kind p table (newcomer (cylinder_of d.kind) r service.joined [] ∷ [])) (begun d (Some r)) z) (sym f.fits)
    (begun_smooth d.kind d p table (newcomer (cylinder_of d.kind) r service.joined [] ∷ [])))
joined_at other d service p table r lines f b clean =
    subst (λ z. Smooth (record { kind = d.kind; request = request_or_none z; progress = p; table = table }) other lines)
    (sym (head_stays (cylinder_of d.kind) r service.joined service.waiting f.order (f.held refl))) (b clean)

joined_smooth : (u : UnitSeen) (r : Request) (lines : List Deed) → UnitFits u lines → UnitSmooth u lines → UnitSmooth (unit_joined u r) lines
joined_smooth u r lines f b = λ clean. subst (λ z. Smooth (HandOver u.drive.kind u.progress u.table z) (stage_joined u.stage u.drive r) lines)
    (sym (after_join-waiting (cylinder_of u.drive.kind) r u.service f.order)) (joined_at u.stage u.drive u.service u.progress u.table r lines f b clean)

-- ---- all units
abbrev pub AllSmooth : Replay → (ℕ → List Deed) → Type 0
AllSmooth s lines = (x : ℕ) → UnitSmooth (s.units x) (lines x)

line_smooths : (s : Replay) (line unit id : ℕ) (deed : Deed) (lines : ℕ → List Deed) → LineMay s line unit id deed → AllFit s lines → AllSmooth s lines
    → AllSmooth (replay_told s unit deed (unit_after s unit deed)) (λ x. lines_after x (Told line unit id deed) (lines x))
line_smooths s line unit id deed lines may all smooth x = elim (eqb_tells x unit) [
  | inl same ↦ rw same.0 (subst (λ z. UnitSmooth (unit_after s unit deed) (with_deed deed (lines z))) (sym same.1)
      (told_smooth (s.units unit) deed (drive_after (s.units unit).drive (at_unit s unit).state (target_of (s.units unit).drive.kind (in_hand (s.units unit).service)) deed) (bytes_of s unit deed) (lines unit)
      (after_kind (s.units unit).drive (at_unit s unit).state (target_of (s.units unit).drive.kind (in_hand (s.units unit).service)) deed) (all unit) (smooth unit) may.talk))
  | inr other ↦ rw other.0 (smooth x)
]

refusal_smooth : (s : Replay) (line unit id : ℕ) (why : Rejection) (lines : ℕ → List Deed) → AllSmooth s lines
    → AllSmooth s (λ x. lines_after x (Told line unit id (End (rejection_answer why))) (lines x))
refusal_smooth s line unit id why lines all x = at (x == unit)
  where
    at : (b : Bool) → UnitSmooth (s.units x) (if b then with_deed (End (rejection_answer why)) (lines x) else lines x)
    at true = subst (λ z. UnitSmooth (s.units x) (if z then lines x else [])) (sym (refused_is why)) (all x)
    at false = all x

told_smooths : (wish : Wish) (s : Replay) (line unit id : ℕ) (deed : Deed) (lines : ℕ → List Deed) → ToldMay wish s line unit id deed → AllFit s lines → AllSmooth s lines
    → AllSmooth (told_after wish s unit deed) (λ x. lines_after x (Told line unit id deed) (lines x))
told_smooths (Refusal u i why) s line unit id deed lines may all smooth =
    subst (λ z. AllSmooth (told_after (Refusal u i why) s unit deed) (λ x. lines_after x (Told line unit id z) (lines x))) (sym may.answered) (refusal_smooth s line unit id why lines smooth)
told_smooths other s line unit id deed lines may all smooth =
    drained_keeps (λ t. AllSmooth t (λ x. lines_after x (Told line unit id deed) (lines x))) (replay_told s unit deed (unit_after s unit deed))
    (λ event. line_smooths s line unit id deed lines may all smooth)

submitted_smooth : (s : Replay) (r : Request) (met : Submission) (lines : ℕ → List Deed) → AllFit s lines → AllSmooth s lines → AllSmooth (submitted s r met) lines
submitted_smooth s r (Refused why) lines all smooth = smooth
submitted_smooth s r Joined lines all smooth = λ x. elim (eqb_tells x r.unit) [
  | inl same ↦ rw same.0 (subst (λ z. UnitSmooth (unit_joined (s.units r.unit) r) (lines z)) (sym same.1) (joined_smooth (s.units r.unit) r (lines r.unit) (all r.unit) (smooth r.unit)))
  | inr other ↦ rw other.0 (smooth x)
]

other_drive : (u : UnitSeen) (d : DriveState) (lines : List Deed) → d.kind ≡ u.drive.kind → UnitSmooth u lines → UnitSmooth (record u { drive = d }) lines
other_drive u d lines is b = λ clean. subst (λ k. Smooth (record (hand_of u) { kind = k }) u.stage lines) (sym is) (b clean)

played_smooth : (s : Replay) (input : Input) (lines : ℕ → List Deed) → AllFit s lines → AllSmooth s lines → AllSmooth (replay_played s input) lines
played_smooth s (Submit r) lines all smooth = submitted_smooth s r (submission s r) lines all smooth
played_smooth s (ArriveAt u) lines all smooth = smooth
played_smooth s (MoveAt a) lines all smooth = smooth
played_smooth s (AttendTo a) lines all smooth = smooth
played_smooth s Drain lines all smooth = smooth
played_smooth s other lines all smooth = λ x. other_drive (s.units x) (drive_played x (s.units x).drive other) (lines x) (played_kind x (s.units x).drive other) (smooth x)

moments_smooth : (s : Replay) (ms : List Moment) (lines : ℕ → List Deed) → AskSome ms → Follows s ms → AllFit s lines → AllSmooth s lines
    → AllSmooth (after_moments s ms) (λ x. lines_behind x (lines x) ms)
moments_smooth s [] lines some follows all smooth = smooth
moments_smooth s (Played line input ∷ ms) lines some follows all smooth =
    moments_smooth (after_moment s (Played line input)) ms lines some.1 follows.1 (played_all s input lines some.0 all) (played_smooth s input lines all smooth)
moments_smooth s (Told line unit id deed ∷ ms) lines some follows all smooth =
    moments_smooth (after_moment s (Told line unit id deed)) ms (λ x. lines_after x (Told line unit id deed) (lines x)) some follows.1
    (told_all (next_wish s) s line unit id deed lines follows.0 all) (told_smooths (next_wish s) s line unit id deed lines follows.0 all smooth)
moments_smooth s (Idle line ∷ ms) lines some follows all smooth = moments_smooth (after_moment s (Idle line)) ms lines some follows.1 all smooth

-- ---- the end

end_answer : Deed → Answer
end_answer (End answer) = answer
end_answer deed = NoFrames

ok_in_place : (online locking valid : Bool) (done : ℕ) (command : Deed) (answer : Answer) → IsOk answer → IsOk (end_answer (if not online then End (Failed Offline done) else if locking then End (Failed Locked done) else if not valid then Pack else command)) → IsOk (end_answer command)
unfolding end_answer
ok_in_place false locking valid done command answer ok is = absurd is
ok_in_place true true valid done command answer ok is = absurd is
ok_in_place true false false done command answer ok is = absurd is
ok_in_place true false true done command answer ok is = is

step_no_end : (step : Positioning) → IsOk (end_answer (command_of step)) → ⊥
unfolding end_answer
step_no_end (SearchFor c y) ok = ok
step_no_end other ok = ok

line_no_end : (line : Deed) (rest : List Deed) → AreSaid (line ∷ rest) → IsOk (end_answer line) → ⊥
unfolding end_answer
line_no_end Clear rest a ok = ok
line_no_end Centre rest a ok = ok
line_no_end (Try k t) rest a ok = ok
line_no_end line rest a ok = a

once_at : (d : DriveState) (h : Hand) (stage : Stage) (lines : List Deed) (answer : Answer) → IsOk answer → due d h stage ≡ Some (End answer) → Fits h stage lines → Smooth h stage lines → Once lines
unfolding end_answer
once_at d h Waiting lines answer ok is f b = absurd (none-some (End answer) is)
once_at d h (Steps [] segment) lines answer ok is f b =
    absurd (ok_in_place d.online (is_write h && d.locked) d.valid h.progress.done (transfer_of segment h) answer ok
    (subst (λ z. IsOk (end_answer z)) (sym (same_Some (guarded d h (transfer_of segment h)) (End answer) is)) ok))
once_at d h (Steps (step ∷ left) segment) lines answer ok is f b =
    absurd (step_no_end step (ok_in_place d.online (needs_unlocked (command_of step) && d.locked) d.valid h.progress.done (command_of step) answer ok
    (subst (λ z. IsOk (end_answer z)) (sym (same_Some (guarded d h (command_of step)) (End answer) is)) ok)))
once_at d h (UnderWay left segment) lines answer ok is f b = absurd (none-some (End answer) is)
once_at d h (AtOnce segment) lines answer ok is f b = absurd b
once_at d h (Moving segment left last) lines answer ok is f b = absurd (none-some (End answer) is)
once_at d h (Saying [] next) lines answer ok is f b = absurd (none-some (End answer) is)
once_at d h (Saying (line ∷ rest) next) lines answer ok is f b =
    absurd (line_no_end line rest f.0 (subst (λ z. IsOk (end_answer z)) (sym (same_Some line (End answer) is)) ok))
once_at d h (Ending other) lines answer ok is f b = b

refused_no_ok : (why : Rejection) → IsOk (rejection_answer why) → ⊥
refused_no_ok AtEnd ok = ok
refused_no_ok other ok = ok

once_told : (wish : Wish) (s : Replay) (line unit id : ℕ) (answer : Answer) (lines : List Deed) → ToldMay wish s line unit id (End answer) → IsOk answer → UnitFits (s.units unit) lines
    → UnitSmooth (s.units unit) lines → AreClean lines → Once lines
unfolding end_answer
once_told (Refusal u i why) s line unit id answer lines may ok f b clean = absurd (refused_no_ok why (subst IsOk (ap end_answer may.answered) ok))
once_told other s line unit id answer lines may ok f b clean = once_at (s.units unit).drive (hand_of (s.units unit)) (s.units unit).stage lines answer ok may.talk f.fits (b clean)

starts_smooth : (drives : ℕ → Option DriveKind) (tables : ℕ → Option Table) (surface : Surface) → AllSmooth (new_replay drives tables surface) (λ x. [])
starts_smooth drives tables surface x = λ clean. tt

pub one_transfer : OneTransfer
one_transfer drives tables surface ms line unit id answer some follows ok clean = (once.one, once.few)
  where
    parts : Follows (new_replay drives tables surface) ms × Follows (after_moments (new_replay drives tables surface) ms) (Told line unit id (End answer) ∷ [])
    parts = (follow_on (new_replay drives tables surface) ms (Told line unit id (End answer) ∷ [])).0 follows

    once : Once (lines_behind unit [] ms)
    once = once_told (next_wish (after_moments (new_replay drives tables surface) ms)) (after_moments (new_replay drives tables surface) ms) line unit id answer (lines_behind unit [] ms) parts.1.0 ok
        (moments_all (new_replay drives tables surface) ms (λ x. []) some parts.0 (starts drives tables surface) unit)
        (moments_smooth (new_replay drives tables surface) ms (λ x. []) some parts.0 (starts drives tables surface) (starts_smooth drives tables surface) unit) clean
