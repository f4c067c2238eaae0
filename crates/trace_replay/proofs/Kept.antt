-- The lines of each unit's request agree with where it stands, whatever comes.
use Rattle.std.proofs.Common.{◌≡◌, ◌⊎◌, inl, inr, ℕ, ◌≤◌, ◌==◌, ◌&&◌, Bool, true, false, List, [], ◌∷◌, drop, Option, Some, refl, sym, ap, subst, arith}
use Rattle.std.specs.Prelude.{if◌then◌else◌}
use Rattle.std.specs.List.{AllByRecursion}
use Rattle.std.proofs.lemmas.Option.{same_Some, none-some}
use Rattle.std.proofs.lemmas.Bool.{cond-true}
use Rattle.std.proofs.lemmas.Bool.Decides.{nat_tests, eqb_tells}
pub use Rattle.std.proofs.lemmas.Bool.{false≢true as no}
use Rattle.pack_geometry.specs.declared.DriveKind.{DriveKind}
use Rattle.pack_geometry.specs.declared.DriveKind.TheVariants.{Rp06, Rm03, Rm05}
use Rattle.pack_geometry.specs.TableSpelling.{Table}
use Rattle.drive_registers.specs.declared.Function.{Function}
use Rattle.drive_registers.specs.declared.Function.TheVariants as function
use Rattle.hardware_table.specs.declared.FaultKind.TheVariants as fault
use Rattle.drive_registers.specs.Codes.{function_code, offset_code}
use Rattle.hardware_table.specs.declared.Moved.{Moved}
use Rattle.hardware_table.specs.declared.Moved.TheVariants as verdict
use Rattle.hardware_table.specs.declared.Work.{Work}
use Rattle.hardware_table.specs.declared.Work.TheVariants as work
use Rattle.hardware_table.specs.Drive.{DriveState, with_register}
use Rattle.hardware_table.specs.Adapter.{AdapterState, drive_stepped, stepped, next_block}
use Rattle.hardware_table.specs.Events.{arrived_from, transfer_ended, turned, fault_armed, online_set, locked_set}
use Rattle.hardware_table.specs.Functions.{performed, refusals, effect, refused}
use Rattle.hardware_table.specs.Moves.{after_move}
use Rattle.trace_replay.specs.requests.ServiceOrder.{Waiting as Waiter, is_before, put, Service, after_leave}
use Rattle.trace_replay.proofs.requests.ServiceOrderRuns.{IsService, IsPlaced, empty-is, newcomer, after_join-waiting, after_join-is, after_leave-is, each-put}
use Rattle.trace_replay.specs.requests.Requests.{Request, Answer, OutsidePartition, EndOfPartition, NoFrames, Rejection, AtEnd, rejection_answer}
use Rattle.trace_replay.specs.Script.{Input, Submit, ArriveAt, MoveAt, AttendTo, Drain, Turn, Noise, Arm, SetOnline, SetLocked}
use Rattle.trace_replay.specs.Moments.{Deed, Search, Seek, Recal, Offset, Centre, Clear, Pack, Transfer, Arrive, Sector, Intr, Try, Attn, End, Moment, Played, Told, Idle}
use Rattle.hardware_table.specs.declared.Register.TheVariants as register
use Rattle.pack_geometry.specs.Geometry.{place_at}
use Rattle.trace_replay.specs.Drives.{drive_after, drive_played, addressed, search_place, offset_written}
use Rattle.trace_replay.specs.Packs.{Surface}
use Rattle.pack_geometry.specs.declared.Place.{Place}
use Rattle.trace_replay.specs.Service.{cylinder_of, first_waiting, head_of, in_hand, request_or_none, ids, service_after, service_joined, target_of}
use Rattle.trace_replay.specs.Conversation.{Hand, Stage, Waiting, Steps, UnderWay, AtOnce, Moving, Saying, Ending, Progress, not_begun, TalkMay, begun, due, guarded, transfer_of, command_of, needs_unlocked, is_write, is_waiting, progress_after, stage_after, Positioning, SearchFor}
use Rattle.trace_replay.specs.Events.{Wish, Refusal}
use Rattle.trace_replay.specs.Replay.{Replay, UnitSeen, new_replay, with_state, next_wish, hand_of, at_unit, LineMay, ToldMay, Follows, after_moment, after_moments, unit_after, bytes_of, told_after, replay_told, Submission, Refused, Joined, submission, submitted, stage_joined, unit_joined, replay_played}
use Rattle.trace_replay.specs.History.{is_refusal, with_deed, lines_after, lines_behind}
use Rattle.trace_replay.specs.Causes.{AsksSome, AskSome}
use Rattle.trace_replay.proofs.Histories.{EndFits, Fits, AreSaid, due_fits, arrive_fits, attn_fits, sector_fits, intr_fits, guard_holds}
use Rattle.trace_replay.proofs.Unchanged.{drained_keeps}

-- ---- a drive's kind stays
kind_of_either : (b : Bool) (x y : DriveState) (kind : DriveKind) → x.kind ≡ kind → y.kind ≡ kind → (if b then x else y).kind ≡ kind
kind_of_either true x y kind a b = a
kind_of_either false x y kind a b = b

pub effect_kind : (f : Function) (d : DriveState) → (effect f d).kind ≡ d.kind
effect_kind function.Nop d = refl
effect_kind other d = refl

pub performed_kind : (f : Function) (d : DriveState) → (performed f d).kind ≡ d.kind
performed_kind f d =
    kind_of_either (refusals f d == 0) (effect f (record d { cs1 = (function_code f) })) (refused (refusals f d) (record d { cs1 = (function_code f) })) d.kind
    (effect_kind f (record d { cs1 = function_code f })) refl

pub arrived_kind : (w : Work) (d : DriveState) → (arrived_from w d).kind ≡ d.kind
arrived_kind work.Ready d = refl
arrived_kind other d = refl

marked_kind : (kind : DriveKind) (v : Moved) (block : ℕ) (d : DriveState) → d.kind ≡ kind → (after_move v block d).kind ≡ d.kind
marked_kind kind verdict.Clean block d is = refl
marked_kind kind (verdict.Burst at q) block d is = refl
marked_kind kind verdict.Hard block d is = refl
marked_kind kind (verdict.Faulted fault.Seek) block d is = refl
marked_kind kind (verdict.Faulted fault.Opi) block d is = refl
marked_kind kind (verdict.Faulted fault.Dte) block d is = refl
marked_kind kind (verdict.Faulted fault.Hcrc) block d is = refl
marked_kind kind (verdict.Faulted fault.Late) block d is = refl
marked_kind Rp06 verdict.Marked block d is = rw is refl
marked_kind Rm03 verdict.Marked block d is = rw is refl
marked_kind Rm05 verdict.Marked block d is = rw is refl
marked_kind kind verdict.Offline block d is = refl

pub stepped_kind : (v : Moved) (a : AdapterState) (d : DriveState) → (drive_stepped v a d).kind ≡ d.kind
stepped_kind v a d =
    kind_of_either (stepped v a).completion (transfer_ended (after_move v (next_block a) d)) (after_move v (next_block a) d) d.kind
    (marked_kind d.kind v (next_block a) d refl) (marked_kind d.kind v (next_block a) d refl)

transfer_kind : (write : Bool) (d : DriveState) → (performed (if write then function.Write else function.Read) d).kind ≡ d.kind
transfer_kind true d = performed_kind function.Write d
transfer_kind false d = performed_kind function.Read d

pub after_kind : (d : DriveState) (a : AdapterState) (target : Place) (deed : Deed) → (drive_after d a target deed).kind ≡ d.kind
after_kind d a target (Search c y) = performed_kind function.Search (addressed (search_place c y target) d)
after_kind d a target (Seek c) = performed_kind function.Seek (with_register register.Dc c d)
after_kind d a target Recal = performed_kind function.Recal d
after_kind d a target (Offset o) = performed_kind function.Offset (offset_written (offset_code o) d)
after_kind d a target Centre = performed_kind function.Centre d
after_kind d a target Clear = performed_kind function.Clear d
after_kind d a target Pack = performed_kind function.Pack d
after_kind d a target (Transfer w b k) = transfer_kind w (addressed (place_at d.kind b) d)
after_kind d a target Arrive = arrived_kind d.work d
after_kind d a target (Sector b v) = stepped_kind v a d
after_kind d a target other = refl

pub online_kind : (on : Bool) (d : DriveState) → (online_set on d).kind ≡ d.kind
online_kind true d = refl
online_kind false d = refl

pub played_kind : (unit : ℕ) (d : DriveState) (input : Input) → (drive_played unit d input).kind ≡ d.kind
played_kind unit d (Turn u sector) = kind_of_either (unit == u) (turned sector d) d d.kind refl refl
played_kind unit d (Arm u k n) = kind_of_either (unit == u) (fault_armed k n d) d d.kind refl refl
played_kind unit d (SetOnline u on) = kind_of_either (unit == u) (online_set on d) d d.kind (online_kind on d) refl
played_kind unit d (SetLocked u on) = kind_of_either (unit == u) (locked_set on d) d d.kind refl refl
played_kind unit d other = refl

-- ---- a unit and the lines of its request
abbrev pub AskSomeBlocks : List (Waiter Request) → Type 0
AskSomeBlocks waiting = AllByRecursion (λ (w : Waiter Request). 1 ≤ w.request.count) waiting

abbrev pub IsHeld : List (Waiter Request) → Type 0
IsHeld [] = ⊥
IsHeld (w ∷ rest) = Unit {0}

pub record UnitFits (u : UnitSeen) (lines : List Deed) : Type 0 where
  pub fits : Fits (hand_of u) u.stage lines
  pub order : IsService (cylinder_of u.drive.kind) u.service
  pub some : AskSomeBlocks u.service.waiting
  pub empty : is_waiting u.stage ≡ true → u.service.waiting ≡ []
  pub held : is_waiting u.stage ≡ false → IsHeld u.service.waiting
  pub fresh : (u.progress ≡ not_begun) ⊎ (is_waiting u.stage ≡ false)

-- only the drive's kind is asked
with_drive : (u : UnitSeen) (d : DriveState) (lines : List Deed) → d.kind ≡ u.drive.kind → UnitFits u lines → UnitFits (record u { drive = d }) lines
with_drive u d lines is f = record {
  fits = subst (λ k. Fits (record (hand_of u) { kind = k }) u.stage lines) (sym is) f.fits;
  order = subst (λ k. IsService (cylinder_of k) u.service) (sym is) f.order;
  some = f.some;
  empty = f.empty;
  held = f.held;
  fresh = f.fresh;
}

not_waiting : (h : Hand) (stage : Stage) (deed : Deed) (lines : List Deed) → Fits h stage (deed ∷ lines) → is_waiting stage ≡ false
not_waiting h Waiting deed lines f = absurd (grind (arith, f))
not_waiting h other deed lines f = refl

never_waiting : (h : Hand) (stage : Stage) (deed : Deed) (lines : List Deed) → Fits h stage (deed ∷ lines) → is_waiting stage ≡ true → ⊥
never_waiting h Waiting deed lines f is = grind (arith, f)
never_waiting h other deed lines f is = no is

-- a unit's next stage
abbrev pub UnitTold : UnitSeen → Deed → DriveState → Progress → Service Request → UnitSeen
UnitTold u deed d p service = record {
  drive = d;
  service = service;
  stage = stage_after u.stage deed d (record (hand_of u) { progress = p }) (head_of service);
  progress = p;
  table = u.table;
}

goes_with : (u : UnitSeen) (deed : Deed) (d : DriveState) (p : Progress) (lines : List Deed) → d.kind ≡ u.drive.kind → UnitFits u lines → IsHeld u.service.waiting
    → Fits (record (hand_of u) { progress = p }) (stage_after u.stage deed d (record (hand_of u) { progress = p }) (head_of u.service)) (deed ∷ lines)
    → UnitFits (UnitTold u deed d p u.service) (deed ∷ lines)
goes_with u deed d p lines is f held fits = record {
  fits = subst (λ k. Fits (record (hand_of u) { kind = k; progress = p }) (stage_after u.stage deed d (record (hand_of u) { progress = p }) (head_of u.service)) (deed ∷ lines)) (sym is) fits;
  order = subst (λ k. IsService (cylinder_of k) u.service) (sym is) f.order;
  some = f.some;
  empty = λ waits. absurd (never_waiting (record (hand_of u) { progress = p }) (stage_after u.stage deed d (record (hand_of u) { progress = p }) (head_of u.service)) deed lines fits waits);
  held = λ waits. held;
  fresh = inr (not_waiting (record (hand_of u) { progress = p }) (stage_after u.stage deed d (record (hand_of u) { progress = p }) (head_of u.service)) deed lines fits);
}

-- the end of a request that joined is no refusal
abbrev pub EndKept : Deed → Type 0
EndKept (End answer) = is_refusal answer ≡ false
EndKept deed = Unit {0}

step_kept : (step : Positioning) → EndKept (command_of step)
step_kept (SearchFor c y) = tt
step_kept other = tt

line_kept : (line : Deed) (rest : List Deed) → AreSaid (line ∷ rest) → EndKept line
line_kept Clear rest a = tt
line_kept Centre rest a = tt
line_kept (Try b t) rest a = tt
line_kept line rest a = absurd a

answer_kept : (h : Hand) (answer : Answer) (lines : List Deed) → EndFits h answer lines → is_refusal answer ≡ false
answer_kept h OutsidePartition lines f = absurd f
answer_kept h EndOfPartition lines f = absurd f
answer_kept h NoFrames lines f = absurd f
answer_kept h other lines f = refl

pub end_kept : (d : DriveState) (h : Hand) (stage : Stage) (deed : Deed) (lines : List Deed) → due d h stage ≡ Some deed → Fits h stage lines → EndKept deed
end_kept d h Waiting deed lines is f = absurd (none-some deed is)
end_kept d h (Steps [] segment) deed lines is f =
    guard_holds EndKept d.online (is_write h && d.locked) d.valid h.progress.done (transfer_of segment h) deed
    (same_Some (guarded d h (transfer_of segment h)) deed is) refl refl tt tt
end_kept d h (Steps (step ∷ left) segment) deed lines is f =
    guard_holds EndKept d.online (needs_unlocked (command_of step) && d.locked) d.valid h.progress.done (command_of step) deed
    (same_Some (guarded d h (command_of step)) deed is) refl refl tt (step_kept step)
end_kept d h (UnderWay left segment) deed lines is f = absurd (none-some deed is)
end_kept d h (AtOnce segment) deed lines is f =
    guard_holds EndKept d.online (is_write h && d.locked) d.valid h.progress.done (transfer_of segment h) deed
    (same_Some (guarded d h (transfer_of segment h)) deed is) refl refl tt tt
end_kept d h (Moving segment left last) deed lines is f = absurd (none-some deed is)
end_kept d h (Saying [] then_stage) deed lines is f = absurd (none-some deed is)
end_kept d h (Saying (line ∷ rest) then_stage) deed lines is f = subst EndKept (same_Some line deed is) (line_kept line rest f.0)
end_kept d h (Ending answer) deed lines is f = subst EndKept (same_Some (End answer) deed is) (answer_kept h answer lines f)

-- a request begins
begun_fits : (kind : DriveKind) (d : DriveState) (table : Option Table) (waiting : List (Waiter Request)) → AskSomeBlocks waiting
    → Fits (record { kind = kind; request = request_or_none (first_waiting waiting); progress = not_begun; table = table }) (begun d (first_waiting waiting)) []
begun_fits kind d table [] some = refl
begun_fits kind d table (w ∷ rest) some = record {
  counted = refl;
  room = omega (arith, some.0);
  going = tt;
  few = omega arith;
  small = omega arith;
  failing = tt;
  place = refl;
}

begun_empty : (d : DriveState) (waiting : List (Waiter Request)) → is_waiting (begun d (first_waiting waiting)) ≡ true → waiting ≡ []
begun_empty d [] is = refl
begun_empty d (w ∷ rest) is = absurd (no is)

begun_held : (d : DriveState) (waiting : List (Waiter Request)) → is_waiting (begun d (first_waiting waiting)) ≡ false → IsHeld waiting
begun_held d [] is = absurd (no (sym is))
begun_held d (w ∷ rest) is = tt

pub some_behind : (waiting : List (Waiter Request)) → AskSomeBlocks waiting → AskSomeBlocks (drop 1 waiting)
some_behind [] some = tt
some_behind (w ∷ rest) some = some.1

ended : (u : UnitSeen) (answer : Answer) (d : DriveState) (lines : List Deed) → d.kind ≡ u.drive.kind → UnitFits u lines
    → UnitFits (UnitTold u (End answer) d not_begun (after_leave u.service)) []
ended u answer d lines is f = record {
  fits = begun_fits d.kind d u.table (drop 1 u.service.waiting) (some_behind u.service.waiting f.some);
  order = subst (λ k. IsService (cylinder_of k) (after_leave u.service)) (sym is) (after_leave-is (cylinder_of u.drive.kind) u.service f.order);
  some = some_behind u.service.waiting f.some;
  empty = begun_empty d (drop 1 u.service.waiting);
  held = begun_held d (drop 1 u.service.waiting);
  fresh = inl refl;
}

-- A LINE of the unit keeps it so.
told : (u : UnitSeen) (deed : Deed) (d : DriveState) (bytes : List ℕ) (lines : List Deed) → d.kind ≡ u.drive.kind → UnitFits u lines → IsHeld u.service.waiting
    → TalkMay u.drive (hand_of u) u.stage deed
    → UnitFits (UnitTold u deed d (progress_after u.stage deed bytes u.progress) (service_after u.service deed)) (with_deed deed lines)
told u (Transfer w b k) d bytes lines is f held may =
    goes_with u (Transfer w b k) d u.progress lines is f held (due_fits u.drive d (hand_of u) (head_of u.service) u.stage (Transfer w b k) lines may f.fits)
told u Arrive d bytes lines is f held may = goes_with u Arrive d u.progress lines is f held (arrive_fits (hand_of u) u.stage lines may f.fits)
told u (Sector b v) d bytes lines is f held may =
    goes_with u (Sector b v) d (progress_after u.stage (Sector b v) bytes u.progress) lines is f held
    (sector_fits (hand_of u) bytes u.stage b v d (head_of u.service) lines may f.fits)
told u Intr d bytes lines is f held may =
    goes_with u Intr d (progress_after u.stage Intr bytes u.progress) lines is f held (intr_fits d (hand_of u) (head_of u.service) u.stage lines may f.fits)
told u Attn d bytes lines is f held may = goes_with u Attn d u.progress lines is f held (attn_fits d (hand_of u) (head_of u.service) u.stage lines may f.fits)
told u (End answer) d bytes lines is f held may =
    subst (λ z. UnitFits (UnitTold u (End answer) d not_begun (after_leave u.service)) (if z then lines else [])) (sym (end_kept u.drive (hand_of u) u.stage (End answer) lines may f.fits))
    (ended u answer d lines is f)
told u other d bytes lines is f held may = goes_with u other d u.progress lines is f held (due_fits u.drive d (hand_of u) (head_of u.service) u.stage other lines may f.fits)

-- ---- a request joins
first_stays : (c : Request → ℕ) (r : Request) (t : ℕ) (y : Waiter Request) (ys : List (Waiter Request)) → IsPlaced c y.cylinder y.sweep t y
    → is_before y (newcomer c r t (y ∷ ys)) ≡ true
first_stays c r t y ys p = grind (arith, nat_tests)

pub head_stays : (c : Request → ℕ) (r : Request) (n : ℕ) (waiting : List (Waiter Request)) → IsService c (record { waiting = waiting; joined = n }) → IsHeld waiting
    → first_waiting (put (newcomer c r n waiting) waiting) ≡ first_waiting waiting
head_stays c r n [] is held = absurd held
head_stays c r n (y ∷ ys) is held =
    ap first_waiting (cond-true (is_before y (newcomer c r n (y ∷ ys))) (y ∷ put (newcomer c r n (y ∷ ys)) ys) (newcomer c r n (y ∷ ys) ∷ y ∷ ys)
    (first_stays c r n y ys is.placed.0))

held_joined : (x : Waiter Request) (waiting : List (Waiter Request)) → IsHeld (put x waiting)
held_joined x [] = tt
held_joined x (y ∷ ys) = at (is_before y x)
  where
    at : (b : Bool) → IsHeld (if b then y ∷ put x ys else x ∷ y ∷ ys)
    at true = tt
    at false = tt

is_begun : (stage : Stage) (d : DriveState) (r : Request) → is_waiting (stage_joined stage d r) ≡ false
is_begun Waiting d r = refl
is_begun other d r = refl

never_empty : (stage : Stage) (d : DriveState) (r : Request) → is_waiting (stage_joined stage d r) ≡ true → ⊥
never_empty Waiting d r is = no is
never_empty other d r is = no is

-- the hand over a queue
abbrev pub HandOver : DriveKind → Progress → Option Table → List (Waiter Request) → Hand
HandOver kind p table waiting = record { kind = kind; request = request_or_none (first_waiting waiting); progress = p; table = table }

fits_joined : (stage : Stage) (d : DriveState) (service : Service Request) (p : Progress) (table : Option Table) (r : Request) (lines : List Deed) → 1 ≤ r.count
    → p ≡ not_begun ⊎ (is_waiting stage ≡ false)
    → UnitFits (record { drive = d; service = service; stage = stage; progress = p; table = table }) lines
    → Fits (HandOver d.kind p table (put (newcomer (cylinder_of d.kind) r service.joined service.waiting) service.waiting)) (stage_joined stage d r) lines
fits_joined Waiting d service p table r lines some (inl fresh) f =
    subst (λ z. Fits (HandOver d.kind z table (put (newcomer (cylinder_of d.kind) r service.joined service.waiting) service.waiting)) (begun d (Some r)) lines) (sym fresh)
    (subst (λ z. Fits (HandOver d.kind not_begun table (put (newcomer (cylinder_of d.kind) r service.joined z) z)) (begun d (Some r)) lines) (sym (f.empty refl))
    (subst (λ z. Fits (HandOver d.kind not_begun table (newcomer (cylinder_of d.kind) r service.joined [] ∷ [])) (begun d (Some r)) z) (sym f.fits)
    (begun_fits d.kind d table (newcomer (cylinder_of d.kind) r service.joined [] ∷ []) (some, tt))))
fits_joined Waiting d service p table r lines some (inr waits) f = absurd (no (sym waits))
fits_joined (Steps left segment) d service p table r lines some w f =
    subst (λ z. Fits (record { kind = d.kind; request = request_or_none z; progress = p; table = table }) (Steps left segment) lines)
    (sym (head_stays (cylinder_of d.kind) r service.joined service.waiting f.order (f.held refl))) f.fits
fits_joined (UnderWay left segment) d service p table r lines some w f =
    subst (λ z. Fits (record { kind = d.kind; request = request_or_none z; progress = p; table = table }) (UnderWay left segment) lines)
    (sym (head_stays (cylinder_of d.kind) r service.joined service.waiting f.order (f.held refl))) f.fits
fits_joined (AtOnce segment) d service p table r lines some w f =
    subst (λ z. Fits (record { kind = d.kind; request = request_or_none z; progress = p; table = table }) (AtOnce segment) lines)
    (sym (head_stays (cylinder_of d.kind) r service.joined service.waiting f.order (f.held refl))) f.fits
fits_joined (Moving segment left last) d service p table r lines some w f =
    subst (λ z. Fits (record { kind = d.kind; request = request_or_none z; progress = p; table = table }) (Moving segment left last) lines)
    (sym (head_stays (cylinder_of d.kind) r service.joined service.waiting f.order (f.held refl))) f.fits
fits_joined (Saying rest next) d service p table r lines some w f =
    subst (λ z. Fits (record { kind = d.kind; request = request_or_none z; progress = p; table = table }) (Saying rest next) lines)
    (sym (head_stays (cylinder_of d.kind) r service.joined service.waiting f.order (f.held refl))) f.fits
fits_joined (Ending answer) d service p table r lines some w f =
    subst (λ z. Fits (record { kind = d.kind; request = request_or_none z; progress = p; table = table }) (Ending answer) lines)
    (sym (head_stays (cylinder_of d.kind) r service.joined service.waiting f.order (f.held refl))) f.fits

joined : (u : UnitSeen) (r : Request) (lines : List Deed) → 1 ≤ r.count → UnitFits u lines → UnitFits (unit_joined u r) lines
joined u r lines some f = record {
  fits = subst (λ z. Fits (HandOver u.drive.kind u.progress u.table z) (stage_joined u.stage u.drive r) lines) (sym queue) (fits_joined u.stage u.drive u.service u.progress u.table r lines some f.fresh f);
  order = after_join-is (cylinder_of u.drive.kind) r u.service f.order;
  some = subst AskSomeBlocks (sym queue) (each-put (λ w. 1 ≤ w.request.count) (newcomer (cylinder_of u.drive.kind) r u.service.joined u.service.waiting) u.service.waiting some f.some);
  empty = λ is. absurd (never_empty u.stage u.drive r is);
  held = λ is. subst IsHeld (sym queue) (held_joined (newcomer (cylinder_of u.drive.kind) r u.service.joined u.service.waiting) u.service.waiting);
  fresh = inr (is_begun u.stage u.drive r);
}
  where
    queue : (service_joined u.drive.kind r u.service).waiting ≡ put (newcomer (cylinder_of u.drive.kind) r u.service.joined u.service.waiting) u.service.waiting
    queue = after_join-waiting (cylinder_of u.drive.kind) r u.service f.order

-- ---- all units
abbrev pub AllFit : Replay → (ℕ → List Deed) → Type 0
AllFit s lines = (unit : ℕ) → UnitFits (s.units unit) (lines unit)

-- one unit changes, and no lines
one_joins : (s : Replay) (lines : ℕ → List Deed) (k : ℕ) (u : UnitSeen) (x : ℕ) → UnitFits u (lines k) → AllFit s lines → UnitFits (with_state s.units k u x) (lines x)
one_joins s lines k u x mine all = elim (eqb_tells x k) [
  | inl same ↦ rw same.0 (subst (λ z. UnitFits u (lines z)) (sym same.1) mine)
  | inr other ↦ rw other.0 (all x)
]

pub held_by : (waiting : List (Waiter Request)) (id : ℕ) → ids (first_waiting waiting) ≡ Some id → IsHeld waiting
held_by [] id is = none-some id is
held_by (w ∷ rest) id is = tt

pub line_keeps : (s : Replay) (line unit id : ℕ) (deed : Deed) (lines : ℕ → List Deed) → LineMay s line unit id deed → AllFit s lines
    → UnitFits (unit_after s unit deed) (with_deed deed (lines unit))
line_keeps s line unit id deed lines may all =
    told (s.units unit) deed
    (drive_after (s.units unit).drive (at_unit s unit).state (target_of (s.units unit).drive.kind (in_hand (s.units unit).service)) deed)
    (bytes_of s unit deed) (lines unit)
    (after_kind (s.units unit).drive (at_unit s unit).state (target_of (s.units unit).drive.kind (in_hand (s.units unit).service)) deed)
    (all unit) (held_by (s.units unit).service.waiting id may.service) may.talk

pub line_all : (s : Replay) (line unit id : ℕ) (deed : Deed) (lines : ℕ → List Deed) → LineMay s line unit id deed → AllFit s lines
    → AllFit (replay_told s unit deed (unit_after s unit deed)) (λ x. lines_after x (Told line unit id deed) (lines x))
line_all s line unit id deed lines may all x =
    elim (eqb_tells x unit) [
      | inl same ↦ rw same.0 (subst (λ z. UnitFits (unit_after s unit deed) (with_deed deed (lines z))) (sym same.1) (line_keeps s line unit id deed lines may all))
      | inr other ↦ rw other.0 (all x)
    ]

pub refused_is : (why : Rejection) → is_refusal (rejection_answer why) ≡ true
refused_is AtEnd = refl
refused_is other = refl

-- a refusal changes no lines
refusal_all : (s : Replay) (line unit id : ℕ) (why : Rejection) (lines : ℕ → List Deed) → AllFit s lines
    → AllFit s (λ x. lines_after x (Told line unit id (End (rejection_answer why))) (lines x))
refusal_all s line unit id why lines all x = at (x == unit)
  where
    at : (b : Bool) → UnitFits (s.units x) (if b then with_deed (End (rejection_answer why)) (lines x) else lines x)
    at true = subst (λ z. UnitFits (s.units x) (if z then lines x else [])) (sym (refused_is why)) (all x)
    at false = all x

pub told_all : (wish : Wish) (s : Replay) (line unit id : ℕ) (deed : Deed) (lines : ℕ → List Deed) → ToldMay wish s line unit id deed → AllFit s lines
    → AllFit (told_after wish s unit deed) (λ x. lines_after x (Told line unit id deed) (lines x))
told_all (Refusal u i why) s line unit id deed lines may all =
    subst (λ z. AllFit (told_after (Refusal u i why) s unit deed) (λ x. lines_after x (Told line unit id z) (lines x))) (sym may.answered) (refusal_all s line unit id why lines all)
told_all other s line unit id deed lines may all =
    drained_keeps (λ t. AllFit t (λ x. lines_after x (Told line unit id deed) (lines x))) (replay_told s unit deed (unit_after s unit deed))
    (λ event. line_all s line unit id deed lines may all)

pub submitted_all : (s : Replay) (r : Request) (met : Submission) (lines : ℕ → List Deed) → 1 ≤ r.count → AllFit s lines → AllFit (submitted s r met) lines
submitted_all s r (Refused why) lines some all = all
submitted_all s r Joined lines some all = λ x. one_joins s lines r.unit (unit_joined (s.units r.unit) r) x (joined (s.units r.unit) r (lines r.unit) some (all r.unit)) all

pub played_all : (s : Replay) (input : Input) (lines : ℕ → List Deed) → AsksSome input → AllFit s lines → AllFit (replay_played s input) lines
played_all s (Submit r) lines some all = submitted_all s r (submission s r) lines some all
played_all s (Turn u y) lines some all = λ x. with_drive (s.units x) (drive_played x (s.units x).drive (Turn u y)) (lines x) (played_kind x (s.units x).drive (Turn u y)) (all x)
played_all s (Noise n) lines some all = λ x. with_drive (s.units x) (drive_played x (s.units x).drive (Noise n)) (lines x) (played_kind x (s.units x).drive (Noise n)) (all x)
played_all s (Arm u k n) lines some all = λ x. with_drive (s.units x) (drive_played x (s.units x).drive (Arm u k n)) (lines x) (played_kind x (s.units x).drive (Arm u k n)) (all x)
played_all s (ArriveAt u) lines some all = all
played_all s (MoveAt a) lines some all = all
played_all s (AttendTo a) lines some all = all
played_all s Drain lines some all = all
played_all s other lines some all =
    λ x. with_drive (s.units x) (drive_played x (s.units x).drive other) (lines x) (played_kind x (s.units x).drive other) (all x)

pub moments_all : (s : Replay) (ms : List Moment) (lines : ℕ → List Deed) → AskSome ms → Follows s ms → AllFit s lines
    → AllFit (after_moments s ms) (λ x. lines_behind x (lines x) ms)
moments_all s [] lines some follows all = all
moments_all s (Played line input ∷ ms) lines some follows all =
    moments_all (after_moment s (Played line input)) ms lines some.1 follows.1 (played_all s input lines some.0 all)
moments_all s (Told line unit id deed ∷ ms) lines some follows all =
    moments_all (after_moment s (Told line unit id deed)) ms (λ x. lines_after x (Told line unit id deed) (lines x)) some follows.1
    (told_all (next_wish s) s line unit id deed lines follows.0 all)
moments_all s (Idle line ∷ ms) lines some follows all = moments_all (after_moment s (Idle line)) ms lines some follows.1 all

pub starts : (drives : ℕ → Option DriveKind) (tables : ℕ → Option Table) (surface : Surface) → AllFit (new_replay drives tables surface) (λ x. [])
starts drives tables surface x =
    record { fits = refl; order = empty-is (cylinder_of ((new_replay drives tables surface).units x).drive.kind); some = tt; empty = λ is. refl; held = λ is. absurd (no (sym is)); fresh = inl refl }
