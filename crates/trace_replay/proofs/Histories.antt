-- What the lines of a unit's request say of where it stands, and that each line keeps it so.
use Rattle.std.proofs.Common.{◌≡◌, ◌⊎◌, inl, inr, ℕ, zero, suc, ◌+◌, ◌-◌, ◌<◌, ◌≤◌, ◌==◌, ◌&&◌, ◌||◌, nat_lt, Bool, true, false, not, List, [], ◌∷◌, ◌++◌, Option, None, Some, refl, sym, ap, ◌∙◌, subst, arith}
use Rattle.std.specs.Prelude.{if◌then◌else◌}
use Rattle.std.specs.Option.{option_map_or}
use Rattle.std.proofs.lemmas.Option.{same_Some, none-some}
use Rattle.std.proofs.lemmas.Bool.Decides.{nat_tests}
use Rattle.std.proofs.lemmas.Bool.{false≢true, eqb-false, eqb-true, and_parts}
use Rattle.pack_geometry.specs.Geometry.{place_at, replacement_at}
use Rattle.drive_registers.specs.Codes.{offset_field}
use Rattle.drive_registers.specs.declared.OffsetCode.{OffsetCode}
use Rattle.hardware_table.specs.declared.Moved.{Moved}
use Rattle.hardware_table.specs.declared.Moved.TheVariants as verdict
use Rattle.hardware_table.specs.Drive.{DriveState}
use Rattle.trace_replay.specs.Schedule.{offset_after, recalibrates_after}
use Rattle.trace_replay.specs.declared.retry_offsets.Step.TheVariants as retry
use Rattle.trace_replay.specs.requests.Requests.{Request, Answer, ReadOk, WriteOk, Failed, Cause, Offline, Locked, Unforwarded, Fault}
use Rattle.trace_replay.specs.Moments.{Deed, Search, Seek, Recal, Offset, Centre, Clear, Pack, Transfer, Arrive, Sector, Intr, Try, Attn, End}
use Rattle.trace_replay.specs.Conversation.{Positioning, SearchFor, Recalibrate, SeekTo, OffsetBy, Segment, OwnBlocks, Replacement, Hand, is_write, start_of, length_of, transfer_of, command_of, needs_unlocked, guarded, due, entry_of, Stage, Waiting, Steps, UnderWay, AtOnce, Moving, Saying, Ending, saying, retried, failed, forwarded, marked, continued, ok_answer, interrupted_by, stage_after, is_under_way, is_clean, last_of, sector_may, intr_may, progress_tried, progress_interrupted}
use Rattle.trace_replay.specs.History.{moved_by, done_in, Tried, Untried, TriedAt, last_tried, marks_in, last_try, fails, AreFailures}

-- a sector of this block was met marked
abbrev pub WasMarked : ℕ → List Deed → Type 0
WasMarked block [] = ⊥
WasMarked block (deed ∷ lines) = (deed ≡ Sector block verdict.Marked) ⊎ WasMarked block lines

-- the lines that come behind an interrupt
abbrev pub AreSaid : List Deed → Type 0
AreSaid [] = Unit {0}
AreSaid (Clear ∷ lines) = AreSaid lines
AreSaid (Centre ∷ lines) = AreSaid lines
AreSaid (Try block failures ∷ lines) = AreSaid lines
AreSaid (line ∷ lines) = ⊥

-- lines with these said behind them
abbrev pub said_onto : List Deed → List Deed → List Deed
said_onto [] lines = lines
said_onto (line ∷ rest) lines = said_onto rest (line ∷ lines)

-- the last sector does not end the request: a mark was the first, of a block that the table lists
abbrev pub Goes : Hand → Tried → ℕ → Type 0
Goes h Untried marks = Unit {0}
Goes h (TriedAt block verdict.Offline) marks = ⊥
Goes h (TriedAt block verdict.Marked) marks = (marks ≡ 1) × (entry_of h (start_of OwnBlocks h) ≡ None → ⊥)
Goes h (TriedAt block verdict) marks = Unit {0}

-- it was no mark, and the unit was online
abbrev pub WasReached : Tried → Type 0
WasReached (TriedAt block verdict.Offline) = ⊥
WasReached (TriedAt block verdict.Marked) = ⊥
WasReached tried = Unit {0}

-- a block is the replacement of the entry that lists the request's first block not done, which was met marked
pub record IsListed (h : Hand) (block : ℕ) (lines : List Deed) : Type 0 where
  pub entry : ℕ
  pub listed : entry_of h (start_of OwnBlocks h) ≡ Some entry
  pub replacement : block ≡ replacement_at h.kind entry
  pub own : WasMarked (start_of OwnBlocks h) lines

abbrev pub IsPlace : Hand → Segment → ℕ → ℕ → List Deed → Type 0
IsPlace h OwnBlocks left marks lines = marks ≡ 0
IsPlace h (Replacement block) left marks lines = (left ≡ 1) × (marks ≡ 1) × IsListed h block lines

-- a request goes on with a segment that has so many blocks left
pub record Open (h : Hand) (segment : Segment) (left : ℕ) (lines : List Deed) : Type 0 where
  pub counted : done_in lines ≡ h.progress.done
  pub room : h.progress.done + left ≤ h.request.count
  pub going : Goes h (last_tried lines) (marks_in lines)
  pub few : last_try lines < 28
  pub small : h.progress.failures < 28
  pub failing : AreFailures false h.progress.failures (start_of segment h) lines
  pub place : IsPlace h segment left (marks_in lines) lines

-- a segment is done
pub record IsDone (h : Hand) (lines : List Deed) : Type 0 where
  pub counted : done_in lines ≡ h.progress.done
  pub room : h.progress.done ≤ h.request.count
  pub reached : WasReached (last_tried lines)
  pub few : last_try lines < 28
  pub fresh : h.progress.failures ≡ 0
  pub unmarked : marks_in lines ≡ 0

-- a sector was tried and not moved clean
pub record Stopped (h : Hand) (segment : Segment) (v : Moved) (lines : List Deed) : Type 0 where
  pub before : List Deed
  pub left : ℕ
  pub some : 1 ≤ left
  pub is : lines ≡ Sector (start_of segment h) v ∷ before
  pub open_before : Open h segment left before

abbrev pub CleanFits : Hand → Segment → ℕ → List Deed → Type 0
CleanFits h segment zero lines = IsDone h lines
CleanFits h segment (suc n) lines = Open h segment (suc n) lines

abbrev pub MoveFits : Hand → Segment → ℕ → Moved → List Deed → Type 0
MoveFits h segment left verdict.Clean lines = CleanFits h segment left lines
MoveFits h segment left v lines = Stopped h segment v lines

-- why a request is to end
abbrev pub EndsBy : Hand → Cause → List Deed → Type 0
EndsBy h Offline lines = (block : ℕ) × (last_tried lines ≡ TriedAt block verdict.Offline) × (last_try lines < 28)
EndsBy h Locked lines = ⊥
EndsBy h Unforwarded lines =
    (block : ℕ) × (last_tried lines ≡ TriedAt block verdict.Marked)
    × (((marks_in lines ≡ 2) × IsListed h block lines) ⊎ ((entry_of h (start_of OwnBlocks h) ≡ None) × (block ≡ start_of OwnBlocks h))) × (last_try lines < 28)
    × WasMarked block lines
EndsBy h Fault lines =
    (block : ℕ) × (v : Moved) × (last_tried lines ≡ TriedAt block v) × (fails v ≡ true) × (last_try lines ≡ 28) × AreFailures false 28 block lines

pub record EndsFailed (h : Hand) (cause : Cause) (done : ℕ) (lines : List Deed) : Type 0 where
  pub is_done : done ≡ h.progress.done
  pub counted : done_in lines ≡ h.progress.done
  pub room : h.progress.done < h.request.count
  pub by : EndsBy h cause lines

pub record EndsOk (h : Hand) (lines : List Deed) : Type 0 where
  pub whole : IsDone h lines
  pub all : h.progress.done ≡ h.request.count

abbrev pub EndFits : Hand → Answer → List Deed → Type 0
EndFits h (ReadOk bytes) lines = EndsOk h lines
EndFits h WriteOk lines = EndsOk h lines
EndFits h (Failed cause done) lines = EndsFailed h cause done lines
EndFits h answer lines = ⊥

-- WHERE A REQUEST STANDS agrees with its lines.
abbrev pub Fits : Hand → Stage → List Deed → Type 0
Fits h Waiting lines = lines ≡ []
Fits h (Steps left segment) lines = Open h segment 1 lines
Fits h (UnderWay left segment) lines = Open h segment 1 lines
Fits h (AtOnce segment) lines = Open h segment 1 lines
Fits h (Moving segment left last) lines = MoveFits h segment left last lines
Fits h (Saying rest next) lines = AreSaid rest × Fits h next (said_onto rest lines)
Fits h (Ending answer) lines = EndFits h answer lines

-- ---- lines that tell of no sector and no try
abbrev pub IsQuiet : Deed → Type 0
IsQuiet (Sector block verdict) = ⊥
IsQuiet (Try block failures) = ⊥
IsQuiet (End answer) = ⊥
IsQuiet deed = Unit {0}

record Same (deed : Deed) (lines : List Deed) : Type 0 where
  done : done_in (deed ∷ lines) ≡ done_in lines
  tried : last_tried (deed ∷ lines) ≡ last_tried lines
  marks : marks_in (deed ∷ lines) ≡ marks_in lines
  tries : last_try (deed ∷ lines) ≡ last_try lines

none_more : (n : ℕ) → 0 + n ≡ n
none_more n = omega arith

same : (deed : Deed) (lines : List Deed) → IsQuiet deed → Same deed lines
same (Sector b v) lines q = absurd q
same (Try b f) lines q = absurd q
same (End a) lines q = absurd q
same other lines q = record { done = none_more (done_in lines); tried = refl; marks = refl; tries = refl }

still : (n : ℕ) (deed : Deed) (block : ℕ) (lines : List Deed) → IsQuiet deed → AreFailures false n block lines → AreFailures false n block (deed ∷ lines)
still zero deed block lines q f = tt
still (suc n) (Search c y) block lines q f = f
still (suc n) (Seek c) block lines q f = f
still (suc n) Recal block lines q f = f
still (suc n) (Offset o) block lines q f = f
still (suc n) Centre block lines q f = f
still (suc n) Clear block lines q f = f
still (suc n) Pack block lines q f = f
still (suc n) (Transfer w b k) block lines q f = f
still (suc n) Arrive block lines q f = f
still (suc n) (Sector b v) block lines q f = absurd q
still (suc n) Intr block lines q f = f
still (suc n) (Try b t) block lines q f = absurd q
still (suc n) Attn block lines q f = f
still (suc n) (End a) block lines q f = absurd q

listed_later : (deed : Deed) (h : Hand) (block : ℕ) (lines : List Deed) → IsListed h block lines → IsListed h block (deed ∷ lines)
listed_later deed h block lines l = record { entry = l.entry; listed = l.listed; replacement = l.replacement; own = inr l.own }

place_later : (deed : Deed) (h : Hand) (segment : Segment) (left marks marks' : ℕ) (lines : List Deed) → marks' ≡ marks → IsPlace h segment left marks lines
    → IsPlace h segment left marks' (deed ∷ lines)
place_later deed h OwnBlocks left marks marks' lines is p = is ∙ p
place_later deed h (Replacement block) left marks marks' lines is p = (p.0, is ∙ p.1, listed_later deed h block lines p.2)

pub open_quiet : (deed : Deed) (h : Hand) (segment : Segment) (left : ℕ) (lines : List Deed) → IsQuiet deed → Open h segment left lines → Open h segment left (deed ∷ lines)
open_quiet deed h segment left lines q o = at (same deed lines q)
  where
    at : Same deed lines → Open h segment left (deed ∷ lines)
    at e = record {
      counted = e.done ∙ o.counted;
      room = o.room;
      going = subst (λ z. Goes h z (marks_in (deed ∷ lines))) (sym e.tried) (subst (λ z. Goes h (last_tried lines) z) (sym e.marks) o.going);
      few = subst (λ z. z < 28) (sym e.tries) o.few;
      small = o.small;
      failing = still h.progress.failures deed (start_of segment h) lines q o.failing;
      place = place_later deed h segment left (marks_in lines) (marks_in (deed ∷ lines)) lines e.marks o.place;
    }

done_quiet : (deed : Deed) (h : Hand) (lines : List Deed) → IsQuiet deed → IsDone h lines → IsDone h (deed ∷ lines)
done_quiet deed h lines q o = at (same deed lines q)
  where
    at : Same deed lines → IsDone h (deed ∷ lines)
    at e = record {
      counted = e.done ∙ o.counted;
      room = o.room;
      reached = subst WasReached (sym e.tried) o.reached;
      few = subst (λ z. z < 28) (sym e.tries) o.few;
      fresh = o.fresh;
      unmarked = e.marks ∙ o.unmarked;
    }

-- ---- lines that are due
pub saying_fits : (h : Hand) (rest : List Deed) (next : Stage) (lines : List Deed) → AreSaid rest → Fits h next (said_onto rest lines) → Fits h (saying rest next) lines
saying_fits h [] next lines a f = f
saying_fits h (line ∷ rest) next lines a f = (a, f)

pub guard_holds : (P : Deed → Type 0) (online locking valid : Bool) (done : ℕ) (command deed : Deed)
    → (if not online then End (Failed Offline done) else if locking then End (Failed Locked done) else if not valid then Pack else command) ≡ deed
    → P (End (Failed Offline done)) → P (End (Failed Locked done)) → P Pack → P command → P deed
guard_holds P false locking valid done command deed is off lock pack go = subst P is off
guard_holds P true true valid done command deed is off lock pack go = subst P is lock
guard_holds P true false false done command deed is off lock pack go = subst P is pack
guard_holds P true false true done command deed is off lock pack go = subst P is go

-- after a line that is due and no end
abbrev pub AfterFits : DriveState → Hand → Option Request → Stage → List Deed → Deed → Type 0
AfterFits d h next stage lines (End answer) = Unit {0}
AfterFits d h next stage lines deed = Fits h (stage_after stage deed d h next) (deed ∷ lines)

pub length_some : (h : Hand) (segment : Segment) (lines : List Deed) → Open h segment 1 lines → 1 ≤ length_of segment h
length_some h OwnBlocks lines o = omega (arith, o.room)
length_some h (Replacement block) lines o = omega arith

open_whole : (h : Hand) (segment : Segment) (lines : List Deed) → Open h segment 1 lines → Open h segment (length_of segment h) lines
open_whole h OwnBlocks lines o = record {
  counted = o.counted;
  room = omega (arith, o.room);
  going = o.going;
  few = o.few;
  small = o.small;
  failing = o.failing;
  place = o.place;
}
open_whole h (Replacement block) lines o = o

clean_from : (h : Hand) (segment : Segment) (left : ℕ) (lines : List Deed) → 1 ≤ left → Open h segment left lines → CleanFits h segment left lines
clean_from h segment zero lines some o = absurd (omega arith)
clean_from h segment (suc n) lines some o = o

transfer_fits : (h : Hand) (segment : Segment) (lines : List Deed) → Open h segment 1 lines → CleanFits h segment (length_of segment h) (transfer_of segment h ∷ lines)
transfer_fits h segment lines o =
    clean_from h segment (length_of segment h) (transfer_of segment h ∷ lines) (length_some h segment lines o)
    (open_quiet (transfer_of segment h) h segment (length_of segment h) lines tt (open_whole h segment lines o))

step_fits : (d' : DriveState) (h : Hand) (next : Option Request) (step : Positioning) (left : List Positioning) (segment : Segment) (lines : List Deed)
    → Open h segment 1 lines → AfterFits d' h next (Steps (step ∷ left) segment) lines (command_of step)
step_fits d' h next (SearchFor c y) left segment lines o = open_quiet (Search c y) h segment 1 lines tt o
step_fits d' h next Recalibrate left segment lines o = open_quiet Recal h segment 1 lines tt o
step_fits d' h next (SeekTo c) left segment lines o = open_quiet (Seek c) h segment 1 lines tt o
step_fits d' h next (OffsetBy code) left segment lines o = open_quiet (Offset code) h segment 1 lines tt o

line_fits : (d' : DriveState) (h : Hand) (next : Option Request) (line : Deed) (rest : List Deed) (then_stage : Stage) (lines : List Deed)
    → AreSaid (line ∷ rest) → Fits h then_stage (said_onto rest (line ∷ lines)) → AfterFits d' h next (Saying (line ∷ rest) then_stage) lines line
line_fits d' h next Clear rest then_stage lines a f = saying_fits h rest then_stage (Clear ∷ lines) a f
line_fits d' h next Centre rest then_stage lines a f = saying_fits h rest then_stage (Centre ∷ lines) a f
line_fits d' h next (Try b t) rest then_stage lines a f = saying_fits h rest then_stage (Try b t ∷ lines) a f
line_fits d' h next line rest then_stage lines a f = absurd a

pub due_fits : (d d' : DriveState) (h : Hand) (next : Option Request) (stage : Stage) (deed : Deed) (lines : List Deed)
    → due d h stage ≡ Some deed → Fits h stage lines → AfterFits d' h next stage lines deed
due_fits d d' h next Waiting deed lines is f = absurd (none-some deed is)
due_fits d d' h next (Steps [] segment) deed lines is f =
    guard_holds (AfterFits d' h next (Steps [] segment) lines) d.online (is_write h && d.locked) d.valid h.progress.done (transfer_of segment h) deed
    (same_Some (guarded d h (transfer_of segment h)) deed is) tt tt (open_quiet Pack h segment 1 lines tt f) (transfer_fits h segment lines f)
due_fits d d' h next (Steps (step ∷ left) segment) deed lines is f =
    guard_holds (AfterFits d' h next (Steps (step ∷ left) segment) lines) d.online (needs_unlocked (command_of step) && d.locked) d.valid h.progress.done (command_of step) deed
    (same_Some (guarded d h (command_of step)) deed is) tt tt (open_quiet Pack h segment 1 lines tt f) (step_fits d' h next step left segment lines f)
due_fits d d' h next (UnderWay left segment) deed lines is f = absurd (none-some deed is)
due_fits d d' h next (AtOnce segment) deed lines is f =
    guard_holds (AfterFits d' h next (AtOnce segment) lines) d.online (is_write h && d.locked) d.valid h.progress.done (transfer_of segment h) deed
    (same_Some (guarded d h (transfer_of segment h)) deed is) tt tt (open_quiet Pack h segment 1 lines tt f) (transfer_fits h segment lines f)
due_fits d d' h next (Moving segment left last) deed lines is f = absurd (none-some deed is)
due_fits d d' h next (Saying [] then_stage) deed lines is f = absurd (none-some deed is)
due_fits d d' h next (Saying (line ∷ rest) then_stage) deed lines is f =
    subst (AfterFits d' h next (Saying (line ∷ rest) then_stage) lines) (same_Some line deed is) (line_fits d' h next line rest then_stage lines f.0 f.1)
due_fits d d' h next (Ending answer) deed lines is f = subst (AfterFits d' h next (Ending answer) lines) (same_Some (End answer) deed is) tt

-- ---- arrivals and attentions

pub arrive_fits : (h : Hand) (stage : Stage) (lines : List Deed) → is_under_way stage ≡ true → Fits h stage lines → Fits h stage (Arrive ∷ lines)
arrive_fits h (UnderWay left segment) lines is f = open_quiet Arrive h segment 1 lines tt f
arrive_fits h other lines is f = absurd (false≢true is)

pub attn_fits : (d : DriveState) (h : Hand) (next : Option Request) (stage : Stage) (lines : List Deed) → is_under_way stage ≡ true → Fits h stage lines
    → Fits h (stage_after stage Attn d h next) (Attn ∷ lines)
attn_fits d h next (UnderWay left segment) lines is f = open_quiet Attn h segment 1 lines tt f
attn_fits d h next other lines is f = absurd (false≢true is)

-- ---- sectors

pub or_zero : (n : ℕ) → (n == 0) || false ≡ true → n ≡ 0
or_zero n h = grind (arith, nat_tests)

stopped : (h : Hand) (segment : Segment) (n block : ℕ) (v : Moved) (lines : List Deed) → block ≡ start_of segment h → Open h segment (suc n) lines
    → Stopped h segment v (Sector block v ∷ lines)
stopped h segment n block v lines is o = record { before = lines; left = suc n; some = omega arith; is = ap (λ z. Sector z v ∷ lines) is; open_before = o }

-- a burst keeps its bytes until they are repaired
struck_start : (h : Hand) (bytes : List ℕ) (segment : Segment) → start_of segment h ≡ start_of segment (record h { progress = record h.progress { struck = bytes } })
struck_start h bytes OwnBlocks = refl
struck_start h bytes (Replacement block) = refl

open_struck : (h : Hand) (bytes : List ℕ) (segment : Segment) (left : ℕ) (lines : List Deed) → Open h segment left lines
    → Open (record h { progress = record h.progress { struck = bytes } }) segment left lines
open_struck h bytes OwnBlocks left lines o =
    record { counted = o.counted; room = o.room; going = going_struck (last_tried lines) o.going; few = o.few; small = o.small; failing = o.failing; place = o.place }
  where
    going_struck : (t : Tried) → Goes h t (marks_in lines) → Goes (record h { progress = record h.progress { struck = bytes } }) t (marks_in lines)
    going_struck Untried g = tt
    going_struck (TriedAt b verdict.Clean) g = tt
    going_struck (TriedAt b (verdict.Burst at q)) g = tt
    going_struck (TriedAt b verdict.Hard) g = tt
    going_struck (TriedAt b (verdict.Faulted k)) g = tt
    going_struck (TriedAt b verdict.Marked) g = g
    going_struck (TriedAt b verdict.Offline) g = g
open_struck h bytes (Replacement block) left lines o =
    record { counted = o.counted; room = o.room; going = going_struck (last_tried lines) o.going; few = o.few; small = o.small; failing = o.failing; place = (o.place.0, o.place.1, record { entry = o.place.2.entry; listed = o.place.2.listed; replacement = o.place.2.replacement; own = o.place.2.own }) }
  where
    going_struck : (t : Tried) → Goes h t (marks_in lines) → Goes (record h { progress = record h.progress { struck = bytes } }) t (marks_in lines)
    going_struck Untried g = tt
    going_struck (TriedAt b verdict.Clean) g = tt
    going_struck (TriedAt b (verdict.Burst at q)) g = tt
    going_struck (TriedAt b verdict.Hard) g = tt
    going_struck (TriedAt b (verdict.Faulted k)) g = tt
    going_struck (TriedAt b verdict.Marked) g = g
    going_struck (TriedAt b verdict.Offline) g = g

-- a clean sector is done
clean_sector : (h : Hand) (bytes : List ℕ) (segment : Segment) (n block : ℕ) (lines : List Deed) → Open h segment (suc n) lines
    → CleanFits (record h { progress = progress_tried verdict.Clean bytes h.progress }) segment n (Sector block verdict.Clean ∷ lines)
clean_sector h bytes segment zero block lines o =
    record { counted = omega (arith, o.counted); room = omega (arith, o.room); reached = tt; few = o.few; fresh = refl; unmarked = refl }
clean_sector h bytes OwnBlocks (suc m) block lines o =
    record { counted = omega (arith, o.counted); room = omega (arith, o.room); going = tt; few = o.few; small = omega arith; failing = tt; place = refl }
clean_sector h bytes (Replacement b) (suc m) block lines o = absurd (omega (arith, o.place.0))

one_less : (n : ℕ) → n ≡ suc n - 1
one_less n = omega arith

sector_moved : (h : Hand) (bytes : List ℕ) (segment : Segment) (n block : ℕ) (v : Moved) (lines : List Deed) → block ≡ start_of segment h
    → Open h segment (suc n) lines
    → MoveFits (record h { progress = progress_tried v bytes h.progress }) segment (suc n - 1) v (Sector block v ∷ lines)
sector_moved h bytes segment n block verdict.Clean lines is o =
    subst (λ z. CleanFits (record h { progress = progress_tried verdict.Clean bytes h.progress }) segment z (Sector block verdict.Clean ∷ lines)) (one_less n)
    (clean_sector h bytes segment n block lines o)
sector_moved h bytes segment n block (verdict.Burst at q) lines is o =
    stopped (record h { progress = record h.progress { struck = bytes } }) segment n block (verdict.Burst at q) lines (is ∙ struck_start h bytes segment)
    (open_struck h bytes segment (suc n) lines o)
sector_moved h bytes segment n block other lines is o = stopped h segment n block other lines is o

never_of_none : (block start : ℕ) → nat_lt 0 0 && (block == start) ≡ true → ⊥
never_of_none block start is = false≢true is

pub sector_fits : (h : Hand) (bytes : List ℕ) (stage : Stage) (block : ℕ) (v : Moved) (d : DriveState) (next : Option Request) (lines : List Deed)
    → sector_may h stage block ≡ true → Fits h stage lines
    → Fits (record h { progress = progress_tried v bytes h.progress })
    (stage_after stage (Sector block v) d (record h { progress = progress_tried v bytes h.progress }) next) (Sector block v ∷ lines)
sector_fits h bytes (Moving segment zero verdict.Clean) block v d next lines is f = absurd (never_of_none block (start_of segment h) is)
sector_fits h bytes (Moving segment (suc n) verdict.Clean) block v d next lines is f =
    sector_moved h bytes segment n block v lines (eqb-true block (start_of segment h) (and_parts (nat_lt 0 (suc n)) (block == start_of segment h) is).1) f
sector_fits h bytes (Moving segment left (verdict.Burst at q)) block v d next lines is f = absurd (false≢true is)
sector_fits h bytes (Moving segment left verdict.Hard) block v d next lines is f = absurd (false≢true is)
sector_fits h bytes (Moving segment left (verdict.Faulted k)) block v d next lines is f = absurd (false≢true is)
sector_fits h bytes (Moving segment left verdict.Marked) block v d next lines is f = absurd (false≢true is)
sector_fits h bytes (Moving segment left verdict.Offline) block v d next lines is f = absurd (false≢true is)
sector_fits h bytes Waiting block v d next lines is f = absurd (false≢true is)
sector_fits h bytes (Steps left segment) block v d next lines is f = absurd (false≢true is)
sector_fits h bytes (UnderWay left segment) block v d next lines is f = absurd (false≢true is)
sector_fits h bytes (AtOnce segment) block v d next lines is f = absurd (false≢true is)
sector_fits h bytes (Saying rest then_stage) block v d next lines is f = absurd (false≢true is)
sector_fits h bytes (Ending answer) block v d next lines is f = absurd (false≢true is)

-- ---- the interrupt
goes_on_from : (h : Hand) (t : Tried) (marks : ℕ) → WasReached t → Goes h t marks
goes_on_from h Untried marks r = tt
goes_on_from h (TriedAt b verdict.Clean) marks r = tt
goes_on_from h (TriedAt b (verdict.Burst at q)) marks r = tt
goes_on_from h (TriedAt b verdict.Hard) marks r = tt
goes_on_from h (TriedAt b (verdict.Faulted k)) marks r = tt
goes_on_from h (TriedAt b verdict.Marked) marks r = absurd r
goes_on_from h (TriedAt b verdict.Offline) marks r = absurd r

ok_fits : (b : Bool) (h : Hand) (lines : List Deed) → EndsOk h lines → EndFits h (if b then WriteOk else ReadOk h.progress.bytes) lines
ok_fits true h lines e = e
ok_fits false h lines e = e

continued_at : (b : Bool) (h : Hand) (lines : List Deed) → h.progress.done == h.request.count ≡ b → IsDone h lines
    → Fits h (if b then Ending (ok_answer h) else AtOnce OwnBlocks) lines
continued_at true h lines is o = ok_fits (is_write h) h lines (record { whole = o; all = eqb-true h.progress.done h.request.count is })
continued_at false h lines is o = record {
  counted = o.counted;
  room = below h.progress.done h.request.count o.room (eqb-false h.progress.done h.request.count is);
  going = goes_on_from h (last_tried lines) (marks_in lines) o.reached;
  few = o.few;
  small = subst (λ z. z < 28) (sym o.fresh) (omega arith);
  failing = subst (λ z. AreFailures false z (start_of OwnBlocks h) lines) (sym o.fresh) tt;
  place = o.unmarked;
}
  where
    below : (a b : ℕ) → a ≤ b → (a ≡ b → ⊥) → a + 1 ≤ b
    below a b le ne = omega arith

continued_fits : (h : Hand) (lines : List Deed) → IsDone h lines → Fits h (continued h) lines
continued_fits h lines o = continued_at (h.progress.done == h.request.count) h lines refl o

-- behind a clean sector, and behind a burst
clean_said : (b : Bool) (h : Hand) (lines : List Deed) → IsDone h (Intr ∷ lines) → Fits h (saying (([] ++ (if b then [] else Centre ∷ [])) ++ []) (continued h)) (Intr ∷ lines)
clean_said true h lines o = continued_fits h (Intr ∷ lines) o
clean_said false h lines o = (tt, continued_fits h (Centre ∷ Intr ∷ lines) (done_quiet Centre h (Intr ∷ lines) tt o))

burst_said : (b : Bool) (h : Hand) (lines : List Deed) → IsDone h (Intr ∷ lines)
    → Fits h (saying ((Clear ∷ [] ++ (if b then [] else Centre ∷ [])) ++ []) (continued h)) (Intr ∷ lines)
burst_said true h lines o = (tt, continued_fits h (Clear ∷ Intr ∷ lines) (done_quiet Clear h (Intr ∷ lines) tt o))
burst_said false h lines o =
    (tt, continued_fits h (Centre ∷ Clear ∷ Intr ∷ lines) (done_quiet Centre h (Clear ∷ Intr ∷ lines) tt (done_quiet Clear h (Intr ∷ lines) tt o)))

-- what the lines tell behind a sector's interrupt
record Behind (block : ℕ) (v : Moved) (before lines : List Deed) : Type 0 where
  done : done_in lines ≡ moved_by v + done_in before
  tried : last_tried lines ≡ TriedAt block v
  marks : marks_in lines ≡ marks_in (Sector block v ∷ before)
  tries : last_try lines ≡ last_try before
  failures : (n : ℕ) → fails v ≡ true → AreFailures false n block before → AreFailures true n block lines
  later : (other : ℕ) → WasMarked other before → WasMarked other lines
  was : v ≡ verdict.Marked → WasMarked block lines

behind_interrupt : (block : ℕ) (v : Moved) (before : List Deed) → Behind block v before (Intr ∷ Sector block v ∷ before)
behind_interrupt block v before = record { done = none_more (moved_by v + done_in before); tried = refl; marks = refl; tries = refl; failures = λ n is f. (refl, is, f); later = λ other w. inr (inr w); was = λ is. inr (inl (ap (λ z. Sector block z) is)) }

behind_clear : (block : ℕ) (v : Moved) (before lines : List Deed) → Behind block v before lines → Behind block v before (Clear ∷ lines)
behind_clear block v before lines e =
    record { done = none_more (done_in lines) ∙ e.done; tried = e.tried; marks = e.marks; tries = e.tries; failures = λ n is f. e.failures n is f; later = λ other w. inr (e.later other w); was = λ is. inr (e.was is) }

behind_centre : (block : ℕ) (v : Moved) (before lines : List Deed) → Behind block v before lines → Behind block v before (Centre ∷ lines)
behind_centre block v before lines e =
    record { done = none_more (done_in lines) ∙ e.done; tried = e.tried; marks = e.marks; tries = e.tries; failures = λ n is f. e.failures n is f; later = λ other w. inr (e.later other w); was = λ is. inr (e.was is) }

-- behind a failure
goes_failed : (h : Hand) (block : ℕ) (v : Moved) (marks : ℕ) → fails v ≡ true → Goes h (TriedAt block v) marks
goes_failed h block verdict.Marked marks is = absurd (false≢true is)
goes_failed h block verdict.Offline marks is = absurd (false≢true is)
goes_failed h block other marks is = tt

failed_moves : (v : Moved) → fails v ≡ true → moved_by v ≡ 0
failed_moves verdict.Clean is = absurd (false≢true is)
failed_moves (verdict.Burst at q) is = absurd (false≢true is)
failed_moves other is = refl

failed_marks : (v : Moved) (block : ℕ) (before : List Deed) → fails v ≡ true → marks_in (Sector block v ∷ before) ≡ marks_in before
failed_marks verdict.Hard block before is = refl
failed_marks (verdict.Faulted k) block before is = refl
failed_marks other block before is = absurd (false≢true is)

-- the hand with one failure more
abbrev pub once_more : Hand → Hand
once_more h = record h { progress = record h.progress { failures = h.progress.failures + 1 } }

same_start : (h : Hand) (segment : Segment) → start_of segment (once_more h) ≡ start_of segment h
same_start h OwnBlocks = refl
same_start h (Replacement block) = refl

place_one : (h : Hand) (segment : Segment) (left marks marks' : ℕ) (before lines : List Deed) → marks' ≡ marks
    → ((other : ℕ) → WasMarked other before → WasMarked other lines) → IsPlace h segment left marks before → IsPlace (once_more h) segment 1 marks' lines
place_one h OwnBlocks left marks marks' before lines is later p = is ∙ p
place_one h (Replacement block) left marks marks' before lines is later p = (
  refl,
  is ∙ p.1,
  record { entry = p.2.entry; listed = p.2.listed; replacement = p.2.replacement; own = later (start_of OwnBlocks h) p.2.own },
)

retried_fits : (recalibrates : Bool) (offset : Option OffsetCode) (h : Hand) (cylinder : ℕ) (segment : Segment) (done : ℕ) (lines : List Deed) → Open h segment 1 lines
    → Fits h (retried (if recalibrates then retry.Recalibrate offset else option_map_or retry.Offset offset retry.Again) cylinder segment done) lines
retried_fits true offset h cylinder segment done lines o = o
retried_fits false None h cylinder segment done lines o = o
retried_fits false (Some code) h cylinder segment done lines o = o

failed_fits : (h : Hand) (segment : Segment) (v : Moved) (before lines : List Deed) (left : ℕ) → 1 ≤ left → fails v ≡ true → Open h segment left before
    → Behind (start_of segment h) v before lines
    → Fits (once_more h) (failed (once_more h) segment) (Try (start_of segment (once_more h)) (h.progress.failures + 1) ∷ lines)
failed_fits h segment v before lines left some is o e = at (h.progress.failures + 1 == 28) refl
  where
    line : Deed
    line = Try (start_of segment (once_more h)) (h.progress.failures + 1)

    counted : done_in lines ≡ h.progress.done
    counted = e.done ∙ ap (λ z. z + done_in before) (failed_moves v is) ∙ none_more (done_in before) ∙ o.counted

    cylinder : ℕ
    cylinder = (place_at h.kind (start_of segment (once_more h))).cylinder

    reads : Bool
    reads = not (is_write h)

    more : (n : ℕ) → suc n ≡ n + 1
    more n = omega arith

    twenty_seven : (n : ℕ) → n + 1 ≡ 28 → n ≡ 27
    twenty_seven n h = omega arith

    step : (n : ℕ) → n + 1 ≡ 28 → AreFailures true n (start_of segment h) lines → AreFailures true 27 (start_of segment h) lines
    step n l a = subst (λ z. AreFailures true z (start_of segment h) lines) (twenty_seven n l) a

    below : (n : ℕ) → n < 28 → (n + 1 ≡ 28 → ⊥) → n + 1 < 28
    below n a b = omega arith

    at : (b : Bool) → h.progress.failures + 1 == 28 ≡ b
        → Fits (once_more h) (retried (if b then retry.GiveUp else if recalibrates_after (h.progress.failures + 1) then retry.Recalibrate (offset_after (h.progress.failures + 1) (not (is_write h)))
        else option_map_or retry.Offset (offset_after (h.progress.failures + 1) (not (is_write h))) retry.Again)
        (place_at h.kind (start_of segment (once_more h))).cylinder segment h.progress.done) (Try (start_of segment (once_more h)) (h.progress.failures + 1) ∷ lines)
    at true last = record {
      is_done = refl;
      counted = none_more (done_in lines) ∙ counted;
      room = omega (arith, o.room, some);
      by = (
        start_of segment h,
        v,
        e.tried,
        is,
        eqb-true (h.progress.failures + 1) 28 last,
        (
          same_start h segment,
          eqb-true (h.progress.failures + 1) 28 last,
          step h.progress.failures (eqb-true (h.progress.failures + 1) 28 last) (e.failures h.progress.failures is o.failing),
        ),
      );
    }
    at false more_left =
        retried_fits (recalibrates_after (h.progress.failures + 1)) (offset_after (h.progress.failures + 1) (not (is_write h))) (once_more h)
        (place_at h.kind (start_of segment (once_more h))).cylinder segment h.progress.done (Try (start_of segment (once_more h)) (h.progress.failures + 1) ∷ lines)
        (record {
          counted = none_more (done_in lines) ∙ counted;
          room = omega (arith, o.room, some);
          going = subst (λ z. Goes (once_more h) z (marks_in lines)) (sym e.tried) (goes_failed (once_more h) (start_of segment h) v (marks_in lines) is);
          few = below h.progress.failures o.small (eqb-false (h.progress.failures + 1) 28 more_left);
          small = below h.progress.failures o.small (eqb-false (h.progress.failures + 1) 28 more_left);
          failing = subst (λ z. AreFailures false z (start_of segment (once_more h)) (Try (start_of segment (once_more h)) (h.progress.failures + 1) ∷ lines)) (more h.progress.failures)
              (refl, sym (more h.progress.failures), subst (λ z. AreFailures true h.progress.failures z lines) (sym (same_start h segment)) (e.failures h.progress.failures is o.failing));
          place = place_one h segment left (marks_in before) (marks_in lines) before (Try (start_of segment (once_more h)) (h.progress.failures + 1) ∷ lines)
              (e.marks ∙ failed_marks v (start_of segment h) before is) (λ other w. inr (e.later other w)) o.place;
        })

failed_said : (b : Bool) (h : Hand) (segment : Segment) (v : Moved) (before : List Deed) (left : ℕ) → 1 ≤ left → fails v ≡ true → Open h segment left before
    → Fits (once_more h)
    (saying ((Clear ∷ [] ++ (if b then [] else Centre ∷ [])) ++ (Try (start_of segment (once_more h)) (h.progress.failures + 1) ∷ [])) (failed (once_more h) segment))
    (Intr ∷ Sector (start_of segment h) v ∷ before)
failed_said true h segment v before left some is o = (
  tt,
  failed_fits h segment v before (Clear ∷ Intr ∷ Sector (start_of segment h) v ∷ before) left some is o
      (behind_clear (start_of segment h) v before (Intr ∷ Sector (start_of segment h) v ∷ before) (behind_interrupt (start_of segment h) v before)),
)
failed_said false h segment v before left some is o = (
  tt,
  failed_fits h segment v before (Centre ∷ Clear ∷ Intr ∷ Sector (start_of segment h) v ∷ before) left some is o
      (behind_centre (start_of segment h) v before (Clear ∷ Intr ∷ Sector (start_of segment h) v ∷ before)
      (behind_clear (start_of segment h) v before (Intr ∷ Sector (start_of segment h) v ∷ before) (behind_interrupt (start_of segment h) v before))),
)

-- behind a mark
abbrev pub moved_on : Hand → Hand
moved_on h = record h { progress = record h.progress { failures = 0 } }

forwarded_fits : (h : Hand) (before lines : List Deed) (left : ℕ) (entry : Option ℕ) → entry_of h (start_of OwnBlocks h) ≡ entry → 1 ≤ left → Open h OwnBlocks left before
    → Behind (start_of OwnBlocks h) verdict.Marked before lines → Fits (moved_on h) (forwarded (moved_on h) entry) lines
forwarded_fits h before lines left None is some o e = record {
  is_done = refl;
  counted = e.done ∙ none_more (done_in before) ∙ o.counted;
  room = omega (arith, o.room, some);
  by = (start_of OwnBlocks h, e.tried, inr (is, refl), subst (λ z. z < 28) (sym e.tries) o.few, e.was refl);
}
forwarded_fits h before lines left (Some i) is some o e = record {
  counted = e.done ∙ none_more (done_in before) ∙ o.counted;
  room = omega (arith, o.room, some);
  going = subst (λ z. Goes (moved_on h) z (marks_in lines)) (sym e.tried) (marks_one, λ none. none-some i (sym none ∙ is));
  few = subst (λ z. z < 28) (sym e.tries) o.few;
  small = omega arith;
  failing = tt;
  place = (refl, marks_one, record { entry = i; listed = is; replacement = refl; own = e.was refl });
}
  where
    marks_one : marks_in lines ≡ 1
    marks_one = e.marks ∙ ap (λ z. z + 1) o.place

marked_fits : (h : Hand) (segment : Segment) (before lines : List Deed) (left : ℕ) → 1 ≤ left → Open h segment left before
    → Behind (start_of segment h) verdict.Marked before lines → Fits (moved_on h) (marked (moved_on h) segment) lines
marked_fits h OwnBlocks before lines left some o e = forwarded_fits h before lines left (entry_of h (start_of OwnBlocks h)) refl some o e
marked_fits h (Replacement block) before lines left some o e = record {
  is_done = refl;
  counted = e.done ∙ none_more (done_in before) ∙ o.counted;
  room = omega (arith, o.room, some);
  by = (
    block,
    e.tried,
    inl (
      e.marks ∙ ap (λ z. z + 1) o.place.1,
      record { entry = o.place.2.entry; listed = o.place.2.listed; replacement = o.place.2.replacement; own = e.later (start_of OwnBlocks h) o.place.2.own },
    ),
    subst (λ z. z < 28) (sym e.tries) o.few,
    e.was refl,
  );
}

marked_said : (b : Bool) (h : Hand) (segment : Segment) (before : List Deed) (left : ℕ) → 1 ≤ left → Open h segment left before
    → Fits (moved_on h) (saying ((Clear ∷ [] ++ (if b then [] else Centre ∷ [])) ++ []) (marked (moved_on h) segment)) (Intr ∷ Sector (start_of segment h) verdict.Marked ∷ before)
marked_said true h segment before left some o = (
  tt,
  marked_fits h segment before (Clear ∷ Intr ∷ Sector (start_of segment h) verdict.Marked ∷ before) left some o
      (behind_clear (start_of segment h) verdict.Marked before (Intr ∷ Sector (start_of segment h) verdict.Marked ∷ before) (behind_interrupt (start_of segment h) verdict.Marked before)),
)
marked_said false h segment before left some o = (
  tt,
  marked_fits h segment before (Centre ∷ Clear ∷ Intr ∷ Sector (start_of segment h) verdict.Marked ∷ before) left some o
      (behind_centre (start_of segment h) verdict.Marked before (Clear ∷ Intr ∷ Sector (start_of segment h) verdict.Marked ∷ before)
      (behind_clear (start_of segment h) verdict.Marked before (Intr ∷ Sector (start_of segment h) verdict.Marked ∷ before) (behind_interrupt (start_of segment h) verdict.Marked before))),
)

-- behind a try on a unit that was offline
offline_fits : (h : Hand) (segment : Segment) (before lines : List Deed) (left : ℕ) → 1 ≤ left → Open h segment left before
    → Behind (start_of segment h) verdict.Offline before lines → EndsFailed h Offline h.progress.done lines
offline_fits h segment before lines left some o e = record {
  is_done = refl;
  counted = e.done ∙ none_more (done_in before) ∙ o.counted;
  room = omega (arith, o.room, some);
  by = (start_of segment h, e.tried, subst (λ z. z < 28) (sym e.tries) o.few);
}

offline_said : (b : Bool) (h : Hand) (segment : Segment) (before : List Deed) (left : ℕ) → 1 ≤ left → Open h segment left before
    → Fits h (saying ((Clear ∷ [] ++ (if b then [] else Centre ∷ [])) ++ []) (Ending (Failed Offline h.progress.done))) (Intr ∷ Sector (start_of segment h) verdict.Offline ∷ before)
offline_said true h segment before left some o = (
  tt,
  offline_fits h segment before (Clear ∷ Intr ∷ Sector (start_of segment h) verdict.Offline ∷ before) left some o
      (behind_clear (start_of segment h) verdict.Offline before (Intr ∷ Sector (start_of segment h) verdict.Offline ∷ before) (behind_interrupt (start_of segment h) verdict.Offline before)),
)
offline_said false h segment before left some o = (
  tt,
  offline_fits h segment before (Centre ∷ Clear ∷ Intr ∷ Sector (start_of segment h) verdict.Offline ∷ before) left some o
      (behind_centre (start_of segment h) verdict.Offline before (Clear ∷ Intr ∷ Sector (start_of segment h) verdict.Offline ∷ before)
      (behind_clear (start_of segment h) verdict.Offline before (Intr ∷ Sector (start_of segment h) verdict.Offline ∷ before) (behind_interrupt (start_of segment h) verdict.Offline before))),
)

-- a burst is done at its interrupt
burst_done : (h : Hand) (segment : Segment) (at pattern : ℕ) (before : List Deed) (left : ℕ) → 1 ≤ left → Open h segment left before
    → IsDone (record h { progress = progress_interrupted (verdict.Burst at pattern) h.progress }) (Intr ∷ Sector (start_of segment h) (verdict.Burst at pattern) ∷ before)
burst_done h segment at pattern before left some o =
    record { counted = omega (arith, o.counted); room = omega (arith, o.room, some); reached = tt; few = o.few; fresh = refl; unmarked = refl }

abbrev pub interrupted : Hand → Moved → Hand
interrupted h v = record h { progress = progress_interrupted v h.progress }

moved_interrupted : (d : DriveState) (h : Hand) (segment : Segment) (left : ℕ) (v : Moved) (lines : List Deed)
    → (left == 0) || not (is_clean v) ≡ true → MoveFits h segment left v lines → Fits (interrupted h v) (interrupted_by v d (interrupted h v) segment) (Intr ∷ lines)
moved_interrupted d h segment zero verdict.Clean lines is f = clean_said (offset_field d.offset == 0) h lines (done_quiet Intr h lines tt f)
moved_interrupted d h segment (suc n) verdict.Clean lines is f = absurd (omega (arith, or_zero (suc n) is))
moved_interrupted d h segment left (verdict.Burst at q) lines is f =
    subst (λ z. Fits (interrupted h (verdict.Burst at q)) (interrupted_by (verdict.Burst at q) d (interrupted h (verdict.Burst at q)) segment) (Intr ∷ z)) (sym f.is)
    (burst_said (offset_field d.offset == 0) (interrupted h (verdict.Burst at q)) (Sector (start_of segment h) (verdict.Burst at q) ∷ f.before)
    (burst_done h segment at q f.before f.left f.some f.open_before))
moved_interrupted d h segment left verdict.Hard lines is f =
    subst (λ z. Fits (interrupted h verdict.Hard) (interrupted_by verdict.Hard d (interrupted h verdict.Hard) segment) (Intr ∷ z)) (sym f.is)
    (failed_said (offset_field d.offset == 0) h segment verdict.Hard f.before f.left f.some refl f.open_before)
moved_interrupted d h segment left (verdict.Faulted k) lines is f =
    subst (λ z. Fits (interrupted h (verdict.Faulted k)) (interrupted_by (verdict.Faulted k) d (interrupted h (verdict.Faulted k)) segment) (Intr ∷ z)) (sym f.is)
    (failed_said (offset_field d.offset == 0) h segment (verdict.Faulted k) f.before f.left f.some refl f.open_before)
moved_interrupted d h segment left verdict.Marked lines is f =
    subst (λ z. Fits (interrupted h verdict.Marked) (interrupted_by verdict.Marked d (interrupted h verdict.Marked) segment) (Intr ∷ z)) (sym f.is)
    (marked_said (offset_field d.offset == 0) h segment f.before f.left f.some f.open_before)
moved_interrupted d h segment left verdict.Offline lines is f =
    subst (λ z. Fits (interrupted h verdict.Offline) (interrupted_by verdict.Offline d (interrupted h verdict.Offline) segment) (Intr ∷ z)) (sym f.is)
    (offline_said (offset_field d.offset == 0) h segment f.before f.left f.some f.open_before)

pub intr_fits : (d : DriveState) (h : Hand) (next : Option Request) (stage : Stage) (lines : List Deed) → intr_may stage ≡ true → Fits h stage lines
    → Fits (interrupted h (last_of stage)) (stage_after stage Intr d (interrupted h (last_of stage)) next) (Intr ∷ lines)
intr_fits d h next (Moving segment left last) lines is f = moved_interrupted d h segment left last lines is f
intr_fits d h next other lines is f = absurd (false≢true is)
