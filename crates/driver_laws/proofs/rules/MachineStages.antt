-- Where a request stands, line by line: what its stage says of the map stays so.
use Rattle.std.proofs.Common.{◌≡◌, ℕ, zero, suc, ◌≤◌, ◌+◌, ◌==◌, ◌&&◌, nat_lt, true, not, List, [], ◌∷◌, ◌++◌, Option, None, Some, refl, subst, arith, ◌∙◌, rules}
use Rattle.std.specs.Prelude.{is_some}
use Rattle.std.proofs.lemmas.Option.{same_Some, none-some}
use Rattle.std.proofs.lemmas.Bool.Decides.{nat_tests}
use Rattle.std.proofs.lemmas.Bool.{false≢true}
use Rattle.hardware_table.specs.declared.Moved.{Moved}
use Rattle.hardware_table.specs.declared.Moved.TheVariants as verdict
use Rattle.hardware_table.specs.declared.Work.{Work}
use Rattle.hardware_table.specs.Drive.{DriveState, is_writing, is_transferring}
use Rattle.trace_replay.specs.Schedule.{step_after}
use Rattle.trace_replay.specs.declared.retry_offsets.Step.{Step}
use Rattle.trace_replay.specs.declared.retry_offsets.Step.TheVariants as retry
use Rattle.pack_geometry.specs.Geometry.{place_at}
use Rattle.trace_replay.specs.requests.Requests.{Request}
use Rattle.trace_replay.specs.Moments.{Deed, Transfer, End}
use Rattle.trace_replay.specs.Packs.{repaired_from}
use Rattle.trace_replay.specs.Conversation.{Hand, Stage, Waiting, Steps, UnderWay, AtOnce, Moving, Saying, Ending, Segment, OwnBlocks, Replacement, Positioning, SearchFor, Progress, due, guarded, transfer_of, command_of, needs_unlocked, is_write, step_taken, step_ended, said, saying, sector_may, is_under_way, progress_interrupted, outcome, interrupted_by, continued, retried, marked, forwarded, entry_of, start_of, clear_lines, centre_lines, try_lines, last_of}
use Rattle.trace_replay.proofs.Histories.{Fits, Open, AreSaid, guard_holds}
use Rattle.driver_laws.specs.rules.Machine.{Blocks}
use Rattle.driver_laws.specs.rules.Stands.{HandStands, LastStands, RestStands, StageStands}
use Rattle.driver_laws.proofs.rules.Blocks.{repaired_length}
use Rattle.driver_laws.proofs.rules.Hands.{same_hand, read_more}

-- ---- a stage behind lines
pub rest_stands : (sure : ℕ → Type 0) (homes : ℕ → Option ℕ) (first : ℕ) (r : Request) (p : Progress) (blocks : Blocks) (work : Work) (next : Stage) → RestStands r p next → StageStands sure homes first r p blocks work next
rest_stands sure homes first r p blocks work next is = search rules

pub saying_stands : (sure : ℕ → Type 0) (homes : ℕ → Option ℕ) (first : ℕ) (r : Request) (p : Progress) (blocks : Blocks) (work : Work) (lines : List Deed) (next : Stage) → RestStands r p next
    → StageStands sure homes first r p blocks work (saying lines next)
saying_stands sure homes first r p blocks work [] next is = rest_stands sure homes first r p blocks work next is
saying_stands sure homes first r p blocks work (line ∷ lines) next is = is

-- ---- a line that is due by itself: PACK leaves the stage, a step's command takes a step, and a line behind an interrupt was said
pub pack_stands : (sure : ℕ → Type 0) (homes : ℕ → Option ℕ) (first : ℕ) (r : Request) (p : Progress) (blocks : Blocks) (was now : Work) (d : DriveState) (h : Hand) (deed : Deed) (stage : Stage)
    → due d h stage ≡ Some deed → StageStands sure homes first r p blocks was stage → StageStands sure homes first r p blocks now stage
pack_stands sure homes first r p blocks was now d h deed stage is st = search rules

pub step_stands : (sure : ℕ → Type 0) (homes : ℕ → Option ℕ) (first : ℕ) (r : Request) (p : Progress) (blocks : Blocks) (was now : Work) (d : DriveState) (h : Hand) (deed : Deed) (stage : Stage)
    → due d h stage ≡ Some deed → StageStands sure homes first r p blocks was stage → StageStands sure homes first r p blocks now (step_taken stage)
step_stands sure homes first r p blocks was now d h deed stage is st = search rules

pub said_stands : (sure : ℕ → Type 0) (homes : ℕ → Option ℕ) (first : ℕ) (r : Request) (p : Progress) (blocks : Blocks) (was now : Work) (d : DriveState) (h : Hand) (deed : Deed) (stage : Stage)
    → due d h stage ≡ Some deed → StageStands sure homes first r p blocks was stage → StageStands sure homes first r p blocks now (said stage)
said_stands sure homes first r p blocks was now d h deed stage is st = search rules

-- ---- lines that an event brings
pub arrive_stands : (sure : ℕ → Type 0) (homes : ℕ → Option ℕ) (first : ℕ) (r : Request) (p : Progress) (blocks : Blocks) (now : Work) (stage : Stage)
    → is_under_way stage ≡ true → StageStands sure homes first r p blocks now stage
arrive_stands sure homes first r p blocks now (UnderWay left segment) is = tt
arrive_stands sure homes first r p blocks now other is = absurd (false≢true is)

pub attn_stands : (sure : ℕ → Type 0) (homes : ℕ → Option ℕ) (first : ℕ) (r : Request) (p : Progress) (blocks : Blocks) (now : Work) (stage : Stage)
    → is_under_way stage ≡ true → StageStands sure homes first r p blocks now (step_ended stage)
attn_stands sure homes first r p blocks now (UnderWay left segment) is = tt
attn_stands sure homes first r p blocks now other is = absurd (false≢true is)

-- ---- a transfer that is commanded goes in the request's direction
abbrev pub Goes : Hand → Deed → Type 0
Goes h (Transfer write block count) = write ≡ is_write h
Goes h deed = Unit {0}

step_goes : (h : Hand) (step : Positioning) → Goes h (command_of step)
step_goes h (SearchFor c y) = tt
step_goes h other = tt

line_goes : (h : Hand) (line : Deed) (rest : List Deed) → AreSaid (line ∷ rest) → Goes h line
line_goes h line rest a = search rules

pub due_goes : (d : DriveState) (h : Hand) (stage : Stage) (deed : Deed) (lines : List Deed) → due d h stage ≡ Some deed → Fits h stage lines → Goes h deed
due_goes d h Waiting deed lines is f = absurd (none-some deed is)
due_goes d h (Steps [] segment) deed lines is f =
    guard_holds (Goes h) d.online (is_write h && d.locked) d.valid h.progress.done (transfer_of segment h) deed (same_Some (guarded d h (transfer_of segment h)) deed is) tt tt tt refl
due_goes d h (Steps (step ∷ left) segment) deed lines is f =
    guard_holds (Goes h) d.online (needs_unlocked (command_of step) && d.locked) d.valid h.progress.done (command_of step) deed (same_Some (guarded d h (command_of step)) deed is) tt tt tt (step_goes h step)
due_goes d h (UnderWay left segment) deed lines is f = absurd (none-some deed is)
due_goes d h (AtOnce segment) deed lines is f =
    guard_holds (Goes h) d.online (is_write h && d.locked) d.valid h.progress.done (transfer_of segment h) deed (same_Some (guarded d h (transfer_of segment h)) deed is) tt tt tt refl
due_goes d h (Moving segment left last) deed lines is f = absurd (none-some deed is)
due_goes d h (Saying [] next) deed lines is f = absurd (none-some deed is)
due_goes d h (Saying (line ∷ rest) next) deed lines is f = subst (Goes h) (same_Some line deed is) (line_goes h line rest f.0)
due_goes d h (Ending answer) deed lines is f = subst (Goes h) (same_Some (End answer) deed is) tt

-- ---- a sector that may come
pub record MaySector (h : Hand) (stage : Stage) (block : ℕ) (lines : List Deed) : Type 0 where
  pub segment : Segment
  pub left : ℕ
  pub some : 1 ≤ left
  pub open_now : Open h segment left lines
  pub block_is : block ≡ start_of segment h

pub may_sector : (h : Hand) (stage : Stage) (block : ℕ) (lines : List Deed) → sector_may h stage block ≡ true → Fits h stage lines → MaySector h stage block lines
may_sector h Waiting block lines is f = absurd (false≢true is)
may_sector h (Steps left segment) block lines is f = absurd (false≢true is)
may_sector h (UnderWay left segment) block lines is f = absurd (false≢true is)
may_sector h (AtOnce segment) block lines is f = absurd (false≢true is)
may_sector h (Moving segment zero verdict.Clean) block lines is f = absurd (false≢true is)
may_sector h (Moving segment (suc n) verdict.Clean) block lines is f = record { segment = segment; left = suc n; some = omega arith; open_now = f; block_is = same n block (start_of segment h) is }
  where
    same : (n a b : ℕ) → nat_lt 0 (suc n) && (a == b) ≡ true → a ≡ b
    same n a b is = grind (arith, nat_tests)
may_sector h (Moving segment left (verdict.Burst at q)) block lines is f = absurd (false≢true is)
may_sector h (Moving segment left verdict.Hard) block lines is f = absurd (false≢true is)
may_sector h (Moving segment left (verdict.Faulted k)) block lines is f = absurd (false≢true is)
may_sector h (Moving segment left verdict.Marked) block lines is f = absurd (false≢true is)
may_sector h (Moving segment left verdict.Offline) block lines is f = absurd (false≢true is)
may_sector h (Saying rest next) block lines is f = absurd (false≢true is)
may_sector h (Ending answer) block lines is f = absurd (false≢true is)

pub sector_goes : (sure : ℕ → Type 0) (homes : ℕ → Option ℕ) (first : ℕ) (r : Request) (p : Progress) (blocks : Blocks) (now : Work) (h : Hand) (stage : Stage) (block : ℕ)
    → sector_may h stage block ≡ true → StageStands sure homes first r p blocks now stage → is_transferring now ≡ true → is_writing now ≡ is_some r.written
sector_goes sure homes first r p blocks now h (Moving segment left last) block is st = st.0
sector_goes sure homes first r p blocks now h other block is st = absurd (false≢true is)

-- ---- the interrupt
pub interrupted_hand : (sure : ℕ → Type 0) (homes : ℕ → Option ℕ) (first : ℕ) (r : Request) (p : Progress) (sectors : ℕ → List ℕ) (blocks : Blocks) (last : Moved)
    → LastStands sure homes first r p blocks last → HandStands sure homes first r p sectors blocks → HandStands sure homes first r (progress_interrupted last p) sectors blocks
interrupted_hand sure homes first r p sectors blocks (verdict.Burst at q) l h =
    read_more sure homes first r p (record p { done = p.done + 1; failures = 0; bytes = p.bytes ++ repaired_from 0 at q p.struck; struck = [] }) sectors blocks (repaired_from 0 at q p.struck) refl refl l.reads l.usable (repaired_length 0 at q p.struck ∙ l.size) l.repaired h
interrupted_hand sure homes first r p sectors blocks verdict.Hard l h = same_hand sure homes first r p (record p { failures = p.failures + 1 }) sectors blocks refl refl h
interrupted_hand sure homes first r p sectors blocks (verdict.Faulted k) l h = same_hand sure homes first r p (record p { failures = p.failures + 1 }) sectors blocks refl refl h
interrupted_hand sure homes first r p sectors blocks verdict.Marked l h = same_hand sure homes first r p (record p { failures = 0 }) sectors blocks refl refl h
interrupted_hand sure homes first r p sectors blocks other l h = h

retried_stands : (r : Request) (p : Progress) (step : Step) (cylinder : ℕ) (segment : Segment) (done : ℕ) → RestStands r p (retried step cylinder segment done)
retried_stands r p retry.Again cylinder segment done = tt
retried_stands r p other cylinder segment done = tt

forwarded_stands : (h : Hand) (p : Progress) (entry : Option ℕ) → RestStands h.request p (forwarded h entry)
forwarded_stands h p None = tt
forwarded_stands h p (Some i) = tt

marked_stands : (h : Hand) (p : Progress) (segment : Segment) → RestStands h.request p (marked h segment)
marked_stands h p OwnBlocks = forwarded_stands h p (entry_of h (start_of OwnBlocks h))
marked_stands h p (Replacement b) = tt

continued_stands : (h : Hand) → RestStands h.request h.progress (continued h)
continued_stands h = search rules

outcome_stands : (h : Hand) (segment : Segment) (last : Moved) → RestStands h.request h.progress (outcome last h segment)
outcome_stands h segment verdict.Hard = retried_stands h.request h.progress (step_after h.progress.failures (not (is_write h))) (place_at h.kind (start_of segment h)).cylinder segment h.progress.done
outcome_stands h segment (verdict.Faulted k) = retried_stands h.request h.progress (step_after h.progress.failures (not (is_write h))) (place_at h.kind (start_of segment h)).cylinder segment h.progress.done
outcome_stands h segment verdict.Marked = marked_stands h h.progress segment
outcome_stands h segment verdict.Offline = tt
outcome_stands h segment other = continued_stands h

pub interrupted_stage : (sure : ℕ → Type 0) (homes : ℕ → Option ℕ) (first : ℕ) (blocks : Blocks) (now : Work) (d : DriveState) (h : Hand) (segment : Segment) (last : Moved)
    → StageStands sure homes first h.request h.progress blocks now (interrupted_by last d h segment)
interrupted_stage sure homes first blocks now d h segment last =
    saying_stands sure homes first h.request h.progress blocks now (clear_lines last ++ centre_lines d ++ try_lines last (start_of segment h) h.progress.failures) (outcome last h segment) (outcome_stands h segment last)

-- the last verdict, of a stage at which the interrupt may come
pub last_stands : (sure : ℕ → Type 0) (homes : ℕ → Option ℕ) (first : ℕ) (r : Request) (p : Progress) (blocks : Blocks) (now : Work) (stage : Stage)
    → StageStands sure homes first r p blocks now stage → LastStands sure homes first r p blocks (last_of stage)
last_stands sure homes first r p blocks now (Moving segment left last) st = st.1
last_stands sure homes first r p blocks now other st = tt
