-- Which lines may come where a unit stands, and where they lead.
use Rattle.std.proofs.Common.{◌≡◌, ℕ, ◌&&◌, ◌==◌, Bool, true, false, not, List, [], ◌∷◌, ◌++◌, Option, None, Some, is_some, refl, sym, ap, subst, nat_lt, rules}
use Rattle.std.specs.Prelude.{if◌then◌else◌}
use Rattle.std.proofs.lemmas.Option.{same_Some, none-some}
use Rattle.std.proofs.lemmas.Bool.{false≢true, true≢false, and_from, not-true}
use Rattle.hardware_table.specs.declared.Moved.{Moved}
use Rattle.hardware_table.specs.declared.Moved.TheVariants as verdict
use Rattle.hardware_table.specs.Drive.{DriveState}
use Rattle.trace_replay.specs.requests.Requests.{Request}
use Rattle.trace_replay.specs.Moments.{Deed, Search, Seek, Recal, Offset, Centre, Clear, Pack, Transfer, Arrive, Sector, Intr, Try, Attn, End}
use Rattle.trace_replay.specs.Conversation.{Hand, Stage, Waiting, Steps, UnderWay, AtOnce, Moving, Saying, Ending, Segment, OwnBlocks, due, guarded, transfer_of, command_of, needs_unlocked, is_write, is_waiting, waits, goes_on, is_under_way, step_taken, step_ended, said, saying, begun, interrupted_by, outcome, start_of, clear_lines, try_lines, is_clean, last_of, left_of, sector_may, intr_may, Positioning, SearchFor}
use Rattle.trace_replay.proofs.Histories.{guard_holds}
use Rattle.driver_laws.specs.rules.Consistent.{is_moving, may_have_errors, is_behind_interrupt, are_behind_interrupt, follows_lines, is_well_said, is_cleared_next}

pub first_of : (x y : Bool) → (x && y) ≡ true → x ≡ true
first_of true y e = refl
first_of false y e = e

pub second_of : (x y : Bool) → (x && y) ≡ true → y ≡ true
second_of true y e = e
second_of false y e = absurd (false≢true e)

-- THE SORTS of lines that are due
pub data Sort : Type 0 where
  Positions : Sort
  Says : Sort
  Acknowledges : Sort
  Transfers : Sort
  Ends : Sort
  Brought : Sort

abbrev pub sort_of : Deed → Sort
sort_of (Search c y) = Positions
sort_of (Seek c) = Positions
sort_of Recal = Positions
sort_of (Offset o) = Positions
sort_of Centre = Says
sort_of Clear = Says
sort_of Pack = Acknowledges
sort_of (Transfer w b k) = Transfers
sort_of Arrive = Brought
sort_of (Sector b v) = Brought
sort_of Intr = Brought
sort_of (Try b f) = Says
sort_of Attn = Brought
sort_of (End a) = Ends

-- which of them are due where a unit stands
abbrev pub allowed : Stage → Sort → Bool
allowed (Steps [] segment) Transfers = true
allowed (Steps [] segment) Acknowledges = true
allowed (Steps [] segment) Ends = true
allowed (Steps (step ∷ left) segment) Positions = true
allowed (Steps (step ∷ left) segment) Acknowledges = true
allowed (Steps (step ∷ left) segment) Ends = true
allowed (AtOnce segment) Transfers = true
allowed (AtOnce segment) Acknowledges = true
allowed (AtOnce segment) Ends = true
allowed (Saying (line ∷ lines) next) Says = true
allowed (Ending answer) Ends = true
allowed stage sort = false

positions : (step : Positioning) → sort_of (command_of step) ≡ Positions
positions (SearchFor c y) = refl
positions other = refl

says : (line : Deed) → is_behind_interrupt line ≡ true → sort_of line ≡ Says
says line is = search rules

pub due_allowed : (d : DriveState) (h : Hand) (stage : Stage) (deed : Deed) → is_well_said stage ≡ true → due d h stage ≡ Some deed
    → allowed stage (sort_of deed) ≡ true
due_allowed d h Waiting deed ok is = absurd (none-some deed is)
due_allowed d h (Steps [] segment) deed ok is =
    guard_holds (λ z. allowed (Steps [] segment) (sort_of z) ≡ true) d.online (is_write h && d.locked) d.valid h.progress.done (transfer_of segment h) deed
    (same_Some (guarded d h (transfer_of segment h)) deed is) refl refl refl refl
due_allowed d h (Steps (step ∷ left) segment) deed ok is =
    guard_holds (λ z. allowed (Steps (step ∷ left) segment) (sort_of z) ≡ true) d.online (needs_unlocked (command_of step) && d.locked) d.valid h.progress.done (command_of step) deed
    (same_Some (guarded d h (command_of step)) deed is) refl refl refl (subst (λ z. allowed (Steps (step ∷ left) segment) z ≡ true) (sym (positions step)) refl)
due_allowed d h (UnderWay left segment) deed ok is = absurd (none-some deed is)
due_allowed d h (AtOnce segment) deed ok is =
    guard_holds (λ z. allowed (AtOnce segment) (sort_of z) ≡ true) d.online (is_write h && d.locked) d.valid h.progress.done (transfer_of segment h) deed
    (same_Some (guarded d h (transfer_of segment h)) deed is) refl refl refl refl
due_allowed d h (Moving segment left last) deed ok is = absurd (none-some deed is)
due_allowed d h (Saying [] next) deed ok is = absurd (none-some deed is)
due_allowed d h (Saying (line ∷ rest) next) deed ok is =
    subst (λ z. allowed (Saying (line ∷ rest) next) (sort_of z) ≡ true) (same_Some line deed is)
    (subst (λ z. allowed (Saying (line ∷ rest) next) z ≡ true) (sym (says line (first_of (is_behind_interrupt line) (are_behind_interrupt rest) (first_of (is_behind_interrupt line && are_behind_interrupt rest) (follows_lines next) ok)))) refl)
due_allowed d h (Ending answer) deed ok is = subst (λ z. allowed (Ending answer) (sort_of z) ≡ true) (same_Some (End answer) deed is) refl

-- A STAGE IS QUIET where a request is in hand, and neither a step nor a transfer is under way.
pub record Quiet (stage : Stage) : Type 0 where
  pub waiting : is_waiting stage ≡ false
  pub under : is_under_way stage ≡ false
  pub moving : is_moving stage ≡ false
  pub said : is_well_said stage ≡ true

pub quiet_before : (stage : Stage) (sort : Sort) → is_well_said stage ≡ true → allowed stage sort ≡ true → Quiet stage
quiet_before stage sort ok is = search rules

-- where the commands of steps lead
pub record Stepping (old new : Stage) : Type 0 where
  pub waiting : is_waiting new ≡ false
  pub under : is_under_way new ≡ true
  pub moving : is_moving new ≡ false
  pub said : is_well_said new ≡ true
  pub queued : waits new ≡ false
  pub silent : goes_on new ≡ false
  pub free : waits old ≡ false
  pub clear : may_have_errors old ≡ false

pub step_begins : (stage : Stage) → allowed stage Positions ≡ true → Stepping stage (step_taken stage)
step_begins stage is = search rules

-- where a line leads behind which nothing is under way
pub record Quieted (old new : Stage) : Type 0 where
  pub quiet : Quiet new
  pub free : waits old ≡ false

pub follows_quiet : (next : Stage) → follows_lines next ≡ true → Quiet next
follows_quiet next is = search rules

pub saying_quiet : (lines : List Deed) (next : Stage) → are_behind_interrupt lines ≡ true → follows_lines next ≡ true → Quiet (saying lines next)
saying_quiet [] next are is = follows_quiet next is
saying_quiet (line ∷ rest) next are is = record { waiting = refl; under = refl; moving = refl; said = and_from (is_behind_interrupt line && are_behind_interrupt rest) (follows_lines next) are is }

pub said_on : (stage : Stage) → is_well_said stage ≡ true → allowed stage Says ≡ true → Quieted stage (said stage)
said_on Waiting ok is = absurd (false≢true is)
said_on (Steps [] segment) ok is = absurd (false≢true is)
said_on (Steps (step ∷ left) segment) ok is = absurd (false≢true is)
said_on (UnderWay left segment) ok is = absurd (false≢true is)
said_on (AtOnce segment) ok is = absurd (false≢true is)
said_on (Moving segment left last) ok is = absurd (false≢true is)
said_on (Saying [] next) ok is = absurd (false≢true is)
said_on (Saying (line ∷ rest) next) ok is = record {
  quiet = saying_quiet rest next (second_of (is_behind_interrupt line) (are_behind_interrupt rest) (first_of (is_behind_interrupt line && are_behind_interrupt rest) (follows_lines next) ok)) (second_of (is_behind_interrupt line && are_behind_interrupt rest) (follows_lines next) ok);
  free = refl;
}
said_on (Ending answer) ok is = absurd (false≢true is)

-- an attention ends the step
pub record Ended (old new : Stage) : Type 0 where
  pub quiet : Quiet new
  pub free : waits old ≡ false
  pub clear : may_have_errors old ≡ false

pub step_over : (stage : Stage) → is_under_way stage ≡ true → Ended stage (step_ended stage)
step_over (UnderWay left segment) is = record { quiet = record { waiting = refl; under = refl; moving = refl; said = refl }; free = refl; clear = refl }
step_over other is = absurd (false≢true is)

-- ---- the interrupt
outcome_follows : (v : Moved) (h : Hand) (segment : Segment) → follows_lines (outcome v h segment) ≡ true
outcome_follows v h segment = search rules

tries_behind : (v : Moved) (block failures : ℕ) → are_behind_interrupt (try_lines v block failures) ≡ true
tries_behind verdict.Clean b f = refl
tries_behind other b f = refl

centres_behind : (b : Bool) → are_behind_interrupt (if b then [] else Centre ∷ []) ≡ true
centres_behind true = refl
centres_behind false = refl

clears_behind : (v : Moved) → are_behind_interrupt (clear_lines v) ≡ true
clears_behind verdict.Clean = refl
clears_behind other = refl

all_behind : (xs ys : List Deed) → are_behind_interrupt xs ≡ true → are_behind_interrupt ys ≡ true → are_behind_interrupt (xs ++ ys) ≡ true
all_behind [] ys one other = other
all_behind (x ∷ xs) ys one other =
    and_from (is_behind_interrupt x) (are_behind_interrupt (xs ++ ys)) (first_of (is_behind_interrupt x) (are_behind_interrupt xs) one)
    (all_behind xs ys (second_of (is_behind_interrupt x) (are_behind_interrupt xs) one) other)

pub interrupted_quiet : (v : Moved) (d : DriveState) (h : Hand) (segment : Segment) → Quiet (interrupted_by v d h segment)
interrupted_quiet v d h segment = search (rules, saying_quiet, all_behind, clears_behind, centres_behind, tries_behind, outcome_follows)

-- what is not clean is cleared first
pub cleared_first : (v : Moved) (d : DriveState) (h : Hand) (segment : Segment) → is_clean v ≡ false → may_have_errors (interrupted_by v d h segment) ≡ true
cleared_first verdict.Clean d h segment is = absurd (true≢false is)
cleared_first other d h segment is = refl

-- ---- the next request
pub begun_waits : (d : DriveState) (next : Option Request) → is_waiting (begun d next) ≡ not (is_some next)
begun_waits d None = refl
begun_waits d (Some r) = refl

pub begun_still : (d : DriveState) (next : Option Request) → (is_under_way (begun d next) ≡ false) × (is_moving (begun d next) ≡ false) × (is_well_said (begun d next) ≡ true)
begun_still d None = (refl, refl, refl)
begun_still d (Some r) = (refl, refl, refl)

-- ---- errors
pub first_said : (d : DriveState) (h : Hand) (stage : Stage) (deed : Deed) → due d h stage ≡ Some deed → allowed stage Says ≡ true
    → ((rest : List Deed) → is_cleared_next (deed ∷ rest) ≡ false) → may_have_errors stage ≡ false
first_said d h stage deed is ok other = search rules

pub transfers_clear : (stage : Stage) → allowed stage Transfers ≡ true → may_have_errors stage ≡ false
transfers_clear stage ok = search rules

pub ends_clear : (stage : Stage) → allowed stage Ends ≡ true → may_have_errors stage ≡ false
ends_clear stage ok = search rules

-- a step is under way
pub under_way : (stage : Stage) → is_under_way stage ≡ true → Stepping (UnderWay [] OwnBlocks) stage
under_way (UnderWay left segment) is = record { waiting = refl; under = refl; moving = refl; said = refl; queued = refl; silent = refl; free = refl; clear = refl }
under_way other is = absurd (false≢true is)

-- a sector may come
pub record WasMoving (stage : Stage) : Type 0 where
  pub under : is_under_way stage ≡ false
  pub moving : is_moving stage ≡ true
  pub free : waits stage ≡ false
  pub clean : may_have_errors stage ≡ false
  pub some : nat_lt 0 (left_of stage) ≡ true

pub sector_moving : (h : Hand) (stage : Stage) (block : ℕ) → sector_may h stage block ≡ true → WasMoving stage
sector_moving h (Moving segment left last) block is = record { under = refl; moving = refl; free = refl; clean = ap not (first_of (is_clean last) (nat_lt 0 left && (block == start_of segment h)) is); some = first_of (nat_lt 0 left) (block == start_of segment h) (second_of (is_clean last) (nat_lt 0 left && (block == start_of segment h)) is) }
sector_moving h other block is = absurd (false≢true is)

-- the interrupt may come
pub record WasMoved (stage : Stage) : Type 0 where
  pub under : is_under_way stage ≡ false
  pub moving : is_moving stage ≡ true
  pub free : waits stage ≡ false
  pub strange : may_have_errors stage ≡ true → is_clean (last_of stage) ≡ false

pub intr_moving : (stage : Stage) → intr_may stage ≡ true → WasMoved stage
intr_moving (Moving segment left last) is = record { under = refl; moving = refl; free = refl; strange = not-true (is_clean last) }
intr_moving other is = absurd (false≢true is)
