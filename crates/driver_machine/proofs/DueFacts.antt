-- What is known where a deed is due: the phase that calls for it, and for a command that the drive may be given it.
use Rattle.std.proofs.Common.{◌≡◌, inl, inr, ℕ, ◌+◌, Bool, true, false, List, [], ◌∷◌, drop, Option, Some, None, refl, sym, ap, subst, arith}
use Rattle.std.specs.Prelude.{if◌then◌else◌, not, ◌&&◌, ◌==◌, ◌/◌}
use Rattle.std.proofs.lemmas.Bool.{not-true, not-false}
pub use Rattle.std.proofs.lemmas.Bool.{false≢true as false_true}
use Rattle.drive_registers.specs.Codes.{offset_field}
use Rattle.hardware_table.specs.declared.Moved.{Moved}
use Rattle.hardware_table.specs.declared.Moved.TheVariants as verdict
use Rattle.pack_geometry.specs.Geometry.{sectors_of}
use Rattle.trace_replay.specs.Seek.{is_near, distance, sector_before}
use Rattle.trace_replay.specs.declared.seek_engine.Position.{Position}
use Rattle.trace_replay.specs.declared.seek_engine.Position.TheVariants as position
use Rattle.driver_machine.specs.Passes.{segment_of, entry_for}
use Rattle.trace_replay.specs.declared.requests.answers.AnswerKind.TheVariants.{Error}
use Rattle.trace_replay.specs.declared.requests.answers.Cause.TheVariants as cause
use Rattle.driver_machine.specs.declared.RetryStep.{RetryStep}
use Rattle.driver_machine.specs.declared.Task.{Task}
use Rattle.driver_machine.specs.declared.Task.TheVariants.{Clear, Judge, Steps, Command, GiveUp}
use Rattle.driver_machine.specs.declared.Phase.{Phase}
use Rattle.driver_machine.specs.declared.Phase.TheVariants.{Waiting, Queued, Due}
use Rattle.driver_machine.specs.World.{UnitView, Held, transfer_of}
use Rattle.driver_machine.specs.Acts as deed
use Rattle.driver_machine.specs.Acts.{Deed}
use Rattle.driver_machine.specs.Due.{target_of, position_of, done_with, steps_of, sensed, failed, start_by, forward_by, finished, judged, step_of, command_of, deed_for, next_by, next_of}
use Rattle.driver_machine.proofs.Dues.{Offline, Locked, Left, Unforwarded, Tried, Finished, AtStart, AtStep, AtTransfer, AtChoice, Calls, Ends, IsAtCommand, IsDue, IsJudged, MayGo}

pub none_some : {A : Type 0} {x : A} → None ≡ Some x → ⊥
none_some e = grind arith

pub some_same : {A : Type 0} {x y : A} → Some x ≡ Some y → x ≡ y
some_same e = grind arith

ready_search : {cylinder sector : ℕ} → position.Ready ≡ position.Search cylinder sector → ⊥
ready_search e = grind arith

sector_same : {c s cylinder sector : ℕ} → position.Search c s ≡ position.Search cylinder sector → s ≡ sector
sector_same e = grind arith

search_same : (b : Bool) (c s cylinder sector : ℕ) → (if b then position.Ready else position.Search c s) ≡ position.Search cylinder sector
    → (if b then position.Ready else position.Search c s) ≡ position.Search c sector
search_same true c s cylinder sector e = absurd (ready_search e)
search_same false c s cylinder sector e = ap (λ (k : ℕ). position.Search c k) (sector_same e)

-- a search is for the target's own cylinder
search_cylinder : (v : UnitView) (h : Held) (cylinder sector : ℕ) → position_of v h ≡ position.Search cylinder sector
    → position_of v h ≡ position.Search (target_of v h).cylinder sector
search_cylinder v h cylinder sector =
    search_same (v.drive.cc == (target_of v h).cylinder && is_near (distance (sectors_of v.drive.kind) (v.drive.la / 64) (target_of v h).sector))
    (target_of v h).cylinder (sector_before (sectors_of v.drive.kind) 3 (target_of v h).sector) cylinder sector

pub either : {A : Type 0} (P : A → Type 0) (b : Bool) (x y : A) → (b ≡ true → P x) → (b ≡ false → P y) → P (if b then x else y)
either P true x y holds fails = holds refl
either P false x y holds fails = fails refl

sensed_due : (writes : Bool) (v : UnitView) (h : Held) (command : Deed) → Calls v.phase → (MayGo writes v.drive → IsDue v h command)
    → (v.drive.online ≡ true → writes && v.drive.locked ≡ true → Ends v h (Error cause.Locked (done_with 0 v)))
    → IsDue v h (sensed writes v command)
sensed_due writes v h command called go locked =
    either (IsDue v h) (not v.drive.online) (failed cause.Offline 0 v)
    (if writes && v.drive.locked then failed cause.Locked 0 v else if v.drive.valid then command else deed.Pack)
    (λ off. Offline (not-true v.drive.online off) called)
    (λ on. either (IsDue v h) (writes && v.drive.locked) (failed cause.Locked 0 v) (if v.drive.valid then command else deed.Pack)
    (λ is. locked (not-false v.drive.online on) is)
    (λ free. either (IsDue v h) v.drive.valid command deed.Pack
    (λ valid. go (record { online = not-false v.drive.online on; valid = valid; unlocked = free }))
    (λ invalid. (not-false v.drive.online on, invalid, called))))

-- what is judged
forward_due : (found : Option ℕ) (moved : ℕ) (v : UnitView) (h : Held) → IsJudged v moved verdict.Marked
    → entry_for moved v.table (transfer_of v) ≡ found
    → IsDue v h (forward_by found moved v)
forward_due None moved v h is found = Unforwarded moved is found
forward_due (Some index) moved v h is found = (is, found)

judged_due : (last : Moved) (moved : ℕ) (v : UnitView) (h : Held) → IsJudged v moved last → IsDue v h (judged moved last v h)
judged_due verdict.Clean moved v h is =
    either (IsDue v h) (done_with moved v == h.loan.count) (deed.End (finished h)) (deed.Continue moved)
    (λ over. Finished moved is over) (λ more. (is, more))
judged_due (verdict.Burst at pattern) moved v h is = is
judged_due verdict.Offline moved v h is = Left moved is
judged_due verdict.Marked moved v h is =
    forward_due (entry_for moved v.table (transfer_of v)) moved v h is refl
judged_due (verdict.Faulted kind) moved v h is = (verdict.Faulted kind, tt, is, refl)
judged_due verdict.Hard moved v h is = (verdict.Hard, tt, is, refl)

-- what a task asks for
step_due : (left : List RetryStep) (taken : ℕ) (v : UnitView) (h : Held) → v.phase ≡ Due (Steps taken) → drop taken (steps_of (transfer_of v)) ≡ left
    → IsDue v h (step_of left taken v)
step_due [] taken v h is none = inr (record { taken = taken; phase = is; none = none }, refl)
step_due (step ∷ left) taken v h is some =
    sensed_due false v h (deed.Do step (taken + 1)) (subst Calls (sym is) (AtStep taken))
    (λ go. (record { before = taken; phase = is; next = refl; left = left; is = some }, go)) (λ on locked. absurd (false_true locked))

command_due : (v : UnitView) (h : Held) → Calls v.phase → IsAtCommand v.phase → IsDue v h (command_of v h)
command_due v h called is =
    sensed_due h.write v h (deed.Move h.write (segment_of (transfer_of v))) called (λ go. (is, go, refl, refl)) (λ on locked. Locked on locked is)

-- where the adapter takes a unit
pub chosen_facts : (v : UnitView) (h : Held) → v.phase ≡ Queued → IsDue v h (command_of v h)
chosen_facts v h is = command_due v h (subst Calls (sym is) AtChoice) (inr is)

task_due : (task : Task) (v : UnitView) (h : Held) → v.phase ≡ Due task → IsDue v h (deed_for task v h)
task_due (Clear moved last) v h is = is
task_due (Judge moved last) v h is =
    either (IsDue v h) (offset_field v.drive.offset == 0) (judged moved last v h) deed.Rtc
    (λ centred. judged_due last moved v h (record { phase = is; centred = centred })) (λ set. (moved, last, is, set))
task_due (Steps taken) v h is = step_due (drop taken (steps_of (transfer_of v))) taken v h is refl
task_due Command v h is = command_due v h (subst Calls (sym is) AtTransfer) (inl is)
task_due (GiveUp done) v h is = Tried done is

-- what a start asks for
start_due : (p : Position) (v : UnitView) (h : Held) → v.phase ≡ Waiting → position_of v h ≡ p
    → IsDue v h (start_by p v h)
start_due (position.Search cylinder sector) v h is at =
    sensed_due false v h (deed.Search (target_of v h) sector) (subst Calls (sym is) AtStart)
    (λ go. (is, go, refl, search_cylinder v h cylinder sector at)) (λ on locked. absurd (false_true locked))
start_due other v h is at = inl (is, refl)

-- WHAT IS DUE has what calls for it.
next_due : (phase : Phase) (v : UnitView) (h : Held) (d : Deed) → v.phase ≡ phase → next_by phase v h ≡ Some d → IsDue v h d
next_due Waiting v h d is next = subst (IsDue v h) (some_same next) (start_due (position_of v h) v h is refl)
next_due (Due task) v h d is next = subst (IsDue v h) (some_same next) (task_due task v h is)
next_due other v h d is next = absurd (none_some next)

pub due_facts : (v : UnitView) (h : Held) (d : Deed) → next_of v h ≡ Some d → IsDue v h d
due_facts v h d next = next_due v.phase v h d refl next
