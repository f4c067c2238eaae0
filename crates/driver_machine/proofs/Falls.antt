-- Each deed that is due leaves fewer to come, or a unit that waits for an event; so the fuel of an event is never short.
use Rattle.std.proofs.Common.{◌≡◌, inl, inr, ◌⊎◌, ℕ, ◌+◌, ◌<◌, ◌≤◌, Bool, true, List, [], ◌∷◌, length, drop, Some, refl, sym, ap, subst, arith, ◌∙◌}
use Rattle.std.specs.Prelude.{if◌then◌else◌, ◌==◌}
use Rattle.drive_registers.specs.Codes.{offset_field}
use Rattle.hardware_table.specs.declared.Moved.{Moved}
use Rattle.hardware_table.specs.declared.Moved.TheVariants as verdict
use Rattle.hardware_table.specs.Drive.{DriveState}
use Rattle.trace_replay.specs.declared.retry_offsets.Step.{Step}
use Rattle.trace_replay.specs.declared.retry_offsets.Step.TheVariants as retry
use Rattle.driver_machine.specs.Passes.{Waiter}
use Rattle.driver_machine.specs.declared.Task.{Task}
use Rattle.driver_machine.specs.declared.Task.TheVariants.{Clear, Judge, Command}
use Rattle.driver_machine.specs.declared.Phase.{Phase}
use Rattle.driver_machine.specs.declared.Phase.TheVariants.{Waiting, Due}
use Rattle.driver_machine.specs.World.{UnitView}
use Rattle.driver_machine.specs.Acts as deed
use Rattle.driver_machine.specs.Acts.{Deed, Scene, effect}
use Rattle.driver_machine.specs.Due.{next_of, task_for}
use Rattle.driver_machine.proofs.Measure.{judging_left, task_left, phase_left, deeds_left, is_resting}
use Rattle.driver_machine.proofs.DueFacts.{due_facts}
use Rattle.driver_machine.proofs.Dues.{IsDue, IsJudged}

-- a unit after a deed waits for an event, or fewer deeds are to come
abbrev pub Falls : UnitView → UnitView → Type 0
Falls old new = (is_resting new.phase ≡ true) ⊎ (deeds_left new < deeds_left old)

abbrev invalid : UnitView → ℕ
invalid v = if v.drive.valid then 0 else 1

pub judging : (last : Moved) → judging_left last ≤ 4
judging verdict.Clean = omega arith
judging other = omega arith

judging_some : (last : Moved) → 3 ≤ judging_left last
judging_some verdict.Clean = omega arith
judging_some other = omega arith

task_small : (step : Step) (done : ℕ) → task_left (task_for step done) ≤ 2
task_small retry.Again done = omega arith
task_small other done = omega arith

abbrev next_in : Deed → Task
next_in (deed.Try moved block number next) = next
next_in other = Command

abbrev set_offset : UnitView → ℕ
set_offset v = if offset_field v.drive.offset == 0 then 0 else 1

-- the phase alone changes
phase_falls : (old new : UnitView) (was : Phase) → old.phase ≡ was → length new.queue ≡ length old.queue
    → invalid new ≡ invalid old → set_offset new ≡ set_offset old → phase_left new.phase < phase_left was → deeds_left new < deeds_left old
phase_falls old new was is queue volume offset fewer =
    let before : phase_left old.phase ≡ phase_left was = ap phase_left is in
    omega (arith, before, queue, volume, offset, fewer)

-- the request leaves the queue
shorter : (queue : List Waiter) → 0 < length queue → length (drop 1 queue) + 1 ≡ length queue
shorter [] some = absurd (grind (arith, some))
shorter (x ∷ rest) some = grind arith

ends_falls : (old new : UnitView) → 0 < length old.queue → new.queue ≡ drop 1 old.queue → new.drive ≡ old.drive → new.phase ≡ Waiting
    → deeds_left new < deeds_left old
ends_falls old new some queue drive phase =
    let fewer : length new.queue + 1 ≡ length old.queue = ap (λ (l : List Waiter). length l + 1) queue ∙ shorter old.queue some in
    let none : phase_left new.phase ≡ 0 = ap phase_left phase in
    let volume : invalid new ≡ invalid old = ap (λ (d : DriveState). if d.valid then 0 else 1) drive in
    let offset : set_offset new ≡ set_offset old =
    ap (λ (d : DriveState). if offset_field d.offset == 0 then 0 else 1) drive in
    sum_falls old new fewer none volume offset
  where
    sum_falls : (old new : UnitView) → length new.queue + 1 ≡ length old.queue → phase_left new.phase ≡ 0 → invalid new ≡ invalid old
        → set_offset new ≡ set_offset old → deeds_left new < deeds_left old
    sum_falls old new fewer none volume offset = omega (arith, fewer, none, volume, offset)

-- one verdict is judged, and a task of at most two deeds comes next
judged_falls : (old new : UnitView) (moved : ℕ) (last : Moved) (task : Task) → IsJudged old moved last → new.phase ≡ Due task → task_left task ≤ 2
    → length new.queue ≡ length old.queue → invalid new ≡ invalid old → set_offset new ≡ set_offset old → deeds_left new < deeds_left old
judged_falls old new moved last task is next small queue volume offset =
    let few : phase_left new.phase ≡ task_left task = ap phase_left next in
    let some : 3 ≤ judging_left last = judging_some last in
    phase_falls old new (Due (Judge moved last)) is.phase queue volume offset (omega (arith, few, some, small))

-- EACH DEED THAT IS DUE.
deed_falls : (line u p : ℕ) (d : Deed) (s : Scene) → 0 < length s.unit.queue → IsDue s.unit s.held d → Falls s.unit (effect line u p d s).unit
deed_falls line u p deed.Pack s some due =
    let was : invalid s.unit ≡ 1 = ap (λ (b : Bool). if b then 0 else 1) due.1 in
    inr (omega (arith, was))
deed_falls line u p (deed.Dclr moved last) s some due =
    let four : judging_left last ≤ 4 = judging last in
    inr (phase_falls s.unit (effect line u p (deed.Dclr moved last) s).unit (Due (Clear moved last)) due refl refl refl (omega (arith, four)))
deed_falls line u p deed.Rtc s some due =
    let was : set_offset s.unit ≡ 1 = ap (λ (b : Bool). if b then 0 else 1) due.3 in
    inr (omega (arith, was))
deed_falls line u p (deed.Repair moved at pattern) s some due =
    inr (phase_falls s.unit (effect line u p (deed.Repair moved at pattern) s).unit (Due (Judge moved (verdict.Burst at pattern))) due.phase
    refl refl refl (omega arith))
deed_falls line u p (deed.Forward moved index) s some due =
    inr (judged_falls s.unit (effect line u p (deed.Forward moved index) s).unit moved verdict.Marked Command due.0 refl (omega arith) refl refl refl)
deed_falls line u p (deed.Continue moved) s some due =
    inr (judged_falls s.unit (effect line u p (deed.Continue moved) s).unit moved verdict.Clean Command due.0 refl (omega arith) refl refl refl)
deed_falls line u p (deed.Try moved block number next) s some due =
    inr (judged_falls s.unit (effect line u p (deed.Try moved block number next) s).unit moved due.0 next due.2 refl
    (subst (λ (t : Task). task_left t ≤ 2) (sym (ap next_in due.3)) (task_small _ _)) refl refl refl)
deed_falls line u p (deed.End kind) s some due =
    inr (ends_falls s.unit (effect line u p (deed.End kind) s).unit some refl refl refl)
deed_falls line u p deed.Arrive s some due = absurd due
deed_falls line u p (deed.Sector block tried) s some due = absurd due
deed_falls line u p (deed.Intr moved last) s some due = absurd due
deed_falls line u p (deed.Attn taken) s some due = absurd due
deed_falls line u p other s some due = inl refl

pub falls : (line u p : ℕ) (d : Deed) (s : Scene) → 0 < length s.unit.queue → next_of s.unit s.held ≡ Some d
    → Falls s.unit (effect line u p d s).unit
falls line u p d s some next = deed_falls line u p d s some (due_facts s.unit s.held d next)
