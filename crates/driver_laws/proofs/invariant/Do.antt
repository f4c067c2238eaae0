-- A STEP OF A RETRY: a seek stays on the drive, and behind each step phase, drive and adapter hold.
use Rattle.std.proofs.Common.{◌≡◌, inl, ℕ, zero, suc, ◌+◌, ◌<◌, ◌≤◌, List, [], ◌∷◌, drop, length, refl, sym, ap, subst, arith, rules}
use Rattle.pack_geometry.specs.Geometry.{cylinders_of, place_at}
use Rattle.hardware_table.specs.Drive.{DriveState}
use Rattle.trace_replay.specs.declared.retry_offsets.Step as retried
use Rattle.trace_replay.specs.Schedule.{step_after}
use Rattle.transfer_engine.specs.declared.job.Job.{Job}
use Rattle.transfer_engine.specs.State.{TransferState, segment_of}
use Rattle.driver_machine.specs.declared.Phase.TheVariants.{Positioning, Due}
use Rattle.driver_machine.specs.declared.Task.TheVariants.{Steps}
use Rattle.driver_machine.specs.declared.RetryStep.{RetryStep}
use Rattle.driver_machine.specs.declared.RetryStep.TheVariants.{Recalibrate, Seek, Offset}
use Rattle.driver_machine.specs.Acts.{Scene, effect, stepping}
use Rattle.driver_machine.specs.Acts as deed
use Rattle.driver_machine.specs.Sound.{IsDrive, IsBegun, IsPhase, IsTask, IsStill, IsMoving}
use Rattle.driver_machine.specs.World.{transfer_of}
use Rattle.driver_machine.specs.Guards.{May}
use Rattle.driver_machine.specs.Due.{steps_of, steps_for}
use Rattle.driver_laws.proofs.invariant.Drives.{some_cylinder, performed-seek, drive_seek, drive_recal, drive_offset}
use Rattle.driver_laws.proofs.invariant.Scene.{SceneOk, phase_is, same_ask, begun_as, due_of}
use Rattle.driver_laws.proofs.invariant.DeedFacts.{sector_inside}
use Rattle.driver_laws.proofs.invariant.AdapterLeft.{SceneAdapter, AdapterLeft, is_transferring, is_queued, due_left}
use Rattle.driver_machine.proofs.Dues.{IsDue, IsStep}

-- A STEP OF A RETRY. A seek of the schedule is for the cylinder of the sector that failed.
abbrev pub IsStepTo : ℕ → RetryStep → Type 0
IsStepTo c Recalibrate = Unit {0}
IsStepTo c (Seek cylinder) = cylinder ≡ c
IsStepTo c (Offset code) = Unit {0}

abbrev pub AreStepsTo : ℕ → List RetryStep → Type 0
AreStepsTo c [] = Unit {0}
AreStepsTo c (step ∷ steps) = IsStepTo c step × AreStepsTo c steps

steps_to : (c : ℕ) (step : retried.Step) → AreStepsTo c (steps_for c step)
steps_to c step = first_of (search rules, grind arith)

drop_to : (c n : ℕ) (steps : List RetryStep) → AreStepsTo c steps → AreStepsTo c (drop n steps)
drop_to c zero steps are = are
drop_to c (suc n) [] are = tt
drop_to c (suc n) (step ∷ steps) are = drop_to c n steps are.1

drop_few : (n : ℕ) (steps left : List RetryStep) (step : RetryStep) → drop n steps ≡ step ∷ left → n + 1 ≤ length steps
drop_few zero [] left step e = absurd (grind (arith, e))
drop_few zero (x ∷ steps) left step e = omega arith
drop_few (suc n) [] left step e = absurd (grind (arith, e))
drop_few (suc n) (x ∷ steps) left step e = let rest = drop_few n steps left step e in omega (arith, rest)

step_to : (u taken : ℕ) (step : RetryStep) (s : Scene) → IsStep s.unit step taken
    → IsStepTo (place_at (transfer_of s.unit).job.kind (segment_of (transfer_of s.unit)).block).cylinder step
step_to u taken step s is =
    let t : TransferState = transfer_of s.unit in
    let c : ℕ = (place_at t.job.kind (segment_of t).block).cylinder in
    (subst (AreStepsTo c) is.is (drop_to c is.before (steps_of t) (steps_to c (step_after t.failures _)))).0

pub seek_inside : (u taken cylinder : ℕ) (s : Scene) → IsBegun s.unit s.held → IsStep s.unit (Seek cylinder) taken → cylinder < cylinders_of s.unit.drive.kind
seek_inside u taken cylinder s is step =
    let block : ℕ = (segment_of (transfer_of s.unit)).block in
    let at : cylinder ≡ (place_at s.unit.drive.kind block).cylinder =
    subst (λ (j : Job). cylinder ≡ (place_at j.kind block).cylinder) is.job (step_to u taken (Seek cylinder) s step) in
    subst (λ n. n < cylinders_of s.unit.drive.kind) (sym at) (sector_inside s is).cylinder

step_moving : (u taken : ℕ) (step : RetryStep) (s : Scene) → SceneOk u s → IsBegun s.unit s.held → IsStill s.unit.drive → IsStep s.unit step taken
    → IsMoving (stepping step s.unit.drive) × ((stepping step s.unit.drive).kind ≡ s.unit.drive.kind)
step_moving u taken Recalibrate s ok is still step = (
  record { either = inl (some_cylinder s.unit.drive.kind, still.attention); clear = record { er1 = still.clear.er1; er2 = still.clear.er2 } },
  refl,
)
step_moving u taken (Seek cylinder) s ok is still step =
    let lt = seek_inside u taken cylinder s is step in
    let e = performed-seek s.unit.drive cylinder lt ok.drive.address in (
      subst IsMoving (sym e) (record { either = inl (lt, still.attention); clear = record { er1 = still.clear.er1; er2 = still.clear.er2 } }),
      ap (λ (d : DriveState). d.kind) e,
    )
step_moving u taken (Offset code) s ok is still step = (
  record { either = inl (ok.drive.cylinder, still.attention); clear = record { er1 = still.clear.er1; er2 = still.clear.er2 } },
  refl,
)

pub do_phase : (line u p taken : ℕ) (step : RetryStep) (s : Scene) → SceneOk u s → IsDue s.unit s.held (deed.Do step taken)
    → IsPhase u (effect line u p (deed.Do step taken) s).unit s.adapter s.held (Positioning taken)
do_phase line u p taken step s ok due =
    let is : IsTask s.unit s.held (Steps due.0.before) = phase_is u s (Due (Steps due.0.before)) ok due.0.phase in
    let moving = step_moving u taken step s ok is.0 is.1 due.0 in
    let few = drop_few due.0.before (steps_of (transfer_of s.unit)) due.0.left step due.0.is in (
      begun_as s.unit (effect line u p (deed.Do step taken) s).unit s.held s.held is.0 refl refl moving.1 (same_ask s.held),
      moving.0,
      subst (λ n. n ≤ length (steps_of (transfer_of s.unit))) (sym due.0.next) few,
    )

step_drive : (u taken : ℕ) (step : RetryStep) (s : Scene) → SceneOk u s → IsBegun s.unit s.held → IsStep s.unit step taken → IsDrive (stepping step s.unit.drive)
step_drive u taken Recalibrate s ok is step = drive_recal s.unit.drive ok.drive
step_drive u taken (Seek cylinder) s ok is step = drive_seek s.unit.drive cylinder (seek_inside u taken cylinder s is step) ok.drive
step_drive u taken (Offset code) s ok is step = drive_offset s.unit.drive code ok.drive

pub do_drive : (line u p : ℕ) (step : RetryStep) (taken : ℕ) (s : Scene) → SceneOk u s → May u (deed.Do step taken) s
    → IsDrive (effect line u p (deed.Do step taken) s).unit.drive
do_drive line u p step taken s ok may =
    let due = due_of u (deed.Do step taken) s may in
    let is : IsTask s.unit s.held (Steps due.0.before) = phase_is u s (Due (Steps due.0.before)) ok due.0.phase in
    step_drive u taken step s ok is.0 due.0

step_attention : (u taken : ℕ) (step : RetryStep) (s : Scene) → SceneOk u s → IsBegun s.unit s.held → IsStep s.unit step taken
    → (stepping step s.unit.drive).attention ≡ s.unit.drive.attention
step_attention u taken (Seek cylinder) s ok is step =
    ap (λ (d : DriveState). d.attention) (performed-seek s.unit.drive cylinder (seek_inside u taken cylinder s is step) ok.drive.address)
step_attention u taken other s ok is step = refl

pub do_left : (line u p : ℕ) (step : RetryStep) (taken : ℕ) (s : Scene) → SceneOk u s → SceneAdapter u s → May u (deed.Do step taken) s
    → AdapterLeft u s.adapter (effect line u p (deed.Do step taken) s).unit (effect line u p (deed.Do step taken) s).adapter (effect line u p (deed.Do step taken) s).held
do_left line u p step taken s ok at may =
    let due = due_of u (deed.Do step taken) s may in
    let is : IsTask s.unit s.held (Steps due.0.before) = phase_is u s (Due (Steps due.0.before)) ok due.0.phase in
    due_left u s ok at (effect line u p (deed.Do step taken) s).unit s.held (ap is_transferring due.0.phase) (ap is_queued due.0.phase)
    (step_attention u taken step s ok is.0 due.0)
