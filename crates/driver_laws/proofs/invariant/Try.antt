-- A TRY FAILED: what comes next leaves a phase and an adapter that hold.
use Rattle.std.proofs.Common.{◌≡◌, ◌≢◌, ℕ, ◌+◌, ◌<◌, ◌≤◌, List, Option, Some, refl, sym, ap, subst, arith, rules}
use Rattle.std.specs.Prelude.{not, slice_get}
use Rattle.pack_geometry.specs.declared.DriveKind.{DriveKind}
use Rattle.pack_geometry.specs.declared.Place.{Place}
use Rattle.pack_geometry.specs.Geometry.{place_at}
use Rattle.pack_geometry.specs.PackTable.{places_of}
use Rattle.hardware_table.specs.declared.Moved.{Moved}
use Rattle.trace_replay.specs.declared.retry_offsets.Step as retried
use Rattle.trace_replay.specs.declared.retry_offsets.Step.TheVariants as retry
use Rattle.trace_replay.specs.Schedule.{step_after}
use Rattle.transfer_engine.specs.declared.job.Job.{Job}
use Rattle.transfer_engine.specs.State.{TransferState, segment_by, segment_of, failures_after}
use Rattle.transfer_engine.specs.State as transfer
use Rattle.transfer_engine.specs.Calls.{step_for}
use Rattle.driver_machine.specs.declared.Task.TheVariants.{Judge, Steps, Command}
use Rattle.driver_machine.specs.declared.Task.{Task}
use Rattle.driver_machine.specs.Acts.{Scene, effect, with_transfer, transfer_tried}
use Rattle.driver_machine.specs.Acts as deed
use Rattle.driver_machine.specs.Sound.{IsBegun, IsTask, IsStill, IsEndedAt}
use Rattle.driver_machine.specs.World.{transfer_of}
use Rattle.driver_machine.specs.Guards.{May}
use Rattle.driver_machine.specs.Due.{task_for, done_with}
use Rattle.driver_laws.proofs.invariant.Scene.{SceneOk, due_of}
use Rattle.driver_laws.proofs.invariant.DeedFacts.{left_by, judged_is}
use Rattle.driver_laws.proofs.invariant.AdapterLeft.{SceneAdapter, AdapterLeft, is_transferring, is_queued, due_left}
use Rattle.driver_machine.proofs.Dues.{IsDue, IsFailure}

failures_few : (moved failures : ℕ) → failures ≤ 27 → failures_after moved failures ≢ 28 → failures_after moved failures ≤ 27
failures_few moved failures most other = first_of (search rules, grind arith)

-- A TRY FAILED. A verdict other than clean came in front of the segment's end.
pub failed_less : (last : Moved) (moved count : ℕ) → IsFailure last → IsEndedAt last moved count → moved < count
failed_less last moved count h0 h1 = first_of (search rules, grind arith)

-- what is listed stays so where the place does not move on
listed_on : (index : Option ℕ) (job : Job) (places : List Place) (kind : DriveKind) (first done moved : ℕ) → moved < (segment_by index job done).count
    → ((i : ℕ) → index ≡ Some i → slice_get places i ≡ Some (place_at kind (first + done))) → (i : ℕ) → index ≡ Some i
    → slice_get places i ≡ Some (place_at kind (first + (done + moved)))
listed_on index job places kind first done moved h0 h1 i h2 = first_of (search rules, grind arith)

failed_begun : (moved : ℕ) (task : Task) (s : Scene) → IsBegun s.unit s.held → moved < (segment_of (transfer_of s.unit)).count
    → failures_after moved (transfer_of s.unit).failures ≢ 28
    → IsBegun (with_transfer (Some (transfer.failed moved (transfer_of s.unit))) task s.unit) s.held
failed_begun moved task s is less few =
    let t : TransferState = transfer_of s.unit in
    record {
      some = refl;
      is = record {
        is_job = is.is.is_job;
        left = left_by t.index t.job t.done moved is.is.left less;
        tries = failures_few moved t.failures is.is.tries few;
        entry = is.is.entry;
      };
      job = is.job;
      listed = listed_on t.index t.job (places_of s.unit.table) s.unit.drive.kind s.held.first t.done moved less is.listed;
    }

last_try : (moved : ℕ) (t : TransferState) → failures_after moved t.failures ≡ 28 → step_for moved t ≡ retry.GiveUp
last_try moved t e = ap (λ n. step_after n (not t.job.write)) e

try_by : (step : retried.Step) (moved : ℕ) (s : Scene) → IsBegun s.unit s.held → IsStill s.unit.drive → moved < (segment_of (transfer_of s.unit)).count
    → step_for moved (transfer_of s.unit) ≡ step
    → IsTask (with_transfer (transfer_tried (task_for step (done_with moved s.unit)) moved (transfer_of s.unit)) (task_for step (done_with moved s.unit)) s.unit)
    s.held (task_for step (done_with moved s.unit))
try_by retry.Again moved s is still less at = (
  failed_begun moved Command s is less (λ e. absurd (grind (arith, at, last_try moved (transfer_of s.unit) e))),
  record { work = still.work; attention = still.attention; clear = still.clear },
)
try_by retry.GiveUp moved s is still less at =
    let t : TransferState = transfer_of s.unit in
    let count : t.job.count ≡ s.held.loan.count = ap (λ (j : Job). j.count) is.job in (
      refl,
      record { work = still.work; attention = still.attention; clear = still.clear },
      subst (λ n. t.done + moved < n) count (left_by t.index t.job t.done moved is.is.left less),
    )
try_by other moved s is still less at = (
  failed_begun moved (Steps 0) s is less (λ e. absurd (grind (arith, at, last_try moved (transfer_of s.unit) e))),
  record { work = still.work; attention = still.attention; clear = still.clear },
  omega arith,
)

pub next_of_try : (moved block number many from count : ℕ) (next task : Task) → deed.Try moved block number next ≡ deed.Try many from count task → next ≡ task
next_of_try moved block number many from count next task e = cc

pub try_phase : (line u p moved block number : ℕ) (next : Task) (s : Scene) → SceneOk u s → IsDue s.unit s.held (deed.Try moved block number next)
    → IsTask (effect line u p (deed.Try moved block number next) s).unit s.held next
try_phase line u p moved block number next s ok due =
    let last : Moved = due.0 in
    let is : IsTask s.unit s.held (Judge moved last) = judged_is u moved last s ok due.2 in
    let less : moved < (segment_of (transfer_of s.unit)).count = failed_less last moved _ due.1 is.2 in
    let same : next ≡ task_for (step_for moved (transfer_of s.unit)) (done_with moved s.unit) = next_of_try _ _ _ _ _ _ _ _ due.3 in
    subst (λ (task : Task). IsTask (with_transfer (transfer_tried task moved (transfer_of s.unit)) task s.unit) s.held task) (sym same)
    (try_by (step_for moved (transfer_of s.unit)) moved s is.0 is.1 less refl)

pub try_left : (line u p moved block number : ℕ) (next : Task) (s : Scene) → SceneOk u s → SceneAdapter u s → May u (deed.Try moved block number next) s
    → AdapterLeft u s.adapter (effect line u p (deed.Try moved block number next) s).unit (effect line u p (deed.Try moved block number next) s).adapter
    (effect line u p (deed.Try moved block number next) s).held
try_left line u p moved block number next s ok at may =
    let due = due_of u (deed.Try moved block number next) s may in
    due_left u s ok at (effect line u p (deed.Try moved block number next) s).unit s.held (ap is_transferring due.2.phase) (ap is_queued due.2.phase) refl
