-- A TRY FAILED: its line may be said, and what it leaves is shown.
use Rattle.std.proofs.Common.{◌≡◌, ◌<◌, ℕ, [], ◌∷◌, ◌+◌, Option, Some, None, false, refl, sym, ap, arith, ◌∙◌, rules}
use Rattle.pack_geometry.specs.Geometry.{place_at}
use Rattle.hardware_table.specs.declared.Moved.{Moved}
use Rattle.hardware_table.specs.Adapter.{AdapterState}
use Rattle.trace_replay.specs.declared.retry_offsets.Step.{Step}
use Rattle.trace_replay.specs.declared.retry_offsets.Step.TheVariants as retry
use Rattle.transfer_engine.specs.declared.job.Job.{Job}
use Rattle.transfer_engine.specs.State.{TransferState, begun, failures_after}
use Rattle.transfer_engine.specs.State as engine
use Rattle.transfer_engine.specs.Calls.{step_for}
use Rattle.trace_replay.specs.requests.Requests.{Request}
use Rattle.trace_replay.specs.Replay.{UnitSeen, Replay, hand_of, at_unit, unit_after}
use Rattle.trace_replay.specs.Conversation as told
use Rattle.trace_replay.specs.Moments as moment
use Rattle.driver_machine.specs.declared.Task.TheVariants.{Judge}
use Rattle.driver_machine.specs.declared.Phase.TheVariants.{Due}
use Rattle.driver_machine.specs.declared.Task.{Task}
use Rattle.driver_machine.specs.World.{World, UnitView, Held, slot_in_hand, transfer_of, adapter_of, unit_at, adapter_at, held_in}
use Rattle.driver_machine.specs.Guards.{InHand}
use Rattle.driver_machine.specs.Due.{steps_of, steps_for, task_for, try_of}
use Rattle.driver_machine.specs.Acts.{with_transfer, transfer_tried}
use Rattle.driver_machine.specs.Acts as deed
use Rattle.driver_machine.specs.Sound.{Sound, IsBegun, IsTask}
use Rattle.driver_laws.specs.shown.Stages.{stage_by, IsProgress, segment_seen, progress_judged, front_of, progress_with}
use Rattle.driver_laws.proofs.shown.Told.{seen_told}
use Rattle.driver_laws.proofs.shown.Core.{Core, IsHead}
use Rattle.driver_laws.proofs.shown.Facts.{At}
use Rattle.driver_laws.proofs.shown.Plain.{plain_says, ready_plain}
use Rattle.driver_laws.proofs.shown.DeedFacts.{judged_progress, judged_start, no, said_by}
use Rattle.driver_laws.proofs.shown.Silent.{plus_none}
use Rattle.driver_laws.proofs.invariant.Try.{failed_less}
use Rattle.driver_laws.proofs.shown.Showing.{Shows, IsSaid}
use Rattle.driver_machine.proofs.Dues.{IsFailure, IsJudged}

-- A FAILURE counts, and leaves this progress.
abbrev pub progress_failed : ℕ → TransferState → Held → told.Progress
progress_failed moved t h =
    record { done = t.done + moved; failures = failures_after moved t.failures; bytes = front_of h (t.done + moved); struck = [] }

failed_progress : (last : Moved) (moved : ℕ) (t : TransferState) (h : Held) → IsFailure last → progress_judged last moved t h ≡ progress_failed moved t h
failed_progress last moved t h fails = search rules

try_stage : (last : Moved) (h : Held) (v : UnitView) (a : AdapterState) (seen : UnitSeen) (moved : ℕ) → IsFailure last → Core h v a seen
    → IsJudged v moved last
    → seen.stage ≡ told.Saying (moment.Try (told.start_of (segment_seen (transfer_of v)) (hand_of seen)) seen.progress.failures ∷ [])
    (told.failed (hand_of seen) (segment_seen (transfer_of v)))
try_stage last h v a seen moved fails is due = search rules

try_progress : (last : Moved) (h : Held) (v : UnitView) (a : AdapterState) (seen : UnitSeen) (moved : ℕ) → IsFailure last → Core h v a seen
    → IsJudged v moved last → seen.progress ≡ progress_failed moved (transfer_of v) h
try_progress last h v a seen moved fails is due =
    judged_progress last h v a seen moved is due ∙ failed_progress last moved (transfer_of v) h fails

try_talk : (last : Moved) (h : Held) (v : UnitView) (a : AdapterState) (seen : UnitSeen) (moved : ℕ) → IsFailure last → Core h v a seen
    → IsHead h v.drive.kind seen → IsBegun v h → IsJudged v moved last → ((i : ℕ) → (transfer_of v).index ≡ Some i → moved ≡ 0)
    → told.due seen.drive (hand_of seen) seen.stage
    ≡ Some (moment.Try ((engine.segment_of (transfer_of v)).block + moved) (failures_after moved (transfer_of v).failures))
try_talk last h v a seen moved fails is head begun due none =
    let progress : seen.progress ≡ progress_failed moved (transfer_of v) h = try_progress last h v a seen moved fails is due in
    let start : told.start_of (segment_seen (transfer_of v)) (hand_of seen) ≡ (engine.segment_of (transfer_of v)).block + moved =
    judged_start h v a seen moved is head begun (ap (λ (p : told.Progress). p.done) progress) none in
    let failures : seen.progress.failures ≡ failures_after moved (transfer_of v).failures = ap (λ (p : told.Progress). p.failures) progress in
    rw (try_stage last h v a seen moved fails is due, start, failures) refl

-- THE RETRY.
retried_stage : (st : Step) (cylinder moved done : ℕ) (v : UnitView) (t : TransferState) (a : AdapterState) (hand : told.Hand) (head : Option Request)
    → steps_of (engine.failed moved t) ≡ steps_for cylinder st
    → told.retried st cylinder (segment_seen t) done
    ≡ stage_by (Due (task_for st done)) (with_transfer (transfer_tried (task_for st done) moved t) (task_for st done) v) a hand head
retried_stage st cylinder moved done v t a hand head is = search rules

failed_same : (moved : ℕ) (t : TransferState) (h : Held) → progress_failed moved t h ≡ progress_with 0 (engine.failed moved t) h
failed_same moved t h =
    ap (λ n. record { done = n; failures = failures_after moved t.failures; bytes = front_of h n; struck = [] }) (plus_none (t.done + moved))

retried_progress : (st : Step) (moved : ℕ) (v : UnitView) (t : TransferState) (a : AdapterState) (h : Held) (p : told.Progress)
    → p ≡ progress_failed moved t h
    → IsProgress (Due (task_for st (t.done + moved)))
    (with_transfer (transfer_tried (task_for st (t.done + moved)) moved t) (task_for st (t.done + moved)) v) a h p
retried_progress retry.GiveUp moved v t a h p is = ap (λ (q : told.Progress). q.done) is
retried_progress other moved v t a h p is = is ∙ failed_same moved t h

failed_block : (index : Option ℕ) (job : Job) (done moved : ℕ) → ((i : ℕ) → index ≡ Some i → moved ≡ 0)
    → (engine.segment_by index job (done + moved)).block ≡ (engine.segment_by index job done).block + moved
failed_block index job done moved none = search rules

try_core : (last : Moved) (h : Held) (v : UnitView) (a : AdapterState) (seen : UnitSeen) (b : AdapterState) (moved block number : ℕ) → IsFailure last
    → Core h v a seen → IsHead h v.drive.kind seen → IsBegun v h → IsJudged v moved last → ((i : ℕ) → (transfer_of v).index ≡ Some i → moved ≡ 0)
    → Core h
    (with_transfer (transfer_tried (task_for (step_for moved (transfer_of v)) ((transfer_of v).done + moved)) moved (transfer_of v))
    (task_for (step_for moved (transfer_of v)) ((transfer_of v).done + moved)) v) a
    (seen_told seen b (moment.Try block number) [])
try_core last h v a seen b moved block number fails is head begun due none =
    let progress : seen.progress ≡ progress_failed moved (transfer_of v) h = try_progress last h v a seen moved fails is due in
    let done : seen.progress.done ≡ (transfer_of v).done + moved = ap (λ (p : told.Progress). p.done) progress in
    let failures : seen.progress.failures ≡ failures_after moved (transfer_of v).failures = ap (λ (p : told.Progress). p.failures) progress in
    let start : told.start_of (segment_seen (transfer_of v)) (hand_of seen) ≡ (engine.segment_of (transfer_of v)).block + moved =
    judged_start h v a seen moved is head begun done none in
    let write : told.is_write (hand_of seen) ≡ (transfer_of v).job.write = rw (begun.job, head.head) (sym head.is.write) in
    let kind : seen.drive.kind ≡ (transfer_of v).job.kind = rw (begun.job, is.drive) refl in
    let cylinder : (place_at (transfer_of v).job.kind (engine.segment_of (engine.failed moved (transfer_of v))).block).cylinder
    ≡ (place_at (transfer_of v).job.kind ((engine.segment_of (transfer_of v)).block + moved)).cylinder =
    ap (λ n. (place_at (transfer_of v).job.kind n).cylinder) (failed_block (transfer_of v).index (transfer_of v).job (transfer_of v).done moved none) in
    record {
      drive = is.drive;
      table = is.table;
      stage =
          rw (try_stage last h v a seen moved fails is due)
          ((rw (start, failures, done, write, kind) refl)
          ∙ retried_stage (step_for moved (transfer_of v)) (place_at (transfer_of v).job.kind ((engine.segment_of (transfer_of v)).block + moved)).cylinder
          moved ((transfer_of v).done + moved) v (transfer_of v) a (hand_of seen) None
          (ap (λ c. steps_for c (step_for moved (transfer_of v))) cylinder));
      progress = retried_progress (step_for moved (transfer_of v)) moved v (transfer_of v) a h seen.progress progress;
    }

one_sector : (index : Option ℕ) (job : Job) (done moved : ℕ) → moved < (engine.segment_by index job done).count → (i : ℕ) → index ≡ Some i → moved ≡ 0
one_sector None job done moved less i is = absurd (grind (arith, is))
one_sector (Some j) job done moved less i is = omega (arith, less)

pub try_line : (line u id : ℕ) (w : World) (s : Replay) (last : Moved) (moved : ℕ) → Sound w → Shows u w s → InHand w u id → At u id w s
    → IsFailure last → IsJudged (unit_at w u) moved last
    → IsSaid line u id w s
    (deed.Try moved ((engine.segment_of (transfer_of (unit_at w u))).block + moved) (failures_after moved (transfer_of (unit_at w u)).failures)
    (task_for (step_for moved (transfer_of (unit_at w u))) ((transfer_of (unit_at w u)).done + moved)))
    (moment.Try ((engine.segment_of (transfer_of (unit_at w u))).block + moved) (failures_after moved (transfer_of (unit_at w u)).failures))
try_line line u id w s last moved sound shows hand at fails due =
    let h : Held = held_in w (slot_in_hand (unit_at w u)) in
    let v : UnitView = unit_at w u in
    let task : IsTask v h (Judge moved last) = rw due.phase at at.ok.phase in
    let none : (i : ℕ) → (transfer_of v).index ≡ Some i → moved ≡ 0 = one_sector (transfer_of v).index (transfer_of v).job (transfer_of v).done moved (failed_less last moved (engine.segment_of (transfer_of v)).count fails task.2) in
    let waits : told.waits (s.units u).stage ≡ false =
    rw (try_stage last h v (adapter_at w (adapter_of u)).state (s.units u) moved fails at.core due) refl in
    said_by line u id w s
    (deed.Try moved ((engine.segment_of (transfer_of v)).block + moved) (failures_after moved (transfer_of v).failures)
    (task_for (step_for moved (transfer_of v)) ((transfer_of v).done + moved)))
    (moment.Try ((engine.segment_of (transfer_of v)).block + moved) (failures_after moved (transfer_of v).failures)) sound shows hand at
    (record {
      service = at.service;
      talk = try_talk last h v (adapter_at w (adapter_of u)).state (s.units u) moved fails at.core at.head task.0 due none;
      drive = tt;
      adapter = tt;
      verdict = tt;
    })
    (plain_says u id w s (moment.Try ((engine.segment_of (transfer_of v)).block + moved) (failures_after moved (transfer_of v).failures))
    (deed.with_transfer (deed.transfer_tried (task_for (step_for moved (transfer_of v)) ((transfer_of v).done + moved)) moved (transfer_of v))
    (task_for (step_for moved (transfer_of v)) ((transfer_of v).done + moved)) v) shows at
    (record { service = refl; adapter = refl; surface = refl; frames = refl; outstanding = refl; leaves = refl })
    (try_core last h v (adapter_at w (adapter_of u)).state (s.units u) (at_unit s u).state moved
    ((engine.segment_of (transfer_of v)).block + moved) (failures_after moved (transfer_of v).failures) fails at.core at.head task.0 due none)
    refl refl
    (ready_plain u id w s (told.waits (unit_after s u (moment.Try ((engine.segment_of (transfer_of v)).block + moved) (failures_after moved (transfer_of v).failures))).stage) shows at
    (λ e. grind (arith, due.phase, e)) (λ e. no waits e)))

-- a try, by its parts
pub record IsTry (moved block number : ℕ) (next : Task) (t : TransferState) : Type 0 where
  pub block_is : block ≡ (engine.segment_of t).block + moved
  pub number_is : number ≡ failures_after moved t.failures
  pub next_is : next ≡ task_for (step_for moved t) (t.done + moved)

pub try_is : (moved block number : ℕ) (next : Task) (t : TransferState) → deed.Try moved block number next ≡ try_of moved t → IsTry moved block number next t
try_is moved block number next t e = search rules
