-- What deeds share of what a unit may say: a step of a retry that is due, and a transfer that is told.
use Rattle.std.proofs.Common.{◌≡◌, inl, inr, ℕ, List, ◌∷◌, drop, ◌+◌, Some, ◌&&◌, true, false, refl, sym, ap, arith, ◌∙◌}
use Rattle.hardware_table.specs.Adapter.{AdapterState}
use Rattle.hardware_table.specs.Drive.{DriveState}
use Rattle.transfer_engine.specs.declared.job.Job.{Job}
use Rattle.transfer_engine.specs.State as engine
use Rattle.trace_replay.specs.Replay.{UnitSeen, hand_of}
use Rattle.trace_replay.specs.Conversation as told
use Rattle.trace_replay.specs.Moments as moment
use Rattle.driver_machine.specs.declared.RetryStep.{RetryStep}
use Rattle.driver_machine.specs.declared.Task.TheVariants.{Steps}
use Rattle.driver_machine.specs.declared.Phase.TheVariants.{Due}
use Rattle.driver_machine.specs.World.{UnitView, Held, transfer_of}
use Rattle.driver_machine.specs.Due.{steps_of}
use Rattle.driver_machine.specs.Sound.{IsBegun}
use Rattle.driver_laws.specs.shown.Stages.{step_seen, steps_seen, segment_seen, progress_with}
use Rattle.driver_laws.proofs.shown.Core.{Core, IsHead}
use Rattle.driver_laws.proofs.shown.Places.{segment_start, segment_length}
use Rattle.driver_machine.proofs.Dues.{IsAtCommand}

-- A COMMAND that is due comes where the drive may be given it.
pub record MayBeGiven (d : DriveState) (command : moment.Deed) : Type 0 where
  pub online : d.online ≡ true
  pub unlocked : told.needs_unlocked command && d.locked ≡ false
  pub valid : d.valid ≡ true

pub guarded_command : (d : DriveState) (hand : told.Hand) (command : moment.Deed) → MayBeGiven d command → told.guarded d hand command ≡ command
guarded_command d hand command may = rw (may.online, may.unlocked, may.valid) refl

pub step_stage : (h : Held) (v : UnitView) (a : AdapterState) (seen : UnitSeen) (taken : ℕ) (step : RetryStep) (left : List RetryStep)
    → Core h v a seen → v.phase ≡ Due (Steps taken) → drop taken (steps_of (transfer_of v)) ≡ step ∷ left
    → seen.stage ≡ told.Steps (step_seen step ∷ steps_seen left) (segment_seen (transfer_of v))
step_stage h v a seen taken step left is phase some = is.stage ∙ rw (phase, some) refl

-- THE TRANSFER. What the replay's segment says is the machine's.
pub record IsTransferTold (v : UnitView) (h : Held) (seen : UnitSeen) : Type 0 where
  pub write : told.is_write (hand_of seen) ≡ h.write
  pub start : told.start_of (segment_seen (transfer_of v)) (hand_of seen) ≡ (engine.segment_of (transfer_of v)).block
  pub count : told.length_of (segment_seen (transfer_of v)) (hand_of seen) ≡ (engine.segment_of (transfer_of v)).count

pub command_progress : (h : Held) (v : UnitView) (a : AdapterState) (seen : UnitSeen) → Core h v a seen → IsAtCommand v.phase
    → seen.progress ≡ progress_with 0 (transfer_of v) h
command_progress h v a seen is (inl phase) = rw phase at is.progress
command_progress h v a seen is (inr phase) = rw phase at is.progress

transfer_told : (h : Held) (v : UnitView) (a : AdapterState) (seen : UnitSeen) → Core h v a seen → IsHead h v.drive.kind seen → IsBegun v h
    → IsAtCommand v.phase → IsTransferTold v h seen
transfer_told h v a seen is head begun at =
    let progress : seen.progress ≡ progress_with 0 (transfer_of v) h = command_progress h v a seen is at in
    let done : seen.progress.done ≡ (transfer_of v).done = ap (λ (p : told.Progress). p.done) progress ∙ omega arith in
    let done_more : seen.progress.done ≡ (transfer_of v).done + 0 = ap (λ (p : told.Progress). p.done) progress in
    let kind : (transfer_of v).job.kind ≡ v.drive.kind = ap (λ (j : Job). j.kind) begun.job in
    record {
      write = rw head.head (sym head.is.write);
      start =
          segment_start (transfer_of v).index (transfer_of v).job (transfer_of v).done 0 (hand_of seen)
          (rw (begun.job, head.head, is.drive) head.is.first) done_more (λ i e. refl)
          ∙ omega arith;
      count =
          segment_length (transfer_of v).index (transfer_of v).job (transfer_of v).done (hand_of seen)
          (rw (begun.job, head.head) head.is.count) done;
    }

transfer_due : (h : Held) (v : UnitView) (a : AdapterState) (seen : UnitSeen) → Core h v a seen → IsAtCommand v.phase
    → told.due seen.drive (hand_of seen) seen.stage
    ≡ Some (told.guarded seen.drive (hand_of seen) (told.transfer_of (segment_seen (transfer_of v)) (hand_of seen)))
transfer_due h v a seen is (inl phase) = rw (is.stage, phase) refl
transfer_due h v a seen is (inr phase) = rw (is.stage, phase) refl

transfer_line : (h : Held) (v : UnitView) (seen : UnitSeen) → IsTransferTold v h seen
    → told.transfer_of (segment_seen (transfer_of v)) (hand_of seen)
    ≡ moment.Transfer h.write (engine.segment_of (transfer_of v)).block (engine.segment_of (transfer_of v)).count
transfer_line h v seen is = rw (is.write, is.start, is.count) refl

pub transfer_guarded : (h : Held) (v : UnitView) (a : AdapterState) (seen : UnitSeen) → Core h v a seen → IsHead h v.drive.kind seen → IsBegun v h
    → IsAtCommand v.phase
    → told.due seen.drive (hand_of seen) seen.stage
    ≡ Some (told.guarded seen.drive (hand_of seen)
    (moment.Transfer h.write (engine.segment_of (transfer_of v)).block (engine.segment_of (transfer_of v)).count))
transfer_guarded h v a seen is head begun at =
    transfer_due h v a seen is at
    ∙ ap (λ c. Some (told.guarded seen.drive (hand_of seen) c)) (transfer_line h v seen (transfer_told h v a seen is head begun at))
