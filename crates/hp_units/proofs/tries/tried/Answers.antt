use Rattle.std.proofs.Common.{◌≡◌, ◌≢◌, ◌+◌, ℕ, Bool, Some, refl, sym, ap, ◌∙◌, subst}
use Rattle.trace_replay.specs.declared.retry_offsets.Step.{Step}
use Rattle.trace_replay.specs.declared.retry_offsets.Step.TheVariants as retry
use Rattle.trace_replay.specs.Schedule.{step_after}
use Rattle.transfer_engine.specs.State.{TransferState, failed}
use Rattle.transfer_engine.specs.Calls.{state_of, with_state, step_for}
use Rattle.transfer_engine.specs.declared.states.Transfer.{Transfer}
use Rattle.transfer_engine.specs.declared.states.Transfer.TheVariants.{Direct}
use Rattle.driver_machine.specs.declared.Task.{Task}
use Rattle.driver_machine.specs.Acts.{transfer_tried}
use Rattle.driver_machine.specs.Due.{task_for}
use Rattle.hp_units.proofs.tries.tried.Goals as goal

-- failure 28 is the last
last_step : (failures : ℕ) (reads : Bool) → failures ≡ 28 → step_after failures reads ≡ retry.GiveUp
last_step failures reads is = subst (λ n. step_after n reads ≡ retry.GiveUp) (sym is) refl

-- behind any other the transfer is there
still_there : (step : Step) (done moved : ℕ) (t : TransferState) → step ≢ retry.GiveUp → Some (failed moved t) ≡ transfer_tried (task_for step done) moved t
still_there retry.GiveUp done moved t other = absurd (other refl)
still_there it done moved t other = refl

state_in : (transfer : Transfer) (t : TransferState) → state_of (with_state transfer t) ≡ t
state_in (Direct u) t = refl
state_in other t = refl

pub returns-in-Ok-clause-next : goal.returns-in-Ok-clause-next
returns-in-Ok-clause-next c =
    c.task_of.ensures ∙ ap (λ (s : Step). task_for s (c.done.result + c.args.moved)) c.in-Ok.ensures.retry.1
    ∙ ap (λ (d : ℕ). task_for (step_for c.args.moved (state_of c.args.transfer)) (d + c.args.moved)) c.done.ensures.done

pub returns-in-Err-clause-next : goal.returns-in-Err-clause-next
returns-in-Err-clause-next c =
    let last : step_for c.args.moved (state_of c.args.transfer) ≡ retry.GiveUp = last_step _ _ (c.in-Err.ensures.exactly.0 refl) in
    rw (last, c.in-Err.ensures.exhausted) refl

pub returns-in-Ok-clause-transfer : goal.returns-in-Ok-clause-transfer
returns-in-Ok-clause-transfer c =
    let there : Some (state_of c.in-Ok.transfer) ≡ Some (failed c.args.moved (state_of c.args.transfer)) = ap (λ (t : Transfer). Some (state_of t)) c.in-Ok.ensures.retry.0 ∙ ap Some (state_in c.args.transfer _) in
    there ∙ still_there c.in-Ok.step _ c.args.moved (state_of c.args.transfer) c.in-Ok.ensures.never_last
    ∙ ap (λ (task : Task). transfer_tried task c.args.moved (state_of c.args.transfer)) (sym c.task_of.ensures)

pub returns-in-Err-clause-transfer : goal.returns-in-Err-clause-transfer
returns-in-Err-clause-transfer c = refl
