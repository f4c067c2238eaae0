use Rattle.std.proofs.Common.{◌≡◌, sym, ap, ◌∙◌, subst, ℕ, zero, suc, ◌+◌, List, [], ◌∷◌, drop, refl, Bool, not, Option, None, Some, slice_get, unwrap_or, IfSome, IfNone}
use Rattle.std.specs.Option.{option_map}
use Rattle.pack_geometry.specs.Geometry.{place_at}
use Rattle.trace_replay.specs.declared.retry_offsets.Step.{Step}
use Rattle.trace_replay.specs.Schedule.{step_after}
use Rattle.transfer_engine.specs.State.{TransferState, segment_of}
use Rattle.transfer_engine.specs.Calls.{state_of}
use Rattle.transfer_engine.specs.declared.states.Transfer.{Transfer}
use Rattle.driver_machine.specs.declared.RetryStep.{RetryStep}
use Rattle.driver_machine.specs.World.{no_transfer}
use Rattle.driver_machine.specs.Due.{steps_for, steps_of}
use Rattle.hp_units.proofs.Heads.{read-in-front}
use Rattle.hp_units.proofs.tries.step_in.Goals as goal

-- the step that is read is one of those of the transfer
steps_read : (t : TransferState) (cylinder failures taken : ℕ) (write : Bool) (step : Step) (r : Option RetryStep) → t.job.write ≡ write
    → cylinder ≡ (place_at t.job.kind (segment_of t).block).cylinder → failures ≡ t.failures → step ≡ step_after failures (not write)
    → r ≡ slice_get (steps_for cylinder step) taken → r ≡ slice_get (steps_of t) taken
steps_read t cylinder failures taken write step r writes here failed next read =
    read ∙ ap (λ (c : ℕ). slice_get (steps_for c step) taken) here
    ∙ ap (λ (s : Step). slice_get (steps_for (place_at t.job.kind (segment_of t).block).cylinder s) taken)
    (next ∙ ap (λ (n : ℕ). step_after n (not write)) failed ∙ ap (λ (w : Bool). step_after t.failures (not w)) (sym writes))

-- and where none is read none is left
nothing-behind : {A : Type 0} (xs : List A) (n : ℕ) → None ≡ slice_get xs n → drop n xs ≡ []
nothing-behind [] zero same = refl
nothing-behind [] (suc n) same = refl
nothing-behind (y ∷ ys) zero same = cc
nothing-behind (y ∷ ys) (suc n) same = nothing-behind ys n same

none-behind : {A : Type 0} (r : Option A) (xs : List A) (n : ℕ) → r ≡ slice_get xs n → IfNone r (drop n xs ≡ [])
none-behind (Some x) xs n same = tt
none-behind None xs n same = nothing-behind xs n same

read : (c : goal.After-step_at) → c.step_at.result ≡ slice_get (steps_of (state_of c.in-Some.transfer)) c.args.taken
read c =
    let writes = ap (λ (o : Option Transfer). (unwrap_or (option_map state_of o) no_transfer).job.write) (sym c.in-Some.is) ∙ c.requires.write in
    steps_read (state_of c.in-Some.transfer) _ _ _ c.args.write _ _ writes c.cylinder_of-cylinder.ensures c.failures.ensures.failures c.step_behind-step.ensures c.step_at.ensures

pub returns-in-Some-clause-some : goal.returns-in-Some-clause-some
returns-in-Some-clause-some c =
    subst (λ o. IfSome c.step_at.result (λ step. drop c.args.taken (steps_of (unwrap_or (option_map state_of o) no_transfer))
    ≡ step ∷ drop (c.args.taken + 1) (steps_of (unwrap_or (option_map state_of o) no_transfer)))) (sym c.in-Some.is)
    (read-in-front c.step_at.result (steps_of (state_of c.in-Some.transfer)) c.args.taken (read c))

pub returns-in-Some-clause-none : goal.returns-in-Some-clause-none
returns-in-Some-clause-none c =
    subst (λ o. IfNone c.step_at.result (drop c.args.taken (steps_of (unwrap_or (option_map state_of o) no_transfer)) ≡ [])) (sym c.in-Some.is)
    (none-behind c.step_at.result (steps_of (state_of c.in-Some.transfer)) c.args.taken (read c))
