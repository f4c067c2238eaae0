-- THE BLOCKS BEHIND A REPLACEMENT come next: phase and adapter hold.
use Rattle.std.proofs.Common.{◌≡◌, ◌≢◌, ℕ, ◌+◌, ◌<◌, ◌≤◌, Option, Some, None, refl, ap, ◌∙◌, arith}
use Rattle.std.proofs.lemmas.Bool.{eqb-false}
use Rattle.hardware_table.specs.declared.Moved.TheVariants as verdict
use Rattle.transfer_engine.specs.declared.job.Job.{Job}
use Rattle.transfer_engine.specs.State.{TransferState, segment_by}
use Rattle.driver_machine.specs.declared.Task.TheVariants.{Judge, Command}
use Rattle.driver_machine.specs.Acts as deed
use Rattle.driver_machine.specs.Acts.{Scene, effect}
use Rattle.driver_machine.specs.Sound.{IsTask}
use Rattle.driver_machine.specs.World.{transfer_of}
use Rattle.driver_machine.specs.Guards.{May}
use Rattle.driver_machine.proofs.DueFacts.{none_some}
use Rattle.driver_laws.proofs.invariant.Scene.{SceneOk, due_of}
use Rattle.driver_laws.proofs.invariant.DeedFacts.{judged_is}
use Rattle.driver_laws.proofs.invariant.AdapterLeft.{SceneAdapter, AdapterLeft, is_transferring, is_queued, due_left}
use Rattle.driver_machine.proofs.Dues.{IsDue}

more_by : (index : Option ℕ) (job : Job) (done moved : ℕ) → done < job.count → moved ≤ (segment_by index job done).count → done + moved ≢ job.count
    → done + moved < job.count
more_by None job done moved left most more = grind (arith, left, most, more)
more_by (Some i) job done moved left most more = grind (arith, left, most, more)

-- CONTINUE: the next segment is the request's own
pub continue_phase : (line u p moved : ℕ) (s : Scene) → SceneOk u s → IsDue s.unit s.held (deed.Continue moved)
    → IsTask (effect line u p (deed.Continue moved) s).unit s.held Command
continue_phase line u p moved s ok due =
    let is : IsTask s.unit s.held (Judge moved verdict.Clean) = judged_is u moved verdict.Clean s ok due.0 in
    let t : TransferState = transfer_of s.unit in
    let count : t.job.count ≡ s.held.loan.count = ap (λ (j : Job). j.count) is.0.job in
    let other : t.done + moved ≢ t.job.count = λ e. eqb-false _ _ due.1 (e ∙ count) in (
      record {
        some = refl;
        is = record {
          is_job = is.0.is.is_job;
          left = more_by t.index t.job t.done moved is.0.is.left is.2.1 other;
          tries = omega arith;
          entry = λ i at. absurd (none_some at);
        };
        job = is.0.job;
        listed = λ i at. absurd (none_some at);
      },
      record { work = is.1.work; attention = is.1.attention; clear = is.1.clear },
    )

pub continue_left : (line u p moved : ℕ) (s : Scene) → SceneOk u s → SceneAdapter u s → May u (deed.Continue moved) s
    → AdapterLeft u s.adapter (effect line u p (deed.Continue moved) s).unit (effect line u p (deed.Continue moved) s).adapter
    (effect line u p (deed.Continue moved) s).held
continue_left line u p moved s ok at may =
    let due = due_of u (deed.Continue moved) s may in
    due_left u s ok at (effect line u p (deed.Continue moved) s).unit s.held (ap is_transferring due.0.phase) (ap is_queued due.0.phase) refl
