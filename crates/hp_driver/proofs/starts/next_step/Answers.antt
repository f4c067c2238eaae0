use Rattle.std.proofs.Common.{List, sym, ap, ◌∙◌}
use Rattle.transfer_engine.specs.declared.job.Job.{Job}
use Rattle.driver_machine.specs.declared.RetryStep.{RetryStep}
use Rattle.driver_machine.specs.Due.{step_of}
use Rattle.hp_core.specs.Asked.{Asked}
use Rattle.hp_driver.proofs.Facts.{steps_in}
use Rattle.hp_driver.proofs.starts.next_step.Goals as goal

pub next_step-requires : goal.next_step-requires
next_step-requires c =
    let is = steps_in _ _ _ c.requires.hand c.requires.phase in
    record {
      kind = ap (λ (j : Job). j.kind) is.0.job;
      write = ap (λ (j : Job). j.write) is.0.job ∙ sym (ap (λ (a : Asked). a.write) c.requires.hand.is);
    }

pub returns-in-Some : goal.returns-in-Some
returns-in-Some c = λ h a.
    c.sensed.ensures h a ∙ ap (λ (left : List RetryStep). step_of left c.args.taken c.args.unit.now) (sym c.in-Some.ensures.some)

pub returns-in-None : goal.returns-in-None
returns-in-None c = λ h a. ap (λ (left : List RetryStep). step_of left c.args.taken c.args.unit.now) (sym c.in-None.ensures.none)
