use Rattle.std.proofs.Common.{ℕ, sym, ap, ◌∙◌}
use Rattle.std.specs.Prelude.{Option}
use Rattle.trace_replay.specs.declared.requests.answers.Cause.TheVariants.{Unforwarded}
use Rattle.transfer_engine.specs.declared.job.Job.{Job}
use Rattle.driver_machine.specs.Due.{forward_by}
use Rattle.hp_core.specs.declared.deed.Deed.{Deed}
use Rattle.hp_core.specs.Deeds.{deed_in}
use Rattle.hp_driver.proofs.Facts.{judged_in}
use Rattle.hp_driver.proofs.One.{some_moved}
use Rattle.hp_driver.proofs.verdicts.replace.Goals as goal

pub entry-requires : goal.entry-requires
entry-requires c =
    let is = judged_in _ _ _ _ c.requires.hand c.requires.phase in
    record { begun = is.0.some; kind = ap (λ (j : Job). j.kind) is.0.job; moved = is.2 }

pub returns-in-Some : goal.returns-in-Some
returns-in-Some c = λ h a. ap (λ (o : Option ℕ). forward_by o c.args.moved c.args.unit.now) c.in-Some.ensures

pub returns-in-None : goal.returns-in-None
returns-in-None c = λ h a.
    ap (λ (d : Deed). deed_in d c.args.unit.now h a) c.failed.ensures
    ∙ sym (some_moved Unforwarded c.args.moved c.args.unit.now c.args.done c.requires.done)
    ∙ ap (λ (o : Option ℕ). forward_by o c.args.moved c.args.unit.now) c.in-None.ensures
