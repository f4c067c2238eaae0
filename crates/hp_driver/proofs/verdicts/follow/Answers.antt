use Rattle.std.proofs.Common.{◌+◌, sym, ap, ◌∙◌}
use Rattle.hardware_table.specs.declared.Moved.{Moved}
use Rattle.trace_replay.specs.declared.requests.answers.Cause.TheVariants.{Offline}
use Rattle.driver_machine.specs.declared.Phase.TheVariants.{Due}
use Rattle.driver_machine.specs.declared.Task.TheVariants.{Judge}
use Rattle.driver_machine.specs.Due.{judged}
use Rattle.hp_core.specs.declared.deed.Deed.{Deed}
use Rattle.hp_core.specs.Deeds.{deed_in}
use Rattle.hp_driver.proofs.Facts.{judged_in, failed_in}
use Rattle.hp_driver.proofs.One.{some_moved, try_as}
use Rattle.hp_driver.proofs.verdicts.follow.Goals as goal

pub replace-requires : goal.replace-requires
replace-requires c = record {
  hand = c.requires.hand;
  phase = c.requires.phase ∙ ap (λ (m : Moved). Due (Judge c.args.moved m)) c.in-Marked.is;
  done = ap (λ n. n + c.args.moved) c.done.ensures;
}

pub failing-block-requires : goal.failing-block-requires
failing-block-requires c =
    let is = judged_in _ _ _ _ c.requires.hand c.requires.phase in
    record { begun = is.0.some; moved = failed_in _ _ _ c.in-Faulted.is is.2 }

pub returns-in-Clean : goal.returns-in-Clean
returns-in-Clean c = λ h a is.
    c.finish.ensures c.args.unit.now h a is (ap (λ n. n + c.args.moved) c.done.ensures) ∙ ap (λ (m : Moved). judged c.args.moved m c.args.unit.now h) (sym c.in-Clean.is)

pub returns-in-Burst : goal.returns-in-Burst
returns-in-Burst c = λ h a is. ap (λ (m : Moved). judged c.args.moved m c.args.unit.now h) (sym c.in-Burst.is)

pub returns-in-Offline : goal.returns-in-Offline
returns-in-Offline c = λ h a is.
    ap (λ (d : Deed). deed_in d c.args.unit.now h a) c.failed.ensures
    ∙ sym (some_moved Offline c.args.moved c.args.unit.now _ (ap (λ n. n + c.args.moved) c.done.ensures))
    ∙ ap (λ (m : Moved). judged c.args.moved m c.args.unit.now h) (sym c.in-Offline.is)

pub returns-in-Marked : goal.returns-in-Marked
returns-in-Marked c = λ h a is. c.replace.ensures h a ∙ ap (λ (m : Moved). judged c.args.moved m c.args.unit.now h) (sym c.in-Marked.is)

pub returns-in-Faulted : goal.returns-in-Faulted
returns-in-Faulted c = λ h a is. try_as _ c.args.moved c.args.unit.now h _ _ c.in-Faulted.is c.failing-block.ensures.block c.failing-block.ensures.failures
