use Rattle.std.proofs.Common.{sym, ap, ◌∙◌}
use Rattle.driver_machine.specs.Acts.{End}
use Rattle.hp_driver.proofs.One.{finish_all, finish_some}
use Rattle.hp_driver.proofs.verdicts.finish.Goals as goal

pub returns-then-done-asked : goal.returns-then-done-asked
returns-then-done-asked c = λ v h a is are.
    ap End (c.answer-kind.ensures h is) ∙ sym (finish_all c.args.moved c.args.done v h c.args.asked is are c.if-done-asked.true)

pub returns-else-done-asked : goal.returns-else-done-asked
returns-else-done-asked c = λ v h a is are. sym (finish_some c.args.moved c.args.done v h c.args.asked is are c.if-done-asked.false)
