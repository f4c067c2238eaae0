use Rattle.std.proofs.Common.{sym, ap, ◌∙◌}
use Rattle.transfer_engine.specs.declared.job.Segment.{Segment}
use Rattle.driver_machine.specs.Acts.{Move}
use Rattle.driver_machine.specs.Due.{sensed}
use Rattle.hp_driver.proofs.One.{command_as}
use Rattle.hp_driver.proofs.starts.command.Goals as goal

pub returns : goal.returns
returns c = λ h a is. let v = c.args.unit.now in
    c.sensed.ensures h a
    ∙ sym (command_as v h c.args.asked _ is (ap (λ (s : Segment). sensed c.args.asked.write v (Move c.args.asked.write s)) (sym c.segment.ensures)))
