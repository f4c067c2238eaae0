use Rattle.bad144_tool.proofs.ChangeLaws.{does_one, does_same}
use Rattle.bad144_tool.proofs.EditLaws.{marking_on}
use Rattle.bad144_tool.proofs.edit.write_mark.Goals as goal

pub returns : goal.returns
returns g c =
    let mark = c.set_mark.ensures in
    does_same (λ _. marking_on c.args.mark c.args.block c.if-not-mark.false) (does_one _ _ mark.never_again mark.ok mark.err mark.cause)
