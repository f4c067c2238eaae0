use Rattle.bad144_tool.proofs.ChangeLaws.{does_one}
use Rattle.bad144_tool.proofs.edit.write_block.Goals as goal

pub returns : goal.returns
returns g c =
    let write = c.write.ensures in
    does_one _ _ write.never_again write.ok write.err write.cause
