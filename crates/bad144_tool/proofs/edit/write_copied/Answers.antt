use Rattle.bad144_tool.proofs.CopyLaws.{copied_then}
use Rattle.bad144_tool.proofs.MarkLaws.{does_nothing}
use Rattle.bad144_tool.proofs.edit.write_copied.Goals as goal

pub returns-in_err-read : goal.returns-in_err-read
returns-in_err-read g c =
    let read = c.in_err-read.ensures in
    does_nothing _ c.from_residual.ensures.0 read.never_again read.same read.cause

pub returns : goal.returns
returns g c =
    let read = c.in_ok-read.ensures in
    copied_then c.args.unit c.args.from c.args.to c.read.new.into read.never_again read.same read.cause.later read.block c.write_block.ensures
