use Rattle.std.proofs.Common.{arith}
use Rattle.bad144_tool.proofs.ChangeLaws.{does_fail, does_same}
use Rattle.bad144_tool.proofs.CopyLaws.{copied_as}
use Rattle.bad144_tool.proofs.EditLaws.{moves_from_last, moves_then}
use Rattle.bad144_tool.proofs.edit.+move_all.Goals as goal

pub returns-in_err-write_copied : goal.returns-in_err-write_copied
returns-in_err-write_copied g t c =
    does_same (λ told. moves_from_last c.args.kind _ c.args.i c.args.end (omega arith))
    (does_fail _ c.from_residual.ensures.0
    (copied_as c.args.unit _ _ _ _ _ c.replacement.ensures c.replacement-2.ensures c.in_err-write_copied.ensures))

pub returns : goal.returns
returns g t c = moves_then c.args.kind c.args.unit c.args.i c.args.end (omega arith) (omega arith)
    (copied_as c.args.unit _ _ _ _ _ c.replacement.ensures c.replacement-2.ensures c.in_ok-write_copied.ensures) c.move_all.ensures
