use Rattle.std.proofs.Common.{◌≡◌, ℕ, ◌+◌, take, ap, arith}
use Rattle.bad144_tool.specs.Edit.{copies}
use Rattle.bad144_tool.proofs.ChangeLaws.{does_same}
use Rattle.bad144_tool.proofs.CopyLaws.{copies_front, copy_then}
use Rattle.bad144_tool.proofs.MarkLaws.{does_err, does_ok}
use Rattle.bad144_tool.proofs.edit.write_to_all.Goals as goal

pub returns-in_err-write_block : goal.returns-in_err-write_block
returns-in_err-write_block g c =
    does_err c.from_residual.ensures.0 (copies_front c.args.kind c.args.text.now (c.loop-k.k + 1)
    (copy_then c.args.kind c.args.text.now c.loop-k.k c.copy_block-block.result (omega arith) c.copy_block-block.ensures c.loop-k.invariant
    c.in_err-write_block.ensures))

pub loop-k-preserved : goal.loop-k-preserved
loop-k-preserved g c =
    does_ok (copy_then c.args.kind c.args.text.now c.loop-k.k c.copy_block-block.result (omega arith) c.copy_block-block.ensures c.loop-k.invariant
    c.in_ok-write_block.ensures)

pub returns : goal.returns
returns g c =
    let all : c.loop-k.k ≡ 5 = omega arith in
    does_same (λ _. ap (λ (n : ℕ). take n (copies c.args.kind c.args.text.now)) all) c.loop-k.invariant
