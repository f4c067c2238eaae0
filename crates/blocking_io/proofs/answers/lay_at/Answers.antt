use Rattle.std.proofs.Common.{sym, take}
use Rattle.blocking_io.proofs.Laying.{laid_behind}
use Rattle.blocking_io.proofs.answers.lay_at.Goals as goal

pub returns-else-at-into : goal.returns-else-at-into
returns-else-at-into c = sym (laid_behind c.args.at (take c.args.size c.args.block.now) c.args.into.now c.if-at-into.false)
