use Rattle.std.proofs.Common.{arith}
use Rattle.pack_format.proofs.WalkLaws.{copy_of}
use Rattle.pack_format.proofs.job.task_of.Goals as goal

pub returns-then-sector-copies-eq0 : goal.returns-then-sector-copies-eq0
returns-then-sector-copies-eq0 c = copy_of c.args.kind c.args.sector c.copy_block-copies.result c.copy_block-copies.ensures (omega arith) (omega arith) (omega arith)
