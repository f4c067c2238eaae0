use Rattle.bad144_tool.proofs.EditLaws.{first_copied, first_zeros}
use Rattle.bad144_tool.proofs.edit.write_first.Goals as goal

pub returns-then-copy : goal.returns-then-copy
returns-then-copy g c = first_copied c.args.unit _ _ c.args.block c.args.copy c.replacement.ensures c.if-copy.true c.write_copied.ensures

pub returns-else-copy : goal.returns-else-copy
returns-else-copy g c = first_zeros c.args.unit _ _ c.args.block c.args.copy c.replacement-else-copy.ensures c.if-copy.false c.write_block.ensures
