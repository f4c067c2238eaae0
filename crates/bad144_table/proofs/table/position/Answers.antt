use Rattle.bad144_table.proofs.Positions.{index_by, only_index}
use Rattle.bad144_table.proofs.table.position.Goals as goal

pub returns-clause-index : goal.returns-clause-index
returns-clause-index c =
    let found = c.first_index.ensures in
    index_by c.args.table.now c.args.place c.first_index.result found.valid found.listed found.none

pub returns-clause-listed : goal.returns-clause-listed
returns-clause-listed c =
    let found = c.first_index.ensures in
    only_index c.args.table.now c.args.place c.first_index.result found.valid (index_by c.args.table.now c.args.place c.first_index.result found.valid found.listed found.none)
