use Rattle.contract_rows.proofs.OneRead.{means_one_read}
use Rattle.contract_rows.proofs.scripts.script_law.Goals as goal

pub returns-clause-meaning : goal.returns-clause-meaning
returns-clause-meaning c = means_one_read
