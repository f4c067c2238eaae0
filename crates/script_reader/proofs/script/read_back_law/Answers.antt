use Rattle.script_reader.proofs.BackLaws.{read_back}
use Rattle.script_reader.proofs.WellLaws.{spelled_well}
use Rattle.script_reader.proofs.script.read_back_law.Goals as goal

pub returns-clause-back : goal.returns-clause-back
returns-clause-back c = read_back

pub returns-clause-well : goal.returns-clause-well
returns-clause-well c = spelled_well
