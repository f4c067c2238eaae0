use Rattle.driver_laws.proofs.shown.Rests.{rest_bears, new_rests}
use Rattle.driver_laws.proofs.shown.bytes.rest_law.Goals as goal

pub returns-clause-rest : goal.returns-clause-rest
returns-clause-rest c = rest_bears

pub returns-clause-new : goal.returns-clause-new
returns-clause-new c = new_rests
