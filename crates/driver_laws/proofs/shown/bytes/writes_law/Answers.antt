use Rattle.driver_laws.proofs.shown.QuietWrites.{writes_stay}
use Rattle.driver_laws.proofs.shown.bytes.writes_law.Goals as goal

pub returns : goal.returns
returns c = writes_stay
