use Rattle.trace_replay.specs.requests.Requests.{WriteOk}
use Rattle.hp_core.proofs.driver.Core.tell_sector.Goals as goal

pub returns-in_default : goal.returns-in_default
returns-in_default g c = c.tell.ensures WriteOk
