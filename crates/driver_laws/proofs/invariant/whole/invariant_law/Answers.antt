use Rattle.driver_laws.proofs.invariant.Leads.{sound_along}
use Rattle.driver_laws.proofs.invariant.Sound.{sound_after}
use Rattle.driver_laws.proofs.invariant.whole.invariant_law.Goals as goal

pub returns-clause-act : goal.returns-clause-act
returns-clause-act c = sound_after

pub returns-clause-acts : goal.returns-clause-acts
returns-clause-acts c = sound_along sound_after
